-- Laws of a merge.
use Rattle.std.specs.Prelude.{◌≡◌, ℕ, ◌<◌, List, [], ◌∷◌, ◌++◌, Bool, true, false, Option, Some, None, ⊤, refl, length, slice_get, slice_set}
use Rattle.std.proofs.Common.{zero, suc, sym, ◌∙◌, ap, subst, inl, inr, arith}
use Rattle.std.specs.List.{AllZip, insert, remove}
use Rattle.std.proofs.lemmas.Slice.Zip.{AllZip-long}
use Rattle.cold_flow.specs.declared.cause.Cause.{Cause}
use Rattle.cold_flow.specs.declared.cause.Cause.TheVariants.{Finished, Refused, Cancelled}
use Rattle.flow_terms.specs.declared.refusal.Refusal.TheVariants.{NoMemory}
use Rattle.cold_flow.specs.declared.event.Event.TheVariants.{Value, End}
use Rattle.flow_merge.specs.declared.flows.inner_answer.InnerAnswer.{InnerAnswer}
use Rattle.flow_merge.specs.declared.flows.inner_answer.InnerAnswer.TheVariants.{Gave as GaveEvent, Left, Followed, OuterWaits, Waits}
use Rattle.cold_flow.specs.Trace.{Trace, so_far, ended_by, led_by}
use Rattle.cold_flow.specs.Poll.{Traces, After, Within, Unless, OrRefused}
use Rattle.flow_merge.specs.Standing.{Gave, Ended, StandsBefore}
use Rattle.flow_merge.specs.StandingLaws.{insert-last}
use Rattle.flow_merge.specs.Merge.{Merges, MayMerge, AsksInner}
use Rattle.flow_merge.specs.Merge.Merges.{stops, gives, leaves, begins, finishes, outer_ends, inner_ends}
use Rattle.flow_merge.specs.Combine.{OrFinished}
use Rattle.flow_merge.specs.PlaceLaws.{Placed, itself, among, whose, placed_none, placed_longer, placed-append, placed_last}
use Rattle.flow_merge.specs.PlaceLaws.Placed.{here, behind}

-- the traces of the runs that stand and of one more
record Joined {B E R : Type 0} (may : R → Traces B E) (runs : List R) (r : R) (traces : List (Trace B E)) : Type 0 where
  pub others : List (Trace B E)
  pub own : Trace B E
  pub placed : Placed own others traces
  pub stand : AllZip may runs others
  pub came : may r own

at_end : {X : Type 0} (xs : List X) (x : X) → slice_get (xs ++ x ∷ []) (length xs) ≡ Some x
at_end [] x = refl
at_end (y ∷ xs) x = at_end xs x

-- the outer may have given nothing more
pub outer_begins : {A E : Type 0} (finished : Bool) (outer : Traces A E) → outer (so_far []) → (t : Trace A E) × OrFinished finished outer t
outer_begins true outer h = (ended_by [] Finished, refl)
outer_begins false outer h = (so_far [], h)

module _ {B E R : Type 0} (may : R → Traces B E) where
  joined_by : (runs : List R) (at : ℕ) (r : R) (traces : List (Trace B E)) → AllZip may (insert runs at r) traces → Joined may runs r traces
  joined_by runs zero r [] all = absurd all
  joined_by runs zero r (t ∷ traces) all = record { others = traces; own = t; placed = here; stand = all.1; came = all.0 }
  joined_by [] (suc at) r [] all = absurd all
  joined_by [] (suc at) r (t ∷ traces) all = record { others = traces; own = t; placed = here; stand = all.1; came = all.0 }
  joined_by (x ∷ runs) (suc at) r [] all = absurd all
  joined_by (x ∷ runs) (suc at) r (t ∷ traces) all =
      let j = joined_by runs at r traces all.1 in
      record { others = t ∷ j.others; own = j.own; placed = behind j.placed; stand = (all.0, j.stand); came = j.came }

  -- any runs may have given nothing yet
  pub all_begin : ((r : R) → may r (so_far [])) → (runs : List R) → (ts : List (Trace B E)) × AllZip may runs ts
  all_begin h [] = ([], tt)
  all_begin h (r ∷ runs) = let rest = all_begin h runs in (so_far [] ∷ rest.0, (h r, rest.1))

-- What may come doesn't depend on where one of the traces stands.
module _ {A B E : Type 0} (limit : ℕ) (inner : A → Traces B E) where
  moved : {these : List (Trace B E)} {outer : Trace A E} {out : Trace B E} → Merges limit inner these outer out
      → (u : Trace B E) (others those : List (Trace B E)) → Placed u others these → Placed u others those → Merges limit inner those outer out
  moved stops u others those p q = stops
  moved (begins x t room came m) u others those p q =
      begins x t (subst (λ (n : ℕ). n < limit) (placed_longer p ∙ sym (placed_longer q)) room) came
      (moved m u (others ++ t ∷ []) (those ++ t ∷ []) (placed-append p t) (placed-append q t))
  moved (gives at v t is m) u others those p q =
      elim (whose p at (led_by v t) is) [
        | inl found ↦
            let own = itself q in
            gives own.0 v t (own.1.is ∙ ap Some found.0) (moved m t others (slice_set those own.0 t) (found.1.changed t) (own.1.changed t))
        | inr found ↦
            let other = among q found.0 (led_by v t) found.1.was in
            gives other.0 v t other.1.is
            (moved m u (slice_set others found.0 t) (slice_set those other.0 t) (found.1.changed t) (other.1.changed t))
      ]
  moved (leaves {outer = outer} {out = out} at is m) u others those p q =
      elim (whose p at (ended_by [] Finished) is) [
        | inl found ↦
            let own = itself q in
            leaves own.0 (own.1.is ∙ ap Some found.0)
            (subst (λ (ts : List (Trace B E)). Merges limit inner ts outer out) (found.1.left ∙ sym own.1.left) m)
        | inr found ↦
            let other = among q found.0 (ended_by [] Finished) found.1.was in
            leaves other.0 other.1.is (moved m u (remove others found.0) (remove those other.0) found.1.left other.1.left)
      ]
  moved finishes u others those p q = absurd (placed_none p)
  moved (outer_ends k room fails) u others those p q =
      outer_ends k (subst (λ (n : ℕ). n < limit) (placed_longer p ∙ sym (placed_longer q)) room) fails
  moved (inner_ends at k is fails) u others those p q =
      elim (whose p at (ended_by [] k) is) [
        | inl found ↦ let own = itself q in inner_ends own.0 k (own.1.is ∙ ap Some found.0) fails
        | inr found ↦ let other = among q found.0 (ended_by [] k) found.1.was in inner_ends other.0 k other.1.is fails
      ]

module _ {A B E R : Type 0} (limit : ℕ) (inner : A → Traces B E) (may : R → Traces B E) where
  pub merge_gives : (old new : List R) (outer : Traces A E) (at : ℕ) (v : B)
      → ((ts : List (Trace B E)) → AllZip may new ts → Gave may old at v ts)
      → After (MayMerge limit inner may old outer) v (MayMerge limit inner may new outer)
  merge_gives old new outer at v answered t h =
      let g = answered h.standing h.stand in
      record {
        standing = g.before;
        of_outer = h.of_outer;
        stand = g.stand;
        outer_came = h.outer_came;
        merges = gives at v g.rest g.first (subst (λ (ts : List (Trace B E)). Merges limit inner ts h.of_outer t) (sym g.left) h.merges);
      }

  pub merge_leaves : (old new : List R) (outer : Traces A E) (at : ℕ)
      → ((ts : List (Trace B E)) → AllZip may new ts → Ended may old at Finished ts)
      → Within (MayMerge limit inner may old outer) (MayMerge limit inner may new outer)
  merge_leaves old new outer at answered t h =
      let g = answered h.standing h.stand in
      record {
        standing = g.before;
        of_outer = h.of_outer;
        stand = g.stand;
        outer_came = h.outer_came;
        merges = leaves at g.first (subst (λ (ts : List (Trace B E)). Merges limit inner ts h.of_outer t) (sym g.left) h.merges);
      }

  pub merge_waits : (old new : List R) (outer : Traces A E)
      → ((ts : List (Trace B E)) → AllZip may new ts → AllZip may old ts)
      → Within (MayMerge limit inner may old outer) (MayMerge limit inner may new outer)
  merge_waits old new outer answered t h =
      record { standing = h.standing; of_outer = h.of_outer; stand = answered h.standing h.stand; outer_came = h.outer_came; merges = h.merges }

  pub merge_fails : (old new : List R) (outer : Traces A E) (at : ℕ) (k : Cause E) → ((r : R) → may r (so_far [])) → (t : Trace A E) × outer t
      → ((ts : List (Trace B E)) → AllZip may new ts → Ended may old at k ts) → (k ≡ Finished → ⊥)
      → MayMerge limit inner may old outer (ended_by [] k)
  merge_fails old new outer at k begun outer_begun answered fails =
      let all = all_begin may begun new in
      let g = answered all.0 all.1 in
      record { standing = g.before; of_outer = outer_begun.0; stand = g.stand; outer_came = outer_begun.1; merges = inner_ends at k g.first fails }

  pub merge_begins : (runs : List R) (at : ℕ) (r : R) (old new : Traces A E) (x : A) → After old x new → length runs < limit
      → ((t : Trace B E) → may r t → inner x t) → Within (MayMerge limit inner may runs old) (MayMerge limit inner may (insert runs at r) new)
  merge_begins runs at r old new x after room starts t h =
      let j = joined_by may runs at r h.standing h.stand in
      record {
        standing = j.others;
        of_outer = led_by x h.of_outer;
        stand = j.stand;
        outer_came = after h.of_outer h.outer_came;
        merges =
            begins x j.own (subst (λ (n : ℕ). n < limit) (sym (AllZip-long may runs j.others j.stand)) room) (inl (starts j.own j.came))
            (moved limit inner h.merges j.own j.others (j.others ++ j.own ∷ []) j.placed (placed_last j.others j.own));
      }

  pub merge_begins_before : (runs now : List R) (turn next : ℕ) (r : R) (old new : Traces A E) (x : A) → StandsBefore runs turn r now next
      → After old x new → length runs < limit → ((t : Trace B E) → may r t → inner x t)
      → Within (MayMerge limit inner may runs old) (MayMerge limit inner may now new)
  merge_begins_before runs now turn next r old new x (inl h) after room starts =
      subst (λ (rs : List R). Within (MayMerge limit inner may runs old) (MayMerge limit inner may rs new)) (sym h.0)
      (merge_begins runs turn r old new x after room starts)
  merge_begins_before runs now turn next r old new x (inr h) after room starts =
      subst (λ (rs : List R). Within (MayMerge limit inner may runs old) (MayMerge limit inner may rs new)) (insert-last runs r ∙ sym h.1)
      (merge_begins runs (length runs) r old new x after room starts)

  pub merge_outer_waits : (runs : List R) (old new : Traces A E) → Within old new
      → Within (MayMerge limit inner may runs old) (MayMerge limit inner may runs new)
  merge_outer_waits runs old new within t h =
      record { standing = h.standing; of_outer = h.of_outer; stand = h.stand; outer_came = within h.of_outer h.outer_came; merges = h.merges }

  pub merge_outer_fails : (runs : List R) (outer : Traces A E) (k : Cause E) → ((r : R) → may r (so_far [])) → length runs < limit
      → outer (ended_by [] k) → (k ≡ Finished → ⊥) → MayMerge limit inner may runs outer (ended_by [] k)
  merge_outer_fails runs outer k begun room came fails =
      let all = all_begin may begun runs in
      record {
        standing = all.0;
        of_outer = ended_by [] k;
        stand = all.1;
        outer_came = came;
        merges = outer_ends k (subst (λ (n : ℕ). n < limit) (sym (AllZip-long may runs all.0 all.1)) room) fails;
      }

  -- the outer has finished
  pub merge_outer_finishes : (runs : List R) (old new : Traces A E) → old (ended_by [] Finished)
      → Within (MayMerge limit inner may runs old) (MayMerge limit inner may runs (OrFinished true new))
  merge_outer_finishes runs old new came t h =
      record { standing = h.standing; of_outer = h.of_outer; stand = h.stand; outer_came = subst old (sym h.outer_came) came; merges = h.merges }

  pub merge_finishes : (runs : List R) (finished : Bool) (outer : Traces A E) → length runs ≡ 0 → finished ≡ true
      → MayMerge limit inner may runs (OrFinished finished outer) (ended_by [] Finished)
  merge_finishes [] finished outer none is =
      subst (λ (b : Bool). MayMerge limit inner may [] (OrFinished b outer) (ended_by [] Finished)) (sym is)
      (record { standing = []; of_outer = ended_by [] Finished; stand = tt; outer_came = refl; merges = finishes })
  merge_finishes (r ∷ runs) finished outer none is = absurd (omega arith)

  pub merge_begun : (runs : List R) (outer : Traces A E) → ((r : R) → may r (so_far [])) → (t : Trace A E) × outer t
      → MayMerge limit inner may runs outer (so_far [])
  merge_begun runs outer begun came =
      let all = all_begin may begun runs in
      record { standing = all.0; of_outer = came.0; stand = all.1; outer_came = came.1; merges = stops }

  -- a refused start ends it
  pub merge_refused : (runs : List R) (old new : Traces A E) (x : A) → After old x new → new (so_far []) → length runs < limit
      → ((r : R) → may r (so_far [])) → MayMerge limit inner may runs old (ended_by [] (Refused NoMemory))
  merge_refused runs old new x after begun room each =
      let all = all_begin may each runs in
      record {
        standing = all.0;
        of_outer = led_by x (so_far []);
        stand = all.1;
        outer_came = after (so_far []) begun;
        merges =
            begins x (ended_by [] (Refused NoMemory)) (subst (λ (n : ℕ). n < limit) (sym (AllZip-long may runs all.0 all.1)) room) (inr refl)
            (inner_ends (length all.0) (Refused NoMemory) (at_end all.0 (ended_by [] (Refused NoMemory))) (λ e. absurd (cc)));
      }

-- until the run has ended, a part of what could come is a part
pub unless-within : {A E : Type 0} (ended : Option (Cause E)) (old new : Traces A E) → ended ≡ None → Within old new
    → Within (Unless ended old) (Unless ended new)
unless-within None old new is within = λ t h. within t h
unless-within (Some k) old new is within = absurd (cc)

-- what a question to an inner run says, where a part of what could come is known
pub asks-within : {B E : Type 0} (old mid new : Traces B E) (answer : InnerAnswer B E) → AsksInner mid answer new → Within old mid
    → AsksInner old answer new
asks-within old mid new (GaveEvent (Value v)) asked within = λ t h. within (led_by v t) (asked t h)
asks-within old mid new (GaveEvent (End k)) asked within = within (ended_by [] k) asked
asks-within old mid new Left asked within = λ t h. within t (asked t h)
asks-within old mid new Followed asked within = λ t h. within t (asked t h)
asks-within old mid new OuterWaits asked within = λ t h. within t (asked t h)
asks-within old mid new Waits asked within = λ t h. within t (asked t h)

-- ---- it ends by `Cancelled` only where a source does

module _ {B E : Type 0} where
  abbrev NoneCancelled : List (Trace B E) → Type 0
  NoneCancelled [] = ⊤
  NoneCancelled (t ∷ ts) = (t.1 ≡ Some Cancelled → ⊥) × NoneCancelled ts

  none-append : (ts : List (Trace B E)) (t : Trace B E) → NoneCancelled ts → (t.1 ≡ Some Cancelled → ⊥) → NoneCancelled (ts ++ t ∷ [])
  none-append [] t all h = (h, tt)
  none-append (u ∷ ts) t all h = (all.0, none-append ts t all.1 h)

  none-get : (ts : List (Trace B E)) (at : ℕ) (t : Trace B E) → NoneCancelled ts → slice_get ts at ≡ Some t → t.1 ≡ Some Cancelled → ⊥
  none-get [] at t all is e = absurd (cc)
  none-get (u ∷ ts) zero t all is e = let same : u ≡ t = cc in all.0 (ap (λ (x : Trace B E). x.1) same ∙ e)
  none-get (u ∷ ts) (suc at) t all is e = none-get ts at t all.1 is e

  none-set : (ts : List (Trace B E)) (at : ℕ) (t : Trace B E) → NoneCancelled ts → (t.1 ≡ Some Cancelled → ⊥) → NoneCancelled (slice_set ts at t)
  none-set [] at t all h = tt
  none-set (u ∷ ts) zero t all h = (h, all.1)
  none-set (u ∷ ts) (suc at) t all h = (all.0, none-set ts at t all.1 h)

  none-remove : (ts : List (Trace B E)) (at : ℕ) → NoneCancelled ts → NoneCancelled (remove ts at)
  none-remove [] zero all = tt
  none-remove [] (suc at) all = tt
  none-remove (u ∷ ts) zero all = all.1
  none-remove (u ∷ ts) (suc at) all = (all.0, none-remove ts at all.1)

module _ {A B E : Type 0} (limit : ℕ) (inner : A → Traces B E) (none_inner : (x : A) (xs : List B) → inner x (ended_by xs Cancelled) → ⊥) where
  start-uncancelled : (x : A) (t : Trace B E) → OrRefused (inner x) t → t.1 ≡ Some Cancelled → ⊥
  start-uncancelled x t (inl h) e = none_inner x t.0 (subst (λ (o : Option (Cause E)). inner x (t.0, o)) e h)
  start-uncancelled x t (inr is) e = let k : Some (Refused NoMemory) ≡ Some Cancelled = sym (ap (λ (u : Trace B E). u.1) is) ∙ e in cc

  merges-uncancelled : (standing : List (Trace B E)) (outer : Trace A E) (out : Trace B E) → Merges limit inner standing outer out → NoneCancelled standing
      → (outer.1 ≡ Some Cancelled → ⊥) → out.1 ≡ Some Cancelled → ⊥
  merges-uncancelled _ _ _ stops all none e = absurd (cc)
  merges-uncancelled _ _ _ (begins {standing = standing} {outer = outer} {out = out} x t room came m) all none e =
      merges-uncancelled (standing ++ t ∷ []) outer out m (none-append standing t all (start-uncancelled x t came)) none e
  merges-uncancelled _ _ _ (gives {standing = standing} {outer = outer} {out = out} at v t is m) all none e =
      merges-uncancelled (slice_set standing at t) outer out m (none-set standing at t all (none-get standing at (led_by v t) all is)) none e
  merges-uncancelled _ _ _ (leaves {standing = standing} {outer = outer} {out = out} at is m) all none e =
      merges-uncancelled (remove standing at) outer out m (none-remove standing at all) none e
  merges-uncancelled _ _ _ finishes all none e = absurd (cc)
  merges-uncancelled _ _ _ (outer_ends k room fails) all none e = none e
  merges-uncancelled _ _ _ (inner_ends {standing = standing} at k is fails) all none e = none-get standing at (ended_by [] k) all is e

  none-standing : {R : Type 0} (may : R → Traces B E) (ts : List (Trace B E)) → AllZip may [] ts → NoneCancelled ts
  none-standing may [] all = tt
  none-standing may (t ∷ ts) all = absurd all

  pub merge_uncancelled : {R : Type 0} (may : R → Traces B E) (outer : Traces A E) → ((xs : List A) → outer (ended_by xs Cancelled) → ⊥)
      → (zs : List B) → MayMerge limit inner may [] outer (ended_by zs Cancelled) → ⊥
  merge_uncancelled may outer none zs h =
      merges-uncancelled h.standing h.of_outer (ended_by zs Cancelled) h.merges (none-standing may h.standing h.stand)
      (λ e. none h.of_outer.0 (subst (λ (o : Option (Cause E)). outer (h.of_outer.0, o)) e h.outer_came)) refl
