-- Laws of `flat_map_concat`.
use Rattle.std.specs.Prelude.{◌≡◌, Bool, true, false, IsTrue, List, [], ◌∷◌, ◌++◌, Option, Some, None, ◌⊎◌, map, refl}
use Rattle.std.proofs.Common.{sym, ◌∙◌, ap, subst, inl, inr, append_assoc}
use Rattle.std.specs.List.{AllZip}
use Rattle.std.proofs.lemmas.List.{append-nil}
use Rattle.cold_flow.specs.declared.cause.Cause.{Cause}
use Rattle.cold_flow.specs.declared.cause.Cause.TheVariants.{Finished, Failed, Cancelled, Refused}
use Rattle.flow_terms.specs.declared.refusal.Refusal.TheVariants.{NoMemory}
use Rattle.cold_flow.specs.Trace.{Trace, ◌⊑◌, so_far, ended_by, led_by}
use Rattle.cold_flow.specs.Poll.{Traces, Within, After, Beginnings, OrRefused}
use Rattle.cold_flow.specs.Laws.{begins-any, led-begins, ended-begins}
use Rattle.flow_merge.specs.Concat.{followed_by, joined, OrUnstarted, MayConcat}

module _ {B E : Type 0} where
  led-followed : (v : B) (t u : Trace B E) → followed_by (led_by v t) u ≡ led_by v (followed_by t u)
  led-followed v (xs, None) u = refl
  led-followed v (xs, Some Finished) u = refl
  led-followed v (xs, Some (Failed e)) u = refl
  led-followed v (xs, Some Cancelled) u = refl
  led-followed v (xs, Some (Refused r)) u = refl

  -- after an end other than `Finished` nothing follows
  pub nothing-follows : (xs : List B) (k : Cause E) (u : Trace B E) → (k ≡ Finished → ⊥) → followed_by (ended_by xs k) u ≡ ended_by xs k
  nothing-follows xs Finished u fails = absurd (fails refl)
  nothing-follows xs (Failed e) u fails = refl
  nothing-follows xs Cancelled u fails = refl
  nothing-follows xs (Refused r) u fails = refl

  pub inner-started : (starts : Bool) (gives : Traces B E) (t : Trace B E) → gives t → OrUnstarted starts gives t
  inner-started true gives t h = h
  inner-started false gives t h = inl h

  inner-refused : (starts : Bool) (gives : Traces B E) → (IsTrue starts → false ≡ true) → OrUnstarted starts gives (ended_by [] (Refused NoMemory))
  inner-refused true gives none = absurd (let wrong = none refl in cc)
  inner-refused false gives none = inr refl

  may-refuse : (starts : Bool) (gives : Traces B E) (t : Trace B E) → OrUnstarted starts gives t → OrRefused gives t
  may-refuse true gives t h = inl h
  may-refuse false gives t h = h

  none-refused : (starts : Bool) (gives : Traces B E) (t : Trace B E) → IsTrue starts → OrUnstarted starts gives t → gives t
  none-refused true gives t can h = h
  none-refused false gives t can h = absurd (cc)

module _ {A B E : Type 0} (starts : A → Bool) (inner : A → Traces B E) where
  all-refusable : (xs : List A) (ts : List (Trace B E)) → AllZip (λ x. OrUnstarted (starts x) (inner x)) xs ts → AllZip (λ x. OrRefused (inner x)) xs ts
  all-refusable [] [] all = all
  all-refusable [] (t ∷ ts) all = absurd all
  all-refusable (x ∷ xs) [] all = absurd all
  all-refusable (x ∷ xs) (t ∷ ts) all = (may-refuse (starts x) (inner x) t all.0, all-refusable xs ts all.1)

  all-started : ((x : A) → IsTrue (starts x)) → (xs : List A) (ts : List (Trace B E))
      → AllZip (λ x. OrUnstarted (starts x) (inner x)) xs ts → AllZip inner xs ts
  all-started each [] [] all = all
  all-started each [] (t ∷ ts) all = absurd all
  all-started each (x ∷ xs) [] all = absurd all
  all-started each (x ∷ xs) (t ∷ ts) all = (none-refused (starts x) (inner x) t (each x) all.0, all-started each xs ts all.1)

module _ {A B E R : Type 0} (starts : A → Bool) (inner : A → Traces B E) (may : R → Traces B E) where
  pub concat_begins : (standing : Option R) (outer : Traces A E) → ((r : R) → may r (so_far [])) → outer (so_far [])
      → MayConcat starts inner may standing outer (so_far [])
  concat_begins None outer each begun =
      record {
        of_standing = ended_by [] Finished;
        of_outer = so_far [];
        of_inner = [];
        standing_came = refl;
        outer_came = begun;
        inner_came = tt;
        begins = begins-any _;
      }
  concat_begins (Some r) outer each begun =
      record {
        of_standing = so_far [];
        of_outer = so_far [];
        of_inner = [];
        standing_came = each r;
        outer_came = begun;
        inner_came = tt;
        begins = begins-any _;
      }

  pub concat_gives : (r s : R) (outer : Traces A E) (v : B) → After (may r) v (may s)
      → After (MayConcat starts inner may (Some r) outer) v (MayConcat starts inner may (Some s) outer)
  concat_gives r s outer v after t h = record {
    of_standing = led_by v h.of_standing;
    of_outer = h.of_outer;
    of_inner = h.of_inner;
    standing_came = after h.of_standing h.standing_came;
    outer_came = h.outer_came;
    inner_came = h.inner_came;
    begins = subst (λ (u : Trace B E). led_by v t ⊑ u) (sym (led-followed v h.of_standing _)) (led-begins v t _ h.begins);
  }

  pub concat_waits : (r s : R) (outer : Traces A E) → Within (may r) (may s)
      → Within (MayConcat starts inner may (Some r) outer) (MayConcat starts inner may (Some s) outer)
  concat_waits r s outer within t h = record {
    of_standing = h.of_standing;
    of_outer = h.of_outer;
    of_inner = h.of_inner;
    standing_came = within h.of_standing h.standing_came;
    outer_came = h.outer_came;
    inner_came = h.inner_came;
    begins = h.begins;
  }

  -- one that has finished with nothing left leaves
  pub concat_leaves : (r : R) (outer : Traces A E) → may r (ended_by [] Finished)
      → Within (MayConcat starts inner may (Some r) outer) (MayConcat starts inner may None outer)
  concat_leaves r outer came t h = record {
    of_standing = h.of_standing;
    of_outer = h.of_outer;
    of_inner = h.of_inner;
    standing_came = subst (may r) (sym h.standing_came) came;
    outer_came = h.outer_came;
    inner_came = h.inner_came;
    begins = h.begins;
  }

  -- another end of it is the end
  pub concat_fails : (r : R) (outer : Traces A E) (k : Cause E) → outer (so_far []) → may r (ended_by [] k) → (k ≡ Finished → ⊥)
      → MayConcat starts inner may (Some r) outer (ended_by [] k)
  concat_fails r outer k begun came fails = record {
    of_standing = ended_by [] k;
    of_outer = so_far [];
    of_inner = [];
    standing_came = came;
    outer_came = begun;
    inner_came = tt;
    begins = inl (sym (nothing-follows [] k _ fails));
  }

  -- the outer's next value lets an inner run stand
  pub concat_starts : (r : R) (old new : Traces A E) (x : A) → After old x new → ((t : Trace B E) → may r t → inner x t)
      → Within (MayConcat starts inner may None old) (MayConcat starts inner may (Some r) new)
  concat_starts r old new x after gives t h = record {
    of_standing = ended_by [] Finished;
    of_outer = led_by x h.of_outer;
    of_inner = h.of_standing ∷ h.of_inner;
    standing_came = refl;
    outer_came = after h.of_outer h.outer_came;
    inner_came = (inner-started (starts x) (inner x) h.of_standing (gives h.of_standing h.standing_came), h.inner_came);
    begins = h.begins;
  }

  -- a refused start ends it
  pub concat_refused : (old new : Traces A E) (x : A) → After old x new → new (so_far []) → (IsTrue (starts x) → false ≡ true)
      → MayConcat starts inner may None old (ended_by [] (Refused NoMemory))
  concat_refused old new x after begun refused = record {
    of_standing = ended_by [] Finished;
    of_outer = led_by x (so_far []);
    of_inner = ended_by [] (Refused NoMemory) ∷ [];
    standing_came = refl;
    outer_came = after (so_far []) begun;
    inner_came = (inner-refused (starts x) (inner x) refused, tt);
    begins = inl refl;
  }

  pub concat_outer_waits : (standing : Option R) (old new : Traces A E) → Within old new
      → Within (MayConcat starts inner may standing old) (MayConcat starts inner may standing new)
  concat_outer_waits standing old new within t h = record {
    of_standing = h.of_standing;
    of_outer = h.of_outer;
    of_inner = h.of_inner;
    standing_came = h.standing_came;
    outer_came = within h.of_outer h.outer_came;
    inner_came = h.inner_came;
    begins = h.begins;
  }

  pub concat_outer_ends : (outer : Traces A E) (k : Cause E) → outer (ended_by [] k) → MayConcat starts inner may None outer (ended_by [] k)
  concat_outer_ends outer k came = record {
    of_standing = ended_by [] Finished;
    of_outer = ended_by [] k;
    of_inner = [];
    standing_came = refl;
    outer_came = came;
    inner_came = tt;
    begins = inl refl;
  }

module _ {A B E : Type 0} (inner : A → Traces B E) (none_inner : (x : A) (xs : List B) → inner x (ended_by xs Cancelled) → ⊥) where
  -- a refused start is no cancellation
  inner-uncancelled : (x : A) (xs : List B) → OrRefused (inner x) (ended_by xs Cancelled) → ⊥
  inner-uncancelled x xs (inl h) = none_inner x xs h
  inner-uncancelled x xs (inr e) =
      let k : Some Cancelled ≡ Some (Refused NoMemory) = ap (λ (t : Trace B E). t.1) e in cc

  joined-uncancelled : (xs : List A) (ts : List (Trace B E)) (last : Option (Cause E)) → AllZip (λ x. OrRefused (inner x)) xs ts
      → (joined ts last).1 ≡ Some Cancelled → last ≡ Some Cancelled
  joined-uncancelled [] [] last all e = e
  joined-uncancelled [] (t ∷ ts) last all e = absurd all
  joined-uncancelled (x ∷ xs) [] last all e = absurd all
  joined-uncancelled (x ∷ xs) ((ys, None) ∷ ts) last all e = absurd (cc)
  joined-uncancelled (x ∷ xs) ((ys, Some Finished) ∷ ts) last all e = joined-uncancelled xs ts last all.1 e
  joined-uncancelled (x ∷ xs) ((ys, Some (Failed f)) ∷ ts) last all e = absurd (cc)
  joined-uncancelled (x ∷ xs) ((ys, Some Cancelled) ∷ ts) last all e = absurd (inner-uncancelled x ys all.0)
  joined-uncancelled (x ∷ xs) ((ys, Some (Refused r)) ∷ ts) last all e = absurd (cc)

  pub concat_uncancelled : {R : Type 0} (starts : A → Bool) (may : R → Traces B E) (outer : Traces A E)
      → ((xs : List A) → outer (ended_by xs Cancelled) → ⊥)
      → (zs : List B) → MayConcat starts inner may None outer (ended_by zs Cancelled) → ⊥
  concat_uncancelled starts may outer none_outer zs h =
      let e : ended_by zs Cancelled ≡ followed_by h.of_standing (joined h.of_inner h.of_outer.1) = ended-begins zs Cancelled _ h.begins in
      let f : ended_by zs Cancelled ≡ joined h.of_inner h.of_outer.1 =
      e ∙ ap (λ (t : Trace B E). followed_by t (joined h.of_inner h.of_outer.1)) h.standing_came in
      let k : h.of_outer.1 ≡ Some Cancelled =
      joined-uncancelled h.of_outer.0 h.of_inner h.of_outer.1 (all-refusable starts inner _ _ h.inner_came)
      (sym (ap (λ (t : Trace B E). t.1) f)) in
      none_outer h.of_outer.0 (subst (λ (o : Option (Cause E)). outer (h.of_outer.0, o)) k h.outer_came)

module _ {B E : Type 0} where
  -- where t begins a trace and has ended, it is that trace, and what follows it is what follows that
  followed-whole : (t w u v : Trace B E) (k : Cause E) → t ⊑ w → (followed_by t u).1 ≡ Some k
      → (u.1 ≡ Some k → (k ≡ Refused NoMemory) ⊎ (u ≡ v)) → (k ≡ Refused NoMemory) ⊎ (followed_by t u ≡ followed_by w v)
  followed-whole (xs, None) w u v k h e rest = absurd (cc)
  followed-whole (xs, Some Finished) w u v k h e rest =
      let same : ended_by xs Finished ≡ w = ended-begins xs Finished w h in
      elim (rest e) [
        | inl refused ↦ inl refused
        | inr is ↦ inr (ap (followed_by (ended_by xs Finished)) is ∙ ap (λ (s : Trace B E). followed_by s v) same)
      ]
  followed-whole (xs, Some (Failed f)) w u v k h e rest =
      inr (ap (λ (s : Trace B E). followed_by s v) (ended-begins xs (Failed f) w h))
  followed-whole (xs, Some Cancelled) w u v k h e rest =
      inr (ap (λ (s : Trace B E). followed_by s v) (ended-begins xs Cancelled w h))
  followed-whole (xs, Some (Refused r)) w u v k h e rest =
      inr (ap (λ (s : Trace B E). followed_by s v) (ended-begins xs (Refused r) w h))

module _ {A B E : Type 0} (gives : A → Traces B E) (whole : A → Trace B E) (fixed : (x : A) → Within (Beginnings (whole x)) (gives x)) where
  first-whole : (x : A) (t u v : Trace B E) (k : Cause E) → OrRefused (gives x) t → (followed_by t u).1 ≡ Some k
      → (u.1 ≡ Some k → (k ≡ Refused NoMemory) ⊎ (u ≡ v)) → (k ≡ Refused NoMemory) ⊎ (followed_by t u ≡ followed_by (whole x) v)
  first-whole x t u v k (inl h) e rest = followed-whole t (whole x) u v k (fixed x t h) e rest
  first-whole x t u v k (inr is) e rest =
      let ends : Some (Refused NoMemory) ≡ Some k = sym (ap (λ (s : Trace B E). (followed_by s u).1) is) ∙ e in inl (cc)

  joined-whole : (xs rest : List A) (ts : List (Trace B E)) (last end : Option (Cause E)) (k : Cause E)
      → (last ≡ Some k → joined [] last ≡ joined (map whole rest) end) → AllZip (λ x. OrRefused (gives x)) xs ts → (joined ts last).1 ≡ Some k
      → (k ≡ Refused NoMemory) ⊎ (joined ts last ≡ joined (map whole (xs ++ rest)) end)
  joined-whole [] rest [] last end k base all e = inr (base e)
  joined-whole [] rest (t ∷ ts) last end k base all e = absurd all
  joined-whole (x ∷ xs) rest [] last end k base all e = absurd all
  joined-whole (x ∷ xs) rest (t ∷ ts) last end k base all e =
      first-whole x t (joined ts last) (joined (map whole (xs ++ rest)) end) k all.0 e (λ f. joined-whole xs rest ts last end k base all.1 f)

  outer-whole : (t o : Trace A E) (ts : List (Trace B E)) (k : Cause E) → t ⊑ o → AllZip (λ x. OrRefused (gives x)) t.0 ts
      → (joined ts t.1).1 ≡ Some k → (k ≡ Refused NoMemory) ⊎ (joined ts t.1 ≡ joined (map whole o.0) o.1)
  outer-whole t o ts k (inl is) all e =
      rw (← is) (rw append-nil at (joined-whole t.0 [] ts t.1 t.1 k (λ _. refl) all e))
  outer-whole t o ts k (inr h) all e =
      rw (← h.1.1) (joined-whole t.0 h.1.0 ts t.1 o.1 k (λ ends. absurd (cc)) all e)

  -- Where the outer may give only the beginnings of one trace, and so may each inner flow, a concatenation that has ended gave those
  -- inner traces joined, unless a start was refused.
  pub concat_fixed : {R : Type 0} (starts : A → Bool) (may : R → Traces B E) (outer : Traces A E) (o : Trace A E) → Within (Beginnings o) outer
      → (zs : List B) (k : Cause E) → MayConcat starts gives may None outer (ended_by zs k)
      → (k ≡ Refused NoMemory) ⊎ (ended_by zs k ≡ joined (map whole o.0) o.1)
  concat_fixed starts may outer o of_outer zs k h =
      let e : ended_by zs k ≡ followed_by h.of_standing (joined h.of_inner h.of_outer.1) = ended-begins zs k _ h.begins in
      let f : ended_by zs k ≡ joined h.of_inner h.of_outer.1 =
      e ∙ ap (λ (t : Trace B E). followed_by t (joined h.of_inner h.of_outer.1)) h.standing_came in
      elim (outer-whole h.of_outer o h.of_inner k (of_outer _ h.outer_came)
      (all-refusable starts gives _ _ h.inner_came) (sym (ap (λ (t : Trace B E). t.1) f))) [
        | inl refused ↦ inl refused
        | inr is ↦ inr (f ∙ is)
      ]

module _ {B E : Type 0} where
  -- what follows a trace comes behind its values
  followed-more : (w v : Trace B E) → (more : List B) × ((followed_by w v).0 ≡ w.0 ++ more)
  followed-more (xs, None) v = ([], sym (append-nil xs))
  followed-more (xs, Some Finished) v = (v.0, refl)
  followed-more (xs, Some (Failed e)) v = ([], sym (append-nil xs))
  followed-more (xs, Some Cancelled) v = ([], sym (append-nil xs))
  followed-more (xs, Some (Refused r)) v = ([], sym (append-nil xs))

  behind-begins : (xs : List B) (u v : Trace B E) → u ⊑ v → (xs ++ u.0, u.1) ⊑ (xs ++ v.0, v.1)
  behind-begins xs u v (inl is) = inl (ap (λ (s : Trace B E). (xs ++ s.0, s.1)) is)
  behind-begins xs u v (inr h) = inr (h.0, (h.1.0, append_assoc xs u.0 h.1.0 ∙ ap (λ (ys : List B). xs ++ ys) h.1.1))

  open-begins : (xs : List B) (w v : Trace B E) → so_far xs ⊑ w → so_far xs ⊑ followed_by w v
  open-begins xs w v (inl is) =
      let more = followed-more w v in
      inr (refl, (more.0, ap (λ (ys : List B). ys ++ more.0) (ap (λ (s : Trace B E). s.0) is) ∙ sym more.1))
  open-begins xs w v (inr h) =
      let more = followed-more w v in
      inr (
        refl,
        (h.1.0 ++ more.0, sym (append_assoc xs h.1.0 more.0) ∙ ap (λ (ys : List B). ys ++ more.0) h.1.1 ∙ sym more.1),
      )

  followed-begins : (t w u v : Trace B E) → t ⊑ w → u ⊑ v → followed_by t u ⊑ followed_by w v
  followed-begins (xs, None) w u v h g = open-begins xs w v h
  followed-begins (xs, Some Finished) w u v h g =
      subst (λ (s : Trace B E). (xs ++ u.0, u.1) ⊑ followed_by s v) (ended-begins xs Finished w h) (behind-begins xs u v g)
  followed-begins (xs, Some (Failed e)) w u v h g = inl (ap (λ (s : Trace B E). followed_by s v) (ended-begins xs (Failed e) w h))
  followed-begins (xs, Some Cancelled) w u v h g = inl (ap (λ (s : Trace B E). followed_by s v) (ended-begins xs Cancelled w h))
  followed-begins (xs, Some (Refused r)) w u v h g = inl (ap (λ (s : Trace B E). followed_by s v) (ended-begins xs (Refused r) w h))

  begins-after : (t u v : Trace B E) → t ⊑ u → u ⊑ v → t ⊑ v
  begins-after t u v (inl is) g = subst (λ (s : Trace B E). s ⊑ v) (sym is) g
  begins-after t u v (inr h) (inl is) = subst (λ (s : Trace B E). t ⊑ s) is (inr h)
  begins-after t u v (inr h) (inr g) =
      inr (h.0, (h.1.0 ++ g.1.0, sym (append_assoc t.0 h.1.0 g.1.0) ∙ ap (λ (ys : List B). ys ++ g.1.0) h.1.1 ∙ g.1.1))

module _ {A B E : Type 0} (gives : A → Traces B E) (whole : A → Trace B E) (fixed : (x : A) → Within (Beginnings (whole x)) (gives x)) where
  joined-begins : (xs rest : List A) (ts : List (Trace B E)) (last end : Option (Cause E)) → joined [] last ⊑ joined (map whole rest) end
      → AllZip gives xs ts → joined ts last ⊑ joined (map whole (xs ++ rest)) end
  joined-begins [] rest [] last end base all = base
  joined-begins [] rest (t ∷ ts) last end base all = absurd all
  joined-begins (x ∷ xs) rest [] last end base all = absurd all
  joined-begins (x ∷ xs) rest (t ∷ ts) last end base all =
      followed-begins t (whole x) _ _ (fixed x t all.0) (joined-begins xs rest ts last end base all.1)

  outer-begins : (t o : Trace A E) (ts : List (Trace B E)) → t ⊑ o → AllZip gives t.0 ts → joined ts t.1 ⊑ joined (map whole o.0) o.1
  outer-begins t o ts (inl is) all = rw (← is) (rw append-nil at (joined-begins t.0 [] ts t.1 t.1 (inl refl) all))
  outer-begins t o ts (inr h) all =
      rw (← h.1.1) (joined-begins t.0 h.1.0 ts t.1 o.1
      (subst (λ (k : Option (Cause E)). ([], k) ⊑ joined (map whole h.1.0) o.1) (sym h.0) (begins-any _)) all)

  -- Where no inner start can be refused, a concatenation of flows of one trace each gives the beginnings of those, joined.
  pub concat_joins : {R : Type 0} (starts : A → Bool) (may : R → Traces B E) (outer : Traces A E) (o : Trace A E) → ((x : A) → IsTrue (starts x))
      → Within (Beginnings o) outer → Within (Beginnings (joined (map whole o.0) o.1)) (MayConcat starts gives may None outer)
  concat_joins starts may outer o each of_outer t h =
      let all = all-started starts gives each _ _ h.inner_came in
      let whole_begins = outer-begins h.of_outer o h.of_inner (of_outer _ h.outer_came) all in
      let begins : t ⊑ joined h.of_inner h.of_outer.1 =
      subst (λ (s : Trace B E). t ⊑ followed_by s (joined h.of_inner h.of_outer.1)) h.standing_came h.begins in
      begins-after t _ _ begins whole_begins
