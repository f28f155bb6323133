-- Laws of several sources at once.
use Rattle.std.specs.Prelude.{◌≡◌, ◌⊎◌, ℕ, ◌+◌, ◌-◌, ◌<◌, ◌≤◌, Bool, IsTrue, List, [], ◌∷◌, ◌++◌, Option, Some, None, refl, length, slice_get, slice_set}
use Rattle.std.specs.Iterator.{Count, IsFinite}
use Rattle.std.specs.List.{All, AllZip}
use Rattle.std.proofs.Common.{zero, suc, sym, ◌∙◌, ap, subst, inl, inr, arith}
use Rattle.std.proofs.lemmas.Bool.{cases_lt}
use Rattle.std.proofs.lemmas.Option.{slice_get_within}
use Rattle.futures.specs.declared.task.Poll.{Poll}
use Rattle.futures.specs.declared.task.Poll.TheVariants.{Ready, Pending}
use Rattle.cold_flow.specs.declared.cause.Cause.{Cause}
use Rattle.cold_flow.specs.declared.cause.Cause.TheVariants.{Finished, Cancelled}
use Rattle.cold_flow.specs.declared.event.Event.{Event}
use Rattle.cold_flow.specs.declared.event.Event.TheVariants.{Value, End}
use Rattle.cold_flow.specs.Trace.{Trace, so_far, ended_by, led_by}
use Rattle.cold_flow.specs.Poll.{Traces, Within, IsReady, IsWithinPolls}
use Rattle.flow_merge.specs.Asking.{Asks}
use Rattle.flow_merge.specs.Concat.{MayStand}
use Rattle.flow_merge.specs.Counting.{IsFewer, with_end, standing_polls, both-finite}
use Rattle.flow_merge.specs.StandingLaws.{stand_gave, stand_waits}
use Rattle.more_merges.specs.Standing.{IsNoFinish, StandingApproaches, standing_prompt}
use Rattle.more_merges.specs.StandingLaws.{both_within, first_fewer, second_fewer, standing_begins, and_true, and_first, and_second}
use Rattle.more_merges.specs.Joins.{Joins, MayJoin, Began, WereAsked, IsPlace, AllApproach, each_is, all_polls, indexed}
use Rattle.more_merges.specs.Joins.Joins.{stops, gives, finishes, ends}

same-polls : (c : Count) → IsWithinPolls c c
same-polls c h = (h, omega arith)

-- ---- a list in which one stands changed

asked-other : (count first asked p k at : ℕ) → p < count → at < count → IsPlace count first asked p → IsPlace count first k at → k < asked + 1
    → (at ≡ p → ⊥) → k < asked
asked-other count first asked p k at within inside (inl a) (inl b) h other = omega arith
asked-other count first asked p k at within inside (inl a) (inr b) h other = omega arith
asked-other count first asked p k at within inside (inr a) (inl b) h other = omega arith
asked-other count first asked p k at within inside (inr a) (inr b) h other = omega arith

module _ {X : Type 0} where
  get-set : (xs : List X) (i j : ℕ) (y x : X) → slice_get (slice_set xs i y) j ≡ Some x
      → (x ≡ y) ⊎ ((j ≡ i → ⊥) × (slice_get xs j ≡ Some x))
  get-set [] i j y x is = absurd (cc)
  get-set (w ∷ xs) zero zero y x is = inl (cc)
  get-set (w ∷ xs) zero (suc j) y x is = inr ((λ e. absurd (omega arith)), is)
  get-set (w ∷ xs) (suc i) zero y x is = inr ((λ e. absurd (omega arith)), is)
  get-set (w ∷ xs) (suc i) (suc j) y x is =
      elim (get-set xs i j y x is) [ inl same ↦ inl same | inr other ↦ inr ((λ e. other.0 (omega arith)), other.1) ]

  pub asked_none : (P : X → Type 0) (count first : ℕ) (xs : List X) → WereAsked P count first 0 xs
  asked_none P count first xs = record { each = λ k at x h place is. absurd (omega arith) }

  pub asked_one : (P : X → Type 0) (count first asked p : ℕ) (xs : List X) (y : X) → length xs ≡ count → p < count → IsPlace count first asked p → P y
      → WereAsked P count first asked xs → WereAsked P count first (asked + 1) (slice_set xs p y)
  asked_one P count first asked p xs y many within place now before = record {
    each = λ k at x h here is. elim (get-set xs p at y x is) [
      | inl same ↦ subst P (sym same) now
      | inr other ↦
          let inside : at < length xs = slice_get_within xs at x other.1 in
          before.each k at x (asked-other count first asked p k at within (omega arith) place here h other.0) here other.1
    ];
  }

  pub asked_all : (P : X → Type 0) (count first asked : ℕ) (xs : List X) → length xs ≡ count → first ≤ count → count ≤ asked
      → WereAsked P count first asked xs → (at : ℕ) (x : X) → slice_get xs at ≡ Some x → P x
  asked_all P count first asked xs many within enough all at x is =
      let inside : at < length xs = slice_get_within xs at x is in
      elim (cases_lt at first) [
        | inl before ↦ all.each (at + count - first) at x (omega arith) (inr (omega arith)) is
        | inr behind ↦ all.each (at - first) at x (omega arith) (inl (omega arith)) is
      ]

  -- ---- what holds of each, and how many polls are left of all

  pub each-set : (test : X → Bool) (xs : List X) (i : ℕ) (x y : X) → slice_get xs i ≡ Some x → (IsTrue (test x) → IsTrue (test y))
      → IsTrue (each_is test xs) → IsTrue (each_is test (slice_set xs i y))
  each-set test [] i x y is keeps all = all
  each-set test (w ∷ xs) zero x y is keeps all =
      let same : w ≡ x = cc in
      and_true (test y) (each_is test xs) (keeps (subst (λ (v : X). IsTrue (test v)) same (and_first (test w) (each_is test xs) all)))
      (and_second (test w) (each_is test xs) all)
  each-set test (w ∷ xs) (suc i) x y is keeps all =
      and_true (test w) (each_is test (slice_set xs i y)) (and_first (test w) (each_is test xs) all)
      (each-set test xs i x y is keeps (and_second (test w) (each_is test xs) all))

  pub each-get : (test : X → Bool) (xs : List X) (i : ℕ) (x : X) → slice_get xs i ≡ Some x → IsTrue (each_is test xs) → IsTrue (test x)
  each-get test [] i x is all = absurd (cc)
  each-get test (w ∷ xs) zero x is all =
      let same : w ≡ x = cc in subst (λ (v : X). IsTrue (test v)) same (and_first (test w) (each_is test xs) all)
  each-get test (w ∷ xs) (suc i) x is all = each-get test xs i x is (and_second (test w) (each_is test xs) all)

  pub polls_within : (polls : X → Count) (xs : List X) (i : ℕ) (x y : X) → slice_get xs i ≡ Some x → IsWithinPolls (polls x) (polls y)
      → IsWithinPolls (all_polls polls xs) (all_polls polls (slice_set xs i y))
  polls_within polls [] i x y is within = absurd (cc)
  polls_within polls (w ∷ xs) zero x y is within =
      let same : x ≡ w = cc in
      both_within (polls w) (polls y) (all_polls polls xs) (all_polls polls xs)
      (subst (λ (v : X). IsWithinPolls (polls v) (polls y)) same within) (same-polls (all_polls polls xs))
  polls_within polls (w ∷ xs) (suc i) x y is within =
      both_within (polls w) (polls w) (all_polls polls xs) (all_polls polls (slice_set xs i y)) (same-polls (polls w))
      (polls_within polls xs i x y is within)

  pub polls_fewer : (polls : X → Count) (xs : List X) (i : ℕ) (x y : X) → slice_get xs i ≡ Some x → IsFewer (polls x) (polls y)
      → IsFewer (all_polls polls xs) (all_polls polls (slice_set xs i y))
  polls_fewer polls [] i x y is fewer = absurd (cc)
  polls_fewer polls (w ∷ xs) zero x y is fewer =
      let same : x ≡ w = cc in
      first_fewer (polls w) (polls y) (all_polls polls xs) (all_polls polls xs)
      (subst (λ (v : X). IsFewer (polls v) (polls y)) same fewer) (same-polls (all_polls polls xs))
  polls_fewer polls (w ∷ xs) (suc i) x y is fewer =
      second_fewer (polls w) (polls w) (all_polls polls xs) (all_polls polls (slice_set xs i y)) (same-polls (polls w))
      (polls_fewer polls xs i x y is fewer)

  pub polls_finite : (polls : X → Count) → ((x : X) → IsFinite (polls x)) → (xs : List X) → IsFinite (all_polls polls xs)
  polls_finite polls each [] = tt
  polls_finite polls each (x ∷ xs) = both-finite (polls x) (all_polls polls xs) (each x) (polls_finite polls each xs)

-- two questions, one after the other
pub fewer_fewer : (first old new : Count) → IsWithinPolls first old → IsFewer old new → IsFewer first new
fewer_fewer first old new within fewer h = let was = within h in let now = fewer was.0 in (now.0, omega arith)

pub within_within : (first old new : Count) → IsWithinPolls first old → IsWithinPolls old new → IsWithinPolls first new
within_within first old new within more h = let was = within h in let now = more was.0 in (now.0, omega arith)

pub fewer_within : (old new : Count) → IsFewer old new → IsWithinPolls old new
fewer_within old new fewer h = let now = fewer h in (now.0, omega arith)

pub fewer_then : (first old new : Count) → IsFewer first old → IsWithinPolls old new → IsFewer first new
fewer_then first old new fewer within h = let was = fewer h in let now = within was.0 in (now.0, omega arith)

module _ {A E R : Type 0} (polls : R → Count) where
  -- what a question to one says of all
  pub all_approach : (sides : List (Option R)) (i : ℕ) (old new : Option R) (answer : Poll (Option (Event A E))) → slice_get sides i ≡ Some old
      → StandingApproaches polls old answer new
      → AllApproach (all_polls (standing_polls polls) sides) answer (all_polls (standing_polls polls) (slice_set sides i new))
  all_approach sides i old new (Ready (Some (Value v))) is fewer = polls_fewer (standing_polls polls) sides i old new is fewer
  all_approach sides i old new (Ready (Some (End k))) is fewer = tt
  all_approach sides i old new (Ready None) is within = polls_within (standing_polls polls) sides i old new is within
  all_approach sides i old new Pending is fewer = polls_fewer (standing_polls polls) sides i old new is fewer

module _ {A E R : Type 0} (prompt : R → Bool) where
  pub all_prompt : (sides : List (Option R)) (i : ℕ) (old new : Option R) (answer : Poll (Option (Event A E))) → slice_get sides i ≡ Some old
      → (IsTrue (standing_prompt prompt old) → IsReady answer × IsTrue (standing_prompt prompt new))
      → IsTrue (each_is (standing_prompt prompt) sides) → IsReady answer × IsTrue (each_is (standing_prompt prompt) (slice_set sides i new))
  all_prompt sides i old new answer is keeps all =
      let now = keeps (each-get (standing_prompt prompt) sides i old is all) in
      (now.0, each-set (standing_prompt prompt) sides i old new is (λ h. now.1) all)

-- ---- what may come

module _ {A E R : Type 0} (may : R → Traces A E) where
  -- each source may give something
  all_come : ((r : R) → (t : Trace A E) × may r t) → (rs : List R) → (ts : List (Trace A E)) × AllZip may rs ts
  all_come each [] = ([], tt)
  all_come each (r ∷ rs) = let first = each r in let rest = all_come each rs in (first.0 ∷ rest.0, (first.1, rest.1))

  pub join_begins : ((r : R) → (t : Trace A E) × may r t) → (rs : List R) → MayJoin may rs (so_far [])
  join_begins each rs = let all = all_come each rs in record { traces = all.0; came = all.1; joins = stops }

  -- one of them could end
  one_ends : ((r : R) → (t : Trace A E) × may r t) → (rs : List R) (at : ℕ) (r : R) (k : Cause E) → slice_get rs at ≡ Some r
      → may r (ended_by [] k) → (ts : List (Trace A E)) × (AllZip may rs ts × (slice_get ts at ≡ Some (ended_by [] k)))
  one_ends each [] at r k is came = absurd (cc)
  one_ends each (w ∷ rs) zero r k is came =
      let same : r ≡ w = cc in
      let rest = all_come each rs in
      (ended_by [] k ∷ rest.0, ((subst (λ (v : R). may v (ended_by [] k)) same came, rest.1), refl))
  one_ends each (w ∷ rs) (suc at) r k is came =
      let first = each w in let rest = one_ends each rs at r k is came in (first.0 ∷ rest.0, ((first.1, rest.1.0), rest.1.1))

  -- a question to one of them
  pub join_asks : ((r : R) → (t : Trace A E) × may r t) → (rs : List R) (at : ℕ) (old new : R) (answer : Poll (Option (Event A E)))
      → slice_get rs at ≡ Some old → IsNoFinish answer → Asks (may old) answer (may new)
      → Asks (MayJoin may rs) (indexed at answer) (MayJoin may (slice_set rs at new))
  join_asks each rs at old new (Ready (Some (Value v))) is fails after = λ t h.
      let gave = stand_gave may at rs old new v is after h.traces h.came in
      record {
        traces = gave.before;
        came = gave.stand;
        joins = gives at v gave.rest gave.first (subst (λ (ts : List (Trace A E)). Joins ts t) (sym gave.left) h.joins);
      }
  join_asks each rs at old new (Ready (Some (End k))) is fails came =
      let all = one_ends each rs at old k is came in record { traces = all.0; came = all.1.0; joins = ends at k all.1.1 fails }
  join_asks each rs at old new (Ready None) is fails within = λ t h.
      record { traces = h.traces; came = stand_waits may at rs old new is within h.traces h.came; joins = h.joins }
  join_asks each rs at old new Pending is fails within = λ t h.
      record { traces = h.traces; came = stand_waits may at rs old new is within h.traces h.came; joins = h.joins }

module _ {A E R : Type 0} (may : R → Traces A E) where
  finished-each : (sides : List (Option R)) (ts : List (Trace A E)) → AllZip (MayStand may) sides ts
      → ((at : ℕ) (side : Option R) → slice_get sides at ≡ Some side → side ≡ None) → All (λ t. t ≡ ended_by [] Finished) ts
  finished-each [] [] all none k d h = absurd (omega arith)
  finished-each [] (t ∷ ts) all none k d h = absurd all
  finished-each (side ∷ sides) [] all none k d h = absurd all
  finished-each (side ∷ sides) (t ∷ ts) all none zero d h = subst (λ (o : Option R). MayStand may o t) (none zero side refl) all.0
  finished-each (side ∷ sides) (t ∷ ts) all none (suc k) d h =
      finished-each sides ts all.1 (λ at other is. none (suc at) other is) k d (omega arith)

  -- none stands any more
  pub join_finishes : ((r : R) → may r (so_far [])) → (sides : List (Option R))
      → ((at : ℕ) (side : Option R) → slice_get sides at ≡ Some side → side ≡ None) → MayJoin (MayStand may) sides (ended_by [] Finished)
  join_finishes each sides none =
      let all = all_come (MayStand may) (standing_begins may each) sides in
      record { traces = all.0; came = all.1; joins = finishes (finished-each sides all.0 all.1 none) }

-- ---- its start

module _ {F R A E : Type 0} (may : F → Traces A E) (polls : F → Count) (prompt : F → Bool) (run_may : R → Traces A E) (run_polls : R → Count)
    (run_prompt : R → Bool) where
  pub zip-push : (flows : List F) (sides : List (Option R)) (flow : F) (side : Option R)
      → AllZip (Began may polls prompt run_may run_polls run_prompt) flows sides → Began may polls prompt run_may run_polls run_prompt flow side
      → AllZip (Began may polls prompt run_may run_polls run_prompt) (flows ++ flow ∷ []) (sides ++ side ∷ [])
  zip-push [] [] flow side all one = (one, tt)
  zip-push [] (s ∷ sides) flow side all one = absurd all
  zip-push (f ∷ flows) [] flow side all one = absurd all
  zip-push (f ∷ flows) (s ∷ sides) flow side all one = (all.0, zip-push flows sides flow side all.1 one)

  came-before : (flows : List F) (sides : List (Option R)) (ts : List (Trace A E))
      → AllZip (Began may polls prompt run_may run_polls run_prompt) flows sides → AllZip (MayStand run_may) sides ts → AllZip may flows ts
  came-before [] [] [] all came = tt
  came-before [] [] (t ∷ ts) all came = absurd came
  came-before [] (s ∷ sides) ts all came = absurd all
  came-before (f ∷ flows) [] ts all came = absurd all
  came-before (f ∷ flows) (s ∷ sides) [] all came = absurd came
  came-before (f ∷ flows) (s ∷ sides) (t ∷ ts) all came = (all.0.gives t came.0, came-before flows sides ts all.1 came.1)

  pub started_gives : (flows : List F) (sides : List (Option R)) → AllZip (Began may polls prompt run_may run_polls run_prompt) flows sides
      → Within (MayJoin may flows) (MayJoin (MayStand run_may) sides)
  started_gives flows sides all t h = record { traces = h.traces; came = came-before flows sides h.traces all h.came; joins = h.joins }

  pub started_lasts : (flows : List F) (sides : List (Option R)) → AllZip (Began may polls prompt run_may run_polls run_prompt) flows sides
      → IsWithinPolls (all_polls (λ f. with_end (polls f)) flows) (all_polls (standing_polls run_polls) sides)
  started_lasts [] [] all = λ h. (h, omega arith)
  started_lasts [] (s ∷ sides) all = absurd all
  started_lasts (f ∷ flows) [] all = absurd all
  started_lasts (f ∷ flows) (s ∷ sides) all =
      both_within (with_end (polls f)) (standing_polls run_polls s) (all_polls (λ f. with_end (polls f)) flows) (all_polls (standing_polls run_polls) sides)
      all.0.lasts (started_lasts flows sides all.1)

  pub started_prompt : (flows : List F) (sides : List (Option R)) → AllZip (Began may polls prompt run_may run_polls run_prompt) flows sides
      → IsTrue (each_is prompt flows) → IsTrue (each_is (standing_prompt run_prompt) sides)
  started_prompt [] [] all h = refl
  started_prompt [] (s ∷ sides) all h = absurd all
  started_prompt (f ∷ flows) [] all h = absurd all
  started_prompt (f ∷ flows) (s ∷ sides) all h =
      and_true (standing_prompt run_prompt s) (each_is (standing_prompt run_prompt) sides) (all.0.answers (and_first (prompt f) (each_is prompt flows) h))
      (started_prompt flows sides all.1 (and_second (prompt f) (each_is prompt flows) h))

-- ---- it ends by `Cancelled` only where a source does

module _ {A E : Type 0} where
  abbrev NoneCancelled : List (Trace A E) → Type 0
  NoneCancelled ts = (at : ℕ) (t : Trace A E) → slice_get ts at ≡ Some t → t.1 ≡ Some Cancelled → ⊥

  none-set : (ts : List (Trace A E)) (at : ℕ) (x : A) (rest : Trace A E) → slice_get ts at ≡ Some (led_by x rest) → NoneCancelled ts
      → NoneCancelled (slice_set ts at rest)
  none-set ts at x rest is none i t there e =
      elim (get-set ts at i rest t there) [
        | inl same ↦ none at (led_by x rest) is (ap (λ (u : Trace A E). u.1) (sym same) ∙ e)
        | inr other ↦ none i t other.1 e
      ]

  joins-uncancelled : {ts : List (Trace A E)} {out : Trace (ℕ × A) E} → Joins ts out → NoneCancelled ts → out.1 ≡ Some Cancelled → ⊥
  joins-uncancelled stops none e = absurd (cc)
  joins-uncancelled (gives {ts = ts} at x rest is more) none e = joins-uncancelled more (none-set ts at x rest is none) e
  joins-uncancelled (finishes all) none e = absurd (cc)
  joins-uncancelled (ends at k is fails) none e = none at (ended_by [] k) is e

module _ {A E R : Type 0} (may : R → Traces A E) (none : (r : R) (xs : List A) → may r (ended_by xs Cancelled) → ⊥) where
  none-come : (rs : List R) (ts : List (Trace A E)) → AllZip may rs ts → NoneCancelled ts
  none-come rs [] all at t is e = absurd (cc)
  none-come [] (u ∷ ts) all at t is e = absurd all
  none-come (r ∷ rs) (u ∷ ts) all zero t is e =
      let same : u ≡ t = cc in
      none r u.0 (subst (λ (o : Option (Cause E)). may r (u.0, o)) (ap (λ (v : Trace A E). v.1) same ∙ e) all.0)
  none-come (r ∷ rs) (u ∷ ts) all (suc at) t is e = none-come rs ts all.1 at t is e

  pub join_uncancelled : (rs : List R) (xs : List (ℕ × A)) → MayJoin may rs (ended_by xs Cancelled) → ⊥
  join_uncancelled rs xs h = joins-uncancelled h.joins (none-come rs h.traces h.came) refl
