-- Laws of what polls of a run gave, its last ones among them.
use Rattle.std.specs.Prelude.{◌≡◌, ℕ, List, [], ◌++◌, refl}
use Rattle.std.specs.Borrow.{GName}
use Rattle.std.proofs.Common.{sym, ◌∙◌, ap, subst, append_assoc, ⊎_elim}
use Rattle.std.proofs.lemmas.List.{append-nil}
use Rattle.futures.specs.declared.task.Poll.{Poll}
use Rattle.futures.specs.declared.task.Poll.TheVariants.{Ready, Pending}
use Rattle.cold_flow.specs.declared.cause.Cause.{Cause}
use Rattle.cold_flow.specs.declared.event.Event.{Event}
use Rattle.cold_flow.specs.declared.event.Event.TheVariants.{Value, End}
use Rattle.cold_flow.specs.Passing.{GaveFor, PassesOn, PassesAll, given_by}
use Rattle.cold_flow.specs.PassingLaws.{passes_none, passes_on, pauses_gave}
use Rattle.cold_flow.specs.Polled.{Gave}
use Rattle.cold_flow.specs.Polled.Gave.{nothing, one_more, waited}
use Rattle.shared_flow.specs.Parties.{Subscribed}
use Rattle.state_flow.specs.Views.{SeatSeen}
use Rattle.hot_sources.specs.Receiving.{Received, Receives}
use Rattle.hot_sources.specs.Receiving.Receives.{none_given, given_more, looked_on}
use Rattle.hot_sources.specs.Waiting.{TookAll}
use Rattle.hot_sources.specs.Watching.{Watched}
use Rattle.hot_sources.specs.SoFar.{GaveSoFar, TookSoFar}
use Rattle.hot_sources.specs.SoFar.GaveSoFar.{none_yet, polled_on}

module _ {R A E : Type 0} (polled : R → Poll (Event A E) → R → Type 0) where
  -- polls that gave values, or were pending
  pub gave_so_far : (r s : R) (xs : List A) → Gave polled r xs s → GaveSoFar polled r xs s
  gave_so_far r s xs nothing = none_yet
  gave_so_far r s ys (one_more {s = m} {xs = xs} x before poll is) = polled_on (Ready (Value x)) (gave_so_far r m xs before) poll is
  gave_so_far r s xs (waited {s = m} before poll) = polled_on Pending (gave_so_far r m xs before) poll (sym (append-nil xs))

  -- and then one that gave the end
  pub ended_so_far : (r s t : R) (xs : List A) (k : Cause E) → Gave polled r xs s → polled s (Ready (End k)) t → GaveSoFar polled r xs t
  ended_so_far r s t xs k before poll = polled_on (Ready (End k)) (gave_so_far r s xs before) poll (sym (append-nil xs))

  -- polls, and then more
  pub so_far_on : (r s t : R) (xs ys : List A) → GaveSoFar polled r xs s → GaveSoFar polled s ys t → GaveSoFar polled r (xs ++ ys) t
  so_far_on r s t xs ys before none_yet = subst (λ (l : List A). GaveSoFar polled r l t) (sym (append-nil xs)) before
  so_far_on r s t xs ys before (polled_on {s = m} {xs = zs} answer more poll is) =
      polled_on answer (so_far_on r s m xs zs before more) poll
      (ap (λ (l : List A). xs ++ l) is ∙ sym (append_assoc xs zs (given_by answer)))

-- so many values were taken; or those up to the end
pub took_all_so_far : {R A E : Type 0} {polled : R → Poll (Event A E) → R → Type 0} {count : ℕ} {old new : R} (before after : List A)
    → TookAll polled count old before after new → TookSoFar polled old before after new
took_all_so_far {polled = polled} {old = old} {new = new} before after took = (took.0, took.1, gave_so_far polled old new took.0 took.3)

pub took_to_end : {R A E : Type 0} {polled : R → Poll (Event A E) → R → Type 0} {old mid new : R} {xs : List A} {k : Cause E} (before after : List A)
    → Gave polled old xs mid → polled mid (Ready (End k)) new → after ≡ before ++ xs → TookSoFar polled old before after new
took_to_end {polled = polled} {old = old} {mid = mid} {new = new} {xs = xs} {k = k} before after gave poll is = (xs, is, ended_so_far polled old mid new xs k gave poll)

module _ {R A B E : Type 0} (polled : R → Poll (Event A E) → R → Type 0) where
  -- of one poll of an operator
  gave_for : (r s : R) (xs : List A) (answer : Poll (Event B E)) → GaveFor polled r xs answer s → GaveSoFar polled r xs s
  gave_for r s xs (Ready (Value y)) gave = gave_so_far polled r s xs gave
  gave_for r s xs (Ready (End k)) gave =
      ⊎_elim
      (λ it. ended_so_far polled r it.0 s xs k it.1 it.2)
      (λ it. subst (λ (l : List A). GaveSoFar polled r l s) (sym it.0) (subst (λ (q : R). GaveSoFar polled r [] q) (sym it.1) none_yet))
      gave
  gave_for r s xs Pending gave = gave_so_far polled r s xs (pauses_gave polled r s xs gave)

-- what an operator gave so far is what passes of the values that its source gave so far
module _ {Q R A B E M : Type 0} (outer : Q → Poll (Event B E) → Q → Type 0) (polled : R → Poll (Event A E) → R → Type 0) (passes : M → List A → List B)
    (sift : Q → M) (source : Q → R)
    (tells : (q : Q) (answer : Poll (Event B E)) (p : Q) → outer q answer p → PassesOn polled passes (sift q) (source q) answer (sift p) (source p)) where
  given_is_passed : (q p : Q) (ys : List B) → GaveSoFar outer q ys p
      → (xs : List A) × GaveSoFar polled (source q) xs (source p) × PassesAll passes (sift q) xs ys (sift p)
  given_is_passed q p ys none_yet = ([], none_yet, passes_none passes (sift q))
  given_is_passed q p zs (polled_on {s = m} {xs = ys} answer before poll is) =
      let was = given_is_passed q m ys before in
      let came = tells m answer p poll in (
        was.0 ++ came.xs,
        so_far_on polled (source q) (source m) (source p) was.0 came.xs was.1 (gave_for polled (source m) (source p) came.xs answer came.gave),
        subst (λ (l : List B). PassesAll passes (sift q) (was.0 ++ came.xs) l (sift p)) (sym is)
            (passes_on passes (sift q) (sift m) (sift p) was.0 came.xs ys (given_by answer) was.2 came.passed),
      )

-- the same, where the polls say which operator it is
pub passed_so_far : {Q R A B E M : Type 0} {outer : Q → Poll (Event B E) → Q → Type 0} {polled : R → Poll (Event A E) → R → Type 0} {passes : M → List A → List B}
    {q p : Q} {ys : List B} → GaveSoFar outer q ys p → (sift : Q → M) (source : Q → R)
    → ((r : Q) (answer : Poll (Event B E)) (s : Q) → outer r answer s → PassesOn polled passes (sift r) (source r) answer (sift s) (source s))
    → (xs : List A) × GaveSoFar polled (source q) xs (source p) × PassesAll passes (sift q) xs ys (sift p)
passed_so_far {outer = outer} {polled = polled} {passes = passes} {q = q} {p = p} {ys = ys} gave sift source tells =
    given_is_passed outer polled passes sift source tells q p ys gave

-- what a run over a collector gave so far is what that was given, behind what it had been given before
module _ {R T E : Type 0} (polled : R → Poll (Event T E) → R → Type 0) (name : R → GName) (seen : R → SeatSeen T)
    (tells : (r : R) (answer : Poll (Event T E)) (q : R) → polled r answer q → (name q ≡ name r) × Watched (seen r) answer (seen q)) where
  watched : (s t : SeatSeen T) (answer : Poll (Event T E)) → Watched s answer t
      → (t.flow ≡ s.flow) × (t.view.collected ≡ s.view.collected ++ given_by answer)
  watched s t (Ready (Value v)) asked = (asked.0, asked.1.received)
  watched s t (Ready (End k)) asked =
      ⊎_elim
      (λ is. (ap (λ (x : SeatSeen T). x.flow) is, ap (λ (x : SeatSeen T). x.view.collected) is ∙ sym (append-nil s.view.collected)))
      (λ none. (none.0, none.1.received ∙ sym (append-nil s.view.collected)))
      asked
  watched s t Pending asked = (asked.0, asked.1.received ∙ sym (append-nil s.view.collected))

  given_is_watched : (r q : R) (xs : List T) → GaveSoFar polled r xs q
      → (name q ≡ name r) × ((seen q).flow ≡ (seen r).flow) × ((seen q).view.collected ≡ (seen r).view.collected ++ xs)
  given_is_watched r q xs none_yet = (refl, refl, sym (append-nil (seen r).view.collected))
  given_is_watched r q ys (polled_on {s = m} {xs = xs} answer before poll is) =
      let was = given_is_watched r m xs before in
      let same = tells m answer q poll in
      let came = watched (seen m) (seen q) answer same.1 in (
        same.0 ∙ was.0,
        came.0 ∙ was.1,
        came.1 ∙ ap (λ (l : List T). l ++ given_by answer) was.2 ∙ append_assoc (seen r).view.collected xs (given_by answer)
            ∙ ap (λ (l : List T). (seen r).view.collected ++ l) (sym is),
      )

pub watched_so_far : {R T E : Type 0} {polled : R → Poll (Event T E) → R → Type 0} {r q : R} {xs : List T} → GaveSoFar polled r xs q
    → (name : R → GName) (seen : R → SeatSeen T)
    → ((s : R) (answer : Poll (Event T E)) (t : R) → polled s answer t → (name t ≡ name s) × Watched (seen s) answer (seen t))
    → (name q ≡ name r) × ((seen q).flow ≡ (seen r).flow) × ((seen q).view.collected ≡ (seen r).view.collected ++ xs)
watched_so_far {polled = polled} {r = r} {q = q} {xs = xs} gave name seen tells = given_is_watched polled name seen tells r q xs gave

-- what a run over a subscription gave so far is what that was given
module _ {R T E : Type 0} (read_as : ℕ → T) (polled : R → Poll (Event T E) → R → Type 0) (name : R → GName) (seen : R → Subscribed T)
    (tells : (r : R) (answer : Poll (Event T E)) (q : R) → polled r answer q → (name q ≡ name r) × Received read_as (seen r) answer (seen q)) where
  received : (s t u : Subscribed T) (xs ys : List T) (answer : Poll (Event T E)) → Receives read_as s xs t → Received read_as t answer u
      → ys ≡ xs ++ given_by answer → Receives read_as s ys u
  received s t u xs ys (Ready (Value v)) was came is = given_more v was came is
  received s t u xs ys (Ready (End k)) was came is =
      subst (λ (l : List T). Receives read_as s l u) (sym (is ∙ append-nil xs)) (subst (λ (v : Subscribed T). Receives read_as s xs v) (sym came) was)
  received s t u xs ys Pending was came is = subst (λ (l : List T). Receives read_as s l u) (sym (is ∙ append-nil xs)) (looked_on was came)

  given_is_received : (r q : R) (xs : List T) → GaveSoFar polled r xs q → (name q ≡ name r) × Receives read_as (seen r) xs (seen q)
  given_is_received r q xs none_yet = (refl, none_given)
  given_is_received r q ys (polled_on {s = m} {xs = xs} answer before poll is) =
      let was = given_is_received r m xs before in
      let came = tells m answer q poll in
      (came.0 ∙ was.0, received (seen r) (seen m) (seen q) xs ys answer was.1 came.1 is)

pub received_so_far : {R T E : Type 0} {polled : R → Poll (Event T E) → R → Type 0} {r q : R} {xs : List T} → GaveSoFar polled r xs q
    → (read_as : ℕ → T) (name : R → GName) (seen : R → Subscribed T)
    → ((s : R) (answer : Poll (Event T E)) (t : R) → polled s answer t → (name t ≡ name s) × Received read_as (seen s) answer (seen t))
    → (name q ≡ name r) × Receives read_as (seen r) xs (seen q)
received_so_far {polled = polled} {r = r} {q = q} {xs = xs} gave read_as name seen tells = given_is_received read_as polled name seen tells r q xs gave
