-- Laws of what a collector was given.
use Rattle.std.specs.Prelude.{◌≡◌, List, [], ◌∷◌, ◌++◌, refl}
use Rattle.std.specs.Borrow.{GName}
use Rattle.std.proofs.Common.{sym, ◌∙◌, ap, append_assoc}
use Rattle.std.proofs.lemmas.List.{append-nil}
use Rattle.futures.specs.declared.task.Poll.{Poll}
use Rattle.cold_flow.specs.declared.event.Event.{Event}
use Rattle.cold_flow.specs.Polled.{Gave}
use Rattle.cold_flow.specs.Polled.Gave.{nothing, one_more, waited}
use Rattle.state_flow.specs.Views.{SeatSeen}
use Rattle.hot_sources.specs.Collecting.{Asked}

-- polls of a run over a collector gave what that was given, behind what it had been given before: it was the same collector all along
module _ {R T E : Type 0} (polled : R → Poll (Event T E) → R → Type 0) (name : R → GName) (seen : R → SeatSeen T)
    (tells : (r : R) (answer : Poll (Event T E)) (q : R) → polled r answer q → (name q ≡ name r) × Asked (seen r) answer (seen q)) where
  pub given_is_collected : (r : R) (xs : List T) (q : R) → Gave polled r xs q
      → (name q ≡ name r) × ((seen q).flow ≡ (seen r).flow) × ((seen q).view.collected ≡ (seen r).view.collected ++ xs)
  given_is_collected r xs q nothing = (refl, refl, sym (append-nil (seen r).view.collected))
  given_is_collected r ys q (one_more {s = m} {xs = xs} x before poll is) =
      let was = given_is_collected r xs m before in
      let came = tells m _ q poll in (
        came.0 ∙ was.0,
        came.1.0 ∙ was.1,
        came.1.1.received ∙ ap (λ (l : List T). l ++ x ∷ []) was.2 ∙ append_assoc (seen r).view.collected xs (x ∷ [])
            ∙ ap (λ (l : List T). (seen r).view.collected ++ l) (sym is),
      )
  given_is_collected r xs q (waited {s = m} before poll) =
      let was = given_is_collected r xs m before in
      let came = tells m _ q poll in
      (came.0 ∙ was.0, came.1.0 ∙ was.1, came.1.1.received ∙ was.2)

-- the same, where the polls say which run it is
pub collected_all : {R T E : Type 0} {polled : R → Poll (Event T E) → R → Type 0} {r q : R} {xs : List T} → Gave polled r xs q
    → (name : R → GName) (seen : R → SeatSeen T)
    → ((s : R) (answer : Poll (Event T E)) (t : R) → polled s answer t → (name t ≡ name s) × Asked (seen s) answer (seen t))
    → (name q ≡ name r) × ((seen q).flow ≡ (seen r).flow) × ((seen q).view.collected ≡ (seen r).view.collected ++ xs)
collected_all {polled = polled} {r = r} {q = q} {xs = xs} gave name seen tells = given_is_collected polled name seen tells r xs q gave
