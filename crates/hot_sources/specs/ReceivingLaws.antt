-- Laws of what a subscription was given.
use Rattle.std.specs.Prelude.{◌≡◌, ℕ, List, refl}
use Rattle.std.specs.Borrow.{GName}
use Rattle.std.proofs.Common.{◌∙◌}
use Rattle.futures.specs.declared.task.Poll.{Poll}
use Rattle.cold_flow.specs.declared.event.Event.{Event}
use Rattle.cold_flow.specs.Polled.{Gave}
use Rattle.cold_flow.specs.Polled.Gave.{nothing, one_more, waited}
use Rattle.shared_flow.specs.Parties.{Subscribed}
use Rattle.hot_sources.specs.Receiving.{Received, Receives}
use Rattle.hot_sources.specs.Receiving.Receives.{none_given, given_more, looked_on}

-- polls of a run over a subscription gave what that was given: it was the same subscription all along
module _ {R T E : Type 0} (read_as : ℕ → T) (polled : R → Poll (Event T E) → R → Type 0) (name : R → GName) (seen : R → Subscribed T)
    (tells : (r : R) (answer : Poll (Event T E)) (q : R) → polled r answer q → (name q ≡ name r) × Received read_as (seen r) answer (seen q)) where
  pub given_is_received : (r : R) (xs : List T) (q : R) → Gave polled r xs q → (name q ≡ name r) × Receives read_as (seen r) xs (seen q)
  given_is_received r xs q nothing = (refl, none_given)
  given_is_received r ys q (one_more {s = m} {xs = xs} x before poll is) =
      let was = given_is_received r xs m before in
      let came = tells m _ q poll in
      (came.0 ∙ was.0, given_more x was.1 came.1 is)
  given_is_received r xs q (waited {s = m} before poll) =
      let was = given_is_received r xs m before in
      let came = tells m _ q poll in
      (came.0 ∙ was.0, looked_on was.1 came.1)

-- the same, where the polls say which run it is
pub received_all : {R T E : Type 0} {polled : R → Poll (Event T E) → R → Type 0} {r q : R} {xs : List T} → Gave polled r xs q
    → (read_as : ℕ → T) (name : R → GName) (seen : R → Subscribed T)
    → ((s : R) (answer : Poll (Event T E)) (t : R) → polled s answer t → (name t ≡ name s) × Received read_as (seen s) answer (seen t))
    → (name q ≡ name r) × Receives read_as (seen r) xs (seen q)
received_all {polled = polled} {r = r} {q = q} {xs = xs} gave read_as name seen tells = given_is_received read_as polled name seen tells r xs q gave
