-- Laws of what a reader took.
use Rattle.std.specs.Prelude.{◌≡◌, ℕ, List, refl}
use Rattle.std.specs.Borrow.{GName}
use Rattle.std.proofs.Common.{◌∙◌}
use Rattle.futures.specs.declared.task.Poll.{Poll}
use Rattle.cold_flow.specs.declared.event.Event.{Event}
use Rattle.cold_flow.specs.Polled.{Gave}
use Rattle.cold_flow.specs.Polled.Gave.{nothing, one_more, waited}
use Rattle.shared_lane.specs.Views.{ReaderSeen}
use Rattle.hot_sources.specs.Reading.{Read, Reads}
use Rattle.hot_sources.specs.Reading.Reads.{none_taken, taken_more, tried_on}

-- polls of a run over a reader gave the words that it took: it was the same reader all along
module _ {R E : Type 0} (polled : R → Poll (Event ℕ E) → R → Type 0) (name : R → GName) (seen : R → ReaderSeen)
    (tells : (r : R) (answer : Poll (Event ℕ E)) (q : R) → polled r answer q → (name q ≡ name r) × Read (seen r) answer (seen q)) where
  pub given_is_read : (r : R) (xs : List ℕ) (q : R) → Gave polled r xs q → (name q ≡ name r) × Reads (seen r) xs (seen q)
  given_is_read r xs q nothing = (refl, none_taken)
  given_is_read r ys q (one_more {s = m} {xs = xs} x before poll is) =
      let was = given_is_read r xs m before in
      let came = tells m _ q poll in
      (came.0 ∙ was.0, taken_more x was.1 came.1.0 came.1.1 is)
  given_is_read r xs q (waited {s = m} before poll) =
      let was = given_is_read r xs m before in
      let came = tells m _ q poll in
      (came.0 ∙ was.0, tried_on was.1 came.1.0 came.1.1)
