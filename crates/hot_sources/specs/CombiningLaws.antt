-- Laws of what the collectors of two states were given.
use Rattle.std.specs.Prelude.{◌≡◌, List, [], ◌∷◌, ◌++◌, Option, Some, None, refl}
use Rattle.std.proofs.Common.{sym, ◌∙◌, ap, append_assoc}
use Rattle.std.proofs.lemmas.List.{append-nil}
use Rattle.flow_terms.specs.Lists.{some_of}
use Rattle.futures.specs.declared.task.Poll.{Poll}
use Rattle.cold_flow.specs.declared.event.Event.{Event}
use Rattle.cold_flow.specs.Polled.{Gave}
use Rattle.cold_flow.specs.Polled.Gave.{nothing, one_more, waited}
use Rattle.state_flow.specs.Views.{SeatSeen}
use Rattle.state_flow.specs.Calls.{with_given}
use Rattle.hot_sources.specs.Combining.{AskedBoth, firsts, seconds}

with_given_is : {T : Type 0} (collected : List T) (given : Option T) → with_given collected given ≡ collected ++ some_of given
with_given_is collected None = sym (append-nil collected)
with_given_is collected (Some x) = refl

module _ {T U : Type 0} where
  firsts_on : (xs : List (Option T × Option U)) (new : Option T × Option U) → firsts (xs ++ new ∷ []) ≡ firsts xs ++ some_of new.0
  firsts_on [] new = append-nil (some_of new.0)
  firsts_on (x ∷ xs) new = ap (λ (l : List T). some_of x.0 ++ l) (firsts_on xs new) ∙ sym (append_assoc (some_of x.0) (firsts xs) (some_of new.0))

  seconds_on : (xs : List (Option T × Option U)) (new : Option T × Option U) → seconds (xs ++ new ∷ []) ≡ seconds xs ++ some_of new.1
  seconds_on [] new = append-nil (some_of new.1)
  seconds_on (x ∷ xs) new = ap (λ (l : List U). some_of x.1 ++ l) (seconds_on xs new) ∙ sym (append_assoc (some_of x.1) (seconds xs) (some_of new.1))

-- one collector was given one more, or nothing
grown : {T : Type 0} (before mid after came more : List T) (given : Option T) → mid ≡ before ++ came → after ≡ with_given mid given
    → more ≡ came ++ some_of given → after ≡ before ++ more
grown before mid after came more given was now is =
    now ∙ with_given_is mid given ∙ ap (λ (l : List _). l ++ some_of given) was ∙ append_assoc before came (some_of given)
    ∙ ap (λ (l : List _). before ++ l) (sym is)

-- what polls of a run over two collectors gave of each state is what its collector was given, behind what it had been given before
module _ {R T U E : Type 0} (polled : R → Poll (Event (Option T × Option U) E) → R → Type 0) (seen : R → SeatSeen T) (seen2 : R → SeatSeen U)
    (tells : (r : R) (answer : Poll (Event (Option T × Option U) E)) (q : R) → polled r answer q
    → AskedBoth (seen r) (seen2 r) answer (seen q) (seen2 q)) where
  pub given_is_collected_by_each : (r : R) (xs : List (Option T × Option U)) (q : R) → Gave polled r xs q
      → ((seen q).view.collected ≡ (seen r).view.collected ++ firsts xs) × ((seen2 q).view.collected ≡ (seen2 r).view.collected ++ seconds xs)
  given_is_collected_by_each r xs q nothing = (sym (append-nil (seen r).view.collected), sym (append-nil (seen2 r).view.collected))
  given_is_collected_by_each r ys q (one_more {s = m} {xs = xs} new before poll is) =
      let was = given_is_collected_by_each r xs m before in
      let asked = (tells m _ q poll).0 in (
        grown _ _ _ _ _ new.0 was.0 asked.1.received (ap firsts is ∙ firsts_on xs new),
        grown _ _ _ _ _ new.1 was.1 asked.3.received (ap seconds is ∙ seconds_on xs new),
      )
  given_is_collected_by_each r xs q (waited {s = m} before poll) =
      let was = given_is_collected_by_each r xs m before in
      let asked = tells m _ q poll in
      (asked.1.received ∙ was.0, asked.3.received ∙ was.1)
