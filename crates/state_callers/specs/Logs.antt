-- What stands in the log of a subscription to a flow of any type.
use Rattle.std.specs.Prelude.{◌≡◌, ◌⊎◌, ℕ, Bool, Some, List, [], ◌∷◌, slice_get, MatchBool}
use Rattle.round_lock.specs.Locking.{Locking}
use Rattle.value_flows.specs.declared.round.Round.{Round}
use Rattle.value_flows.specs.declared.round.Round.TheVariants as round
use Rattle.value_flows.specs.declared.ring.Ring.{Ring}
use Rattle.value_flows.specs.Calls.{accepted}
use Rattle.value_flows.specs.Receiving.{AfterNone, FindsNone, Gives, Tells, all_by}

-- the number of the value that a call gave
abbrev pub given_by : Round → List ℕ
given_by round.Look = []
given_by round.Emit = []
given_by (round.Begin place start) = []
given_by (round.Give place number) = number ∷ []
given_by (round.Miss place from count) = []
given_by (round.End place) = []
given_by round.Forget = []

module _ {T : Type 0} (is_clone : T → T → Type 0) where
  -- the entries are clones of the values that were accepted under these numbers, one of each, in order
  abbrev pub AreClones : List T → List ℕ → List T → Type 0
  AreClones values [] [] = Unit {0}
  AreClones values [] (entry ∷ log) = ⊥
  AreClones values (number ∷ numbers) [] = ⊥
  AreClones values (number ∷ numbers) (entry ∷ log) = ((value : T) × (slice_get values number ≡ Some value) × is_clone value entry) × AreClones values numbers log

  -- a log has a clone of each value that the subscription was given, in order, and nothing else
  abbrev pub IsLogOf : Locking (Ring T) Round → List T → Type 0
  IsLogOf owner log = AreClones (accepted owner) (all_by given_by owner.log.own) log

module _ {T : Type 0} where
  -- a value was given, or some were told as missed
  abbrev pub Passes : Locking (Ring T) Round → Locking (Ring T) Round → Type 0
  Passes v w = ((value : T) × Gives v value w) ⊎ ((count : ℕ) × Tells v count w)

  -- the last ask found nothing: each value that was accepted before it was given, or told as missed
  abbrev pub IsAtEnd : Locking (Ring T) Round → Type 0
  IsAtEnd owner = (before : Locking (Ring T) Round) × FindsNone before owner

  -- what one turn comes to: after asks that found nothing, if any, the subscription goes on, or it was let go
  abbrev pub Turns : Bool → Locking (Ring T) Round → Locking (Ring T) Round → Type 0
  Turns goes_on v w = MatchBool goes_on (AfterNone Passes v w) (IsAtEnd w)
