-- Asks of two collectors, one after another.
use Rattle.std.proofs.Common.{◌≡◌, ◌++◌, Option, Some, None, MatchOption}
use Rattle.state_flow.specs.declared.view.View.{View}
use Rattle.state_flow.specs.Calls.{Collects}
use Rattle.state_waiting.specs.Waits.{AskedOn, MissedOn, not_once, once_more}
use Rattle.state_waiting.proofs.Asking.{asked_has}
use Rattle.paired_states.specs.declared.fresh.Fresh.{Fresh}
use Rattle.paired_states.specs.Pairing.{Asked, AskedNone, first_of, second_of}

module _ {T : Type 0} where
  missed_all : (v m w : View T) → MissedOn v m → MissedOn m w → MissedOn v w
  missed_all v m w before (not_once x) = before
  missed_all v m w before (once_more x n y more last) = once_more v n w (missed_all v m n before more) last

  -- asks that gave nothing, and then more
  pub asked_after : (v m w : View T) (given : Option T) → MissedOn v m → AskedOn m given w → AskedOn v given w
  asked_after v m w given before asked = (asked.0, missed_all v m asked.0 before asked.1, asked.2)

  pub missed_after : (v m w : View T) → MissedOn v m → Collects m None w → MissedOn v w
  missed_after v m w before asked = once_more v m w before asked

  pub missed_none : (v : View T) → MissedOn v v
  missed_none v = not_once v

module _ {T U : Type 0} where
  -- asks of both that gave nothing come before a wait
  pub both_after : (v m v' : View T) (w n w' : View U) (result : Option (Fresh T U)) → MissedOn v m → MissedOn w n
      → MatchOption result (AskedNone m n v' w') (λ f. Asked m n f.first f.second v' w')
      → MatchOption result (AskedNone v w v' w') (λ f. Asked v w f.first f.second v' w')
  both_after v m v' w n w' None first second h = (asked_after v m v' None first h.0, asked_after w n w' None second h.1)
  both_after v m v' w n w' (Some f) first second h = (asked_after v m v' f.first first h.0, asked_after w n w' f.second second h.1, h.2)

  -- what each had collected, and then what the answer has of its state
  pub both_has : (v v' : View T) (w w' : View U) (result : Option (Fresh T U)) → MatchOption result (AskedNone v w v' w') (λ f. Asked v w f.first f.second v' w')
      → (v'.collected ≡ v.collected ++ first_of result) × (w'.collected ≡ w.collected ++ second_of result)
  both_has v v' w w' None asked = (asked_has v v' None asked.0, asked_has w w' None asked.1)
  both_has v v' w w' (Some f) asked = (asked_has v v' f.first asked.0, asked_has w w' f.second asked.1)
