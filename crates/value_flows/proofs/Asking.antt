-- Asks of a wait, one after another.
use Rattle.std.proofs.Common.{◌≡◌, ℕ, subst}
use Rattle.std.specs.Prelude.{Option, Some, None, MatchOption}
use Rattle.round_lock.specs.Locking.{Locking}
use Rattle.value_flows.specs.declared.round.Round.{Round}
use Rattle.value_flows.specs.declared.ring.Ring.{Ring}
use Rattle.value_flows.specs.declared.received.Awaited.{Awaited}
use Rattle.value_flows.specs.declared.received.Awaited.TheVariants as awaited
use Rattle.value_flows.specs.declared.received.Attempt.{Attempt}
use Rattle.value_flows.specs.declared.received.Attempt.TheVariants as attempt
use Rattle.value_flows.specs.declared.received.Received.{Received}
use Rattle.value_flows.specs.declared.received.Received.TheVariants as received
use Rattle.value_flows.specs.Receiving.{AfterNone, FindsNone, Comes, ComesTo, FoundNoneOn, not_once, once_more}
use Rattle.value_flows.specs.Waits.{Awaits, AwaitsWithin}

module _ {T : Type 0} where
  -- after asks that found nothing come more that found nothing
  pub none_on : (v m w : Locking (Ring T) Round) → FoundNoneOn v m → FoundNoneOn m w → FoundNoneOn v w
  none_on v m w before (not_once x) = before
  none_on v m w before (once_more x n y more last) = once_more v n w (none_on v m n before more) last

  pub after_on : (last : Locking (Ring T) Round → Locking (Ring T) Round → Type 0) (v m w : Locking (Ring T) Round) → FoundNoneOn v m → AfterNone last m w → AfterNone last v w
  after_on last v m w before came = (came.0, none_on v m came.0 before came.1, came.2)

  -- asks that found nothing come before a wait
  pub comes_on : (v m w : Locking (Ring T) Round) (a : Awaited T) → FoundNoneOn v m → ComesTo m a w → ComesTo v a w
  comes_on v m w (awaited.There guarded) before came = (came.0, (came.1.0, none_on v m came.1.0 before came.1.1, came.1.2))
  comes_on v m w (awaited.Missed count) before came = (came.0, none_on v m came.0 before came.1, came.2)
  comes_on v m w awaited.Stopped before came = (came.0, none_on v m came.0 before came.1, came.2)

  pub comes_within : (v m w : Locking (Ring T) Round) (a : Option (Awaited T)) → FoundNoneOn v m → MatchOption a (AfterNone FindsNone m w) (λ (x : Awaited T). ComesTo m x w) → MatchOption a (AfterNone FindsNone v w) (λ (x : Awaited T). ComesTo v x w)
  comes_within v m w None before came = (came.0, none_on v m came.0 before came.1, came.2)
  comes_within v m w (Some a) before came = comes_on v m w a before came

  -- asks that found nothing, and the turn that ends the wait
  pub is_over : (v m w : Locking (Ring T) Round) (a : Awaited T) → FoundNoneOn v m → Comes m (attempt.Over a) w → ComesTo v a w
  is_over v m w (awaited.There guarded) before came = (came.0, (m, before, came.1))
  is_over v m w (awaited.Missed count) before came = (m, before, came)
  is_over v m w awaited.Stopped before came = (m, before, came)

  -- one turn more of a wait: the thread sleeps after it
  pub goes_on : (v m w : Locking (Ring T) Round) (n : ℕ) (turn : Attempt T) → turn ≡ attempt.Asleep n → FoundNoneOn v m → Comes m turn w → FoundNoneOn v w
  goes_on v m w n turn is before came = once_more v m w before (subst (λ (t : Attempt T). Comes m t w) is came)

  -- or the wait ends by it
  pub ends_so : (v m w : Locking (Ring T) Round) (a : Awaited T) (turn : Attempt T) → turn ≡ attempt.Over a → FoundNoneOn v m → Comes m turn w → ComesTo v a w
  ends_so v m w a turn is before came = is_over v m w a before (subst (λ (t : Attempt T). Comes m t w) is came)

module _ {T R : Type 0} (makes : T → R → Type 0) where
  -- a wait without an end answers as one for some time
  pub within : (v w : Locking (Ring T) Round) (r : Received R) → Awaits makes v r w → AwaitsWithin makes v r w
  within v w (received.Value answer) came = came
  within v w (received.Missed count) came = came
  within v w received.Nothing came = absurd came
  within v w received.Stopped came = came
