-- Tries of an emission, one after another.
use Rattle.std.proofs.Common.{◌≡◌, ◌∙◌, subst}
use Rattle.round_lock.specs.Locking.{Locking}
use Rattle.flow_terms.specs.declared.policy.Policy.TheVariants as policy
use Rattle.value_flows.specs.declared.round.Round.{Round}
use Rattle.value_flows.specs.declared.ring.Ring.{Ring}
use Rattle.value_flows.specs.declared.received.Emitted.{Emitted}
use Rattle.value_flows.specs.declared.received.Emitted.TheVariants as emitted
use Rattle.value_flows.specs.declared.received.Tried.TheVariants as tried
use Rattle.value_flows.specs.Calls.{Refuses}
use Rattle.value_flows.specs.Emitting.{AfterWaiting, Emits, Tries, TriesOnce, WaitedOn, not_once, once_more}

module _ {T : Type 0} where
  -- after tries by which it had to wait come more of them
  pub waited_on : (v m w : Locking (Ring T) Round) → WaitedOn v m → WaitedOn m w → WaitedOn v w
  waited_on v m w before (not_once x) = before
  waited_on v m w before (once_more x n y more last) = once_more v n w (waited_on v m n before more) last

  -- the same before an emission that waits
  pub emits_on : (value : T) (v m w : Locking (Ring T) Round) (e : Emitted T) → WaitedOn v m → Emits value m e w → Emits value v e w
  emits_on value v m w (emitted.Accepted number) before came = (came.0, waited_on v m came.0 before came.1, came.2)
  emits_on value v m w (emitted.Dropped back) before came = (came.0, (came.1.0, waited_on v m came.1.0 before came.1.1, came.1.2))
  emits_on value v m w (emitted.Full back) before came = absurd came
  emits_on value v m w (emitted.Stopped back) before came = (came.0, (came.1.0, waited_on v m came.1.0 before came.1.1, came.1.2))

  -- and the turn that ends the wait
  pub is_over : (value : T) (v m w : Locking (Ring T) Round) (e : Emitted T) → WaitedOn v m → TriesOnce value m (tried.Over e) w → Emits value v e w
  is_over value v m w (emitted.Accepted number) before came = (m, before, came)
  is_over value v m w (emitted.Dropped back) before came = (came.0, (m, before, came.1))
  is_over value v m w (emitted.Full back) before came = absurd came
  is_over value v m w (emitted.Stopped back) before came = (came.0, (m, before, came.1))
