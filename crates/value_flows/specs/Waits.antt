-- What the answers of a subscription say.
use Rattle.round_lock.specs.Locking.{Locking}
use Rattle.value_flows.specs.declared.round.Round.{Round}
use Rattle.value_flows.specs.declared.ring.Ring.{Ring}
use Rattle.value_flows.specs.declared.received.Received.{Received}
use Rattle.value_flows.specs.declared.received.Received.TheVariants as received
use Rattle.value_flows.specs.Receiving.{Gives, Tells, FindsNone, LeavesIt, AfterNone}

module _ {T R : Type 0} (makes : T → R → Type 0) where
  -- the next value, of which this was made
  abbrev pub GivesOne : R → Locking (Ring T) Round → Locking (Ring T) Round → Type 0
  GivesOne answer v w = (value : T) × Gives v value w × makes value answer

  -- what one ask is answered: it doesn't wait, and is never answered `Stopped`
  abbrev pub Asks : Locking (Ring T) Round → Received R → Locking (Ring T) Round → Type 0
  Asks v (received.Value answer) w = GivesOne answer v w
  Asks v (received.Missed count) w = Tells v count w
  Asks v received.Nothing w = FindsNone v w
  Asks v received.Stopped w = ⊥

  -- what a wait for some time is answered: after asks that found nothing, if any, the last one is answered so
  abbrev pub AwaitsWithin : Locking (Ring T) Round → Received R → Locking (Ring T) Round → Type 0
  AwaitsWithin v (received.Value answer) w = AfterNone (GivesOne answer) v w
  AwaitsWithin v (received.Missed count) w = AfterNone (λ m x. Tells m count x) v w
  AwaitsWithin v received.Nothing w = AfterNone FindsNone v w
  AwaitsWithin v received.Stopped w = AfterNone FindsNone v w

  -- the same of a wait without an end, which is never answered `Nothing`
  abbrev pub Awaits : Locking (Ring T) Round → Received R → Locking (Ring T) Round → Type 0
  Awaits v (received.Value answer) w = AfterNone (GivesOne answer) v w
  Awaits v (received.Missed count) w = AfterNone (λ m x. Tells m count x) v w
  Awaits v received.Nothing w = ⊥
  Awaits v received.Stopped w = AfterNone FindsNone v w

module _ {T : Type 0} (fails : T → Type 0) where
  -- no clone of the next value could be had: it wasn't given
  abbrev pub Fails : Locking (Ring T) Round → Locking (Ring T) Round → Type 0
  Fails v w = (value : T) × LeavesIt v value w × fails value

  -- the same after asks that found nothing, if any
  abbrev pub FailsLate : Locking (Ring T) Round → Locking (Ring T) Round → Type 0
  FailsLate v w = AfterNone Fails v w
