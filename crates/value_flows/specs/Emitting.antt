-- What an emission comes to.
use Rattle.std.specs.Prelude.{◌≡◌, Option}
use Rattle.round_lock.specs.Locking.{Locking}
use Rattle.flow_terms.specs.declared.policy.Policy.TheVariants as policy
use Rattle.value_flows.specs.declared.round.Round.{Round}
use Rattle.value_flows.specs.declared.ring.Ring.{Ring}
use Rattle.value_flows.specs.declared.received.Emitted.{Emitted}
use Rattle.value_flows.specs.declared.received.Emitted.TheVariants as emitted
use Rattle.value_flows.specs.declared.received.Offered.{Offered}
use Rattle.value_flows.specs.declared.received.Offered.TheVariants as offered
use Rattle.value_flows.specs.declared.received.Tried.{Tried}
use Rattle.value_flows.specs.declared.received.Tried.TheVariants as tried
use Rattle.value_flows.specs.Calls.{Accepts, Refuses}

module _ {T : Type 0} where
  -- what one try comes to: the value is accepted, or handed back
  abbrev pub Offers : T → Locking (Ring T) Round → Offered T → Locking (Ring T) Round → Type 0
  Offers value v (offered.Accepted number old) w = Accepts v number value w
  Offers value v (offered.Dropped back) w = (back ≡ value) × Refuses policy.DropLatest v w
  Offers value v (offered.Full back) w = (back ≡ value) × Refuses policy.Suspend v w

  -- what it is answered: never `Stopped`
  abbrev pub Tries : T → Locking (Ring T) Round → Emitted T → Locking (Ring T) Round → Type 0
  Tries value v (emitted.Accepted number) w = Accepts v number value w
  Tries value v (emitted.Dropped back) w = (back ≡ value) × Refuses policy.DropLatest v w
  Tries value v (emitted.Full back) w = (back ≡ value) × Refuses policy.Suspend v w
  Tries value v (emitted.Stopped back) w = ⊥

  -- by tries, one after another, the emission had to wait
  pub data WaitedOn : Locking (Ring T) Round → Locking (Ring T) Round → Type 0 where
    not_once : (v : Locking (Ring T) Round) → WaitedOn v v
    once_more : (v m w : Locking (Ring T) Round) → WaitedOn v m → Refuses policy.Suspend m w → WaitedOn v w

  -- after tries by which it had to wait, if any, the last one came to this
  abbrev pub AfterWaiting : (Locking (Ring T) Round → Locking (Ring T) Round → Type 0) → Locking (Ring T) Round → Locking (Ring T) Round → Type 0
  AfterWaiting last v w = (m : Locking (Ring T) Round) × WaitedOn v m × last m w

  -- what an emission that waits for room is answered: never `Full`
  abbrev pub Emits : T → Locking (Ring T) Round → Emitted T → Locking (Ring T) Round → Type 0
  Emits value v (emitted.Accepted number) w = AfterWaiting (λ m x. Accepts m number value x) v w
  Emits value v (emitted.Dropped back) w = (back ≡ value) × AfterWaiting (Refuses policy.DropLatest) v w
  Emits value v (emitted.Full back) w = ⊥
  Emits value v (emitted.Stopped back) w = (back ≡ value) × AfterWaiting (Refuses policy.Suspend) v w

  -- what one turn of a wait comes to: one try
  abbrev pub TriesOnce : T → Locking (Ring T) Round → Tried T → Locking (Ring T) Round → Type 0
  TriesOnce value v (tried.Over (emitted.Accepted number)) w = Accepts v number value w
  TriesOnce value v (tried.Over (emitted.Dropped back)) w = (back ≡ value) × Refuses policy.DropLatest v w
  TriesOnce value v (tried.Over (emitted.Full back)) w = ⊥
  TriesOnce value v (tried.Over (emitted.Stopped back)) w = (back ≡ value) × Refuses policy.Suspend v w
  TriesOnce value v (tried.Asleep n back) w = (back ≡ value) × Refuses policy.Suspend v w
