-- What a pump did that brought a value.
use Rattle.std.proofs.Common.{◌≡◌, ◌≤◌, ℕ, Bool, false, MatchOption, Option, Some, None, is_some, List, refl}
use Rattle.futures.specs.declared.task.Poll.TheVariants.{Ready}
use Rattle.cold_flow.specs.declared.event.Event.TheVariants.{Value}
use Rattle.cold_flow.specs.Poll.{Traces}
use Rattle.flow_terms.specs.declared.policy.Policy.{Policy}
use Rattle.flow_terms.specs.declared.policy.Policy.TheVariants.{Suspend}
use Rattle.flow_terms.specs.declared.fill.Fill.{Fill}
use Rattle.flow_terms.specs.declared.fill.Fill.TheVariants.{Took, Overwrote, Dropped, Full, Pending, Ended}
use Rattle.flow_buffer.specs.Sides.{Feeding, Filled, Levels, WasFull}
use Rattle.flow_buffer.specs.Feed.{Brings, MayPump}

pub unsent_by : {A : Type 0} (o : Option A) (b : Bool) → b ≡ is_some o → b ≡ false → o ≡ None
unsent_by None b is off = refl
unsent_by (Some x) b is off = cc

module _ {T : Type 0} (k : ℕ) (policy : Policy) (old : List (Bool × T)) (x : T) where
  -- a value that was put in, or found no place, isn't pending
  pub never_pending : (P : Type 0) (result : Option Fill) (new : List (Bool × T)) (waits : Type 0) → MatchOption result waits (λ fill. Filled k policy old x fill new) → result ≡ Some Pending → P
  never_pending P None new waits filled is = cc
  never_pending P (Some Took) new waits filled is = cc
  never_pending P (Some Overwrote) new waits filled is = cc
  never_pending P (Some Dropped) new waits filled is = cc
  never_pending P (Some Full) new waits filled is = absurd filled
  never_pending P (Some Pending) new waits filled is = absurd filled
  never_pending P (Some Ended) new waits filled is = absurd filled

module _ {U T E : Type 0} (may : U → Traces T E) (from to : U) (old new : Feeding T E) (x : T) where
  pub may_pump : (result : Option Fill) → old.sent ≡ None → Brings may from old.waiting (Ready (Value x)) to
      → MatchOption result ((old.policy ≡ Suspend) × WasFull old.capacity old.produced) (λ fill. Filled old.capacity old.policy old.produced x fill new.produced)
      → MatchOption result (old.capacity ≤ old.level) (λ fill. Levels old.capacity old.level fill new.level)
      → MatchOption result (new ≡ record old { waiting = Some (Value x) }) (λ _. new ≡ record old { produced = new.produced; level = new.level; waiting = None })
      → MayPump may from old result to new
  may_pump None unsent brings full high same = (unsent, full.1, high, (Value x, brings, full.0, same))
  may_pump (Some Took) unsent brings filled level same = (unsent, (x, brings, filled), level, same)
  may_pump (Some Overwrote) unsent brings filled level same = (unsent, (x, brings, filled), level, same)
  may_pump (Some Dropped) unsent brings filled level same = (unsent, (x, brings, filled), level, same)
  may_pump (Some Full) unsent brings filled level same = absurd filled
  may_pump (Some Pending) unsent brings filled level same = absurd filled
  may_pump (Some Ended) unsent brings filled level same = absurd filled
