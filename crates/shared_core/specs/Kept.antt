-- What holds of the fields of a shared flow between any two calls.
use Rattle.std.specs.Prelude.{◌≡◌, Bool, true, false, not, ◌&&◌, ◌||◌, ◌==◌, nat_le, if◌then◌else◌, ℕ, ◌+◌, ◌<◌, ◌≤◌, length, Option, Some, None}
use Rattle.std.specs.List.{All}
use Rattle.flow_terms.specs.declared.refusal.Refusal.{Refusal}
use Rattle.flow_terms.specs.declared.refusal.Refusal.TheVariants.{TooLarge, PolicyNeedsBuffer, BadLimit}
use Rattle.flow_terms.specs.declared.policy.Policy.{Policy}
use Rattle.flow_terms.specs.declared.policy.Policy.TheVariants.{Suspend, DropOldest, DropLatest}
use Rattle.shared_core.specs.declared.config.Config.{Config}
use Rattle.shared_core.specs.Queues.{Queued}
use Rattle.shared_core.specs.Ringed.{Ringed}
use Rattle.shared_core.specs.declared.tickets.OutTicket.{OutTicket}
use Rattle.shared_core.specs.declared.tickets.Accepted.{Accepted}
use Rattle.shared_core.specs.declared.tickets.Waiting.{Waiting}
use Rattle.shared_core.specs.Flow.{Standing, waits, stands, Overflow, suspend, drop_oldest, drop_latest, Parameters, places, number_limit}

abbrev pub overflow_of : Policy → Overflow
overflow_of Suspend = suspend
overflow_of DropOldest = drop_oldest
overflow_of DropLatest = drop_latest

abbrev pub suspends : Policy → Bool
suspends Suspend = true
suspends DropOldest = false
suspends DropLatest = false

abbrev pub parameters_of : Config → Parameters
parameters_of c = record {
  replay = c.replay;
  extra = c.extra;
  overflow = overflow_of c.policy;
  subscribers = c.subscribers;
  emits = c.emits;
  first = c.first;
}

-- why no flow can be made so: too many places, a policy that drops without any, or a number out of bounds
abbrev pub making_refusal : Config → Option Refusal
making_refusal c =
    if not (nat_le (c.replay + c.extra) 65536) then Some TooLarge
    else if (c.replay + c.extra) == 0 && not (suspends c.policy) then Some PolicyNeedsBuffer
    else if c.subscribers == 0 || not (nat_le c.subscribers 1024) then Some BadLimit
    else if c.emits == 0 || not (nat_le c.emits 1024) then Some BadLimit
    else if not (nat_le c.first number_limit) then Some BadLimit
    else None

-- a ticket of an accepted emission, and one of a waiting emission, as contracts see them
abbrev pub shown_accepted : {T : Type 0} → OutTicket Accepted → ℕ × Standing T
shown_accepted h = (h.ticket, stands h.emission.index)

abbrev pub shown_waiting : {T : Type 0} → OutTicket (Waiting T) → ℕ × Standing T
shown_waiting h = (h.ticket, waits h.emission.emitter h.emission.value)

-- numbers count up from the first one, and there is one left for each emission that waits
pub record AreNumbered (config : Config) (next_number subscribed given waiting : ℕ) : Type 0 where
  pub counted : config.first ≤ next_number
  pub emissions : next_number + waiting ≤ number_limit
  pub subscriptions : config.first + subscribed ≤ number_limit
  pub tickets : config.first + given ≤ number_limit

-- the ring has what the flow was made with
pub record IsRingOf {T : Type 0} (config : Config) (ring : Ringed T) : Type 0 where
  pub capacity : config.replay + config.extra ≤ 65536
  pub replay : ring.replay ≡ config.replay
  pub limit : ring.limit ≡ places (parameters_of config)
  pub subscribers : ring.subscribers ≡ config.subscribers

-- no more tickets are out than may be, and those of accepted emissions name emissions that were accepted
pub record AreTickets {T : Type 0} (config : Config) (next_number : ℕ)
    (accepted : Queued (OutTicket Accepted)) (waiting : Queued (OutTicket (Waiting T))) : Type 0 where
  pub emits : config.emits ≤ 1024
  pub accepted_limit : accepted.limit ≡ config.emits
  pub waiting_limit : waiting.limit ≡ config.emits
  pub within : length accepted.values + length waiting.values ≤ config.emits
  pub indexes : All (λ h. config.first + h.emission.index < next_number) accepted.values
