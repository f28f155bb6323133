-- Each subscription's story, over any list of events.
use Rattle.std.proofs.Common.{true, false, cond, List, [], ◌∷◌, length}
use Rattle.shared_core.specs.Flow.{State, empty, lost_next, open_next}
use Rattle.shared_core.specs.Story.{IsTold, Grows}
use Rattle.shared_core.specs.Events.{Event, accepts, greets, receives, loses, opens, closes, resets, may_occur, occur, happen, EventLaw, EventGrowthLaw, EventCacheLaw}
use Rattle.shared_core.proofs.Pending.{IsTold-lost_next}
use Rattle.shared_core.specs.Accepting.{IsSound}
use Rattle.shared_core.proofs.Sound.{sound-empty, sound-accept, sound-greet, sound-receive, sound-open, sound-close, sound-reset, all_changed}
use Rattle.shared_core.proofs.Growing.{grows_same, grows_then, grows_accept, grows_lose, grows-events, begins_with_prelude}
use Rattle.shared_core.proofs.Telling.{stories}

module _ {T : Type 0} where
  sound-occur : (event : Event T) (M : State T) → IsSound M → IsSound (occur event M)
  sound-occur (accepts emitter v) M sound = sound-accept emitter v M sound
  sound-occur (greets k) M sound = sound-greet k M sound
  sound-occur (receives k) M sound = sound-receive k M sound
  sound-occur (loses k) M sound = record {
    told = all_changed (IsTold (length M.accepted)) (lost_next (length M.accepted)) (IsTold-lost_next (length M.accepted)) k M.subscriptions sound.told;
    reset = sound.reset;
  }
  sound-occur (opens prelude) M sound = sound-open prelude M sound
  sound-occur (closes k) M sound = sound-close k M sound
  sound-occur resets M sound = sound-reset M sound

  sound-happen : (events : List (Event T)) (M : State T) → IsSound M → IsSound (happen events M)
  sound-happen [] M sound = sound
  sound-happen (event ∷ events) M sound =
      sound-happen events (cond (may_occur event M) (occur event M) M)
      (elim (may_occur event M) as (λ b. IsSound (cond b (occur event M) M)) [ true ↦ sound-occur event M sound | false ↦ sound ])

  grows-occur : (event : Event T) (M : State T) → Grows M (occur event M)
  grows-occur (accepts emitter v) M = grows_accept emitter v M
  grows-occur (greets k) M = grows-events.greets k M
  grows-occur (receives k) M = grows-events.receives k M
  grows-occur (loses k) M = grows_lose k M
  grows-occur (opens prelude) M = grows-events.quiet.opens prelude M
  grows-occur (closes k) M = grows-events.quiet.closes k M
  grows-occur resets M = grows-events.resets M

  pub grows-happen : (events : List (Event T)) (M : State T) → Grows M (happen events M)
  grows-happen [] M = grows_same M
  grows-happen (event ∷ events) M =
      grows_then
      (elim (may_occur event M) as (λ b. Grows M (cond b (occur event M) M)) [ true ↦ grows-occur event M | false ↦ grows_same M ])
      (grows-happen events (cond (may_occur event M) (occur event M) M))

pub event_law : (T : Type 0) → EventLaw T
event_law T p events = stories (happen events (empty p)) (sound-happen events (empty p) (sound-empty p))

pub event_growth_law : (T : Type 0) → EventGrowthLaw T
event_growth_law T M events = grows-happen events M

pub event_cache_law : (T : Type 0) → EventCacheLaw T
event_cache_law T p prelude events later =
    let M = happen events (empty p) in
    begins_with_prelude prelude M (happen later (open_next prelude M)) (sound-happen events (empty p) (sound-empty p)) (grows-happen later (open_next prelude M))
