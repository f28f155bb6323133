-- Read this first: the values that a flow accepted, which are one list, and what lies under its lock of them.
use Rattle.std.specs.Prelude.{◌≡◌, ◌≢◌, ℕ, ◌<◌, ◌≤◌, List, [], ◌∷◌, ◌++◌, length}
use Rattle.std.specs.List.{All}
use Rattle.circular_buffer.specs.Buffer.{keep_last}
use Rattle.flow_terms.specs.declared.policy.Policy.TheVariants as policy
use Rattle.value_flows.specs.declared.round.Round.{Round}
use Rattle.value_flows.specs.declared.round.Round.TheVariants as round
use Rattle.value_flows.specs.declared.ring.Ring.{Ring}
use Rattle.value_flows.specs.Cursors.{Reaches}

module _ {T : Type 0} where
  -- what a call had the flow accept, which left this ring: the newest value, or nothing
  abbrev pub accepted_by : Round → Ring T → List T
  accepted_by round.Look ring = []
  accepted_by round.Emit ring = keep_last 1 ring.values.items
  accepted_by (round.Begin place start) ring = []
  accepted_by (round.Give place number) ring = []
  accepted_by (round.Miss place from count) ring = []
  accepted_by (round.End place) ring = []
  accepted_by round.Forget ring = []

  -- the values that a list of calls had the flow accept, in order: the one with number n stands at place n
  abbrev pub accepted_in : List (ℕ × Round × Ring T) → List T
  accepted_in [] = []
  accepted_in (t ∷ calls) = accepted_by t.1 t.2 ++ accepted_in calls

  -- the latest of these values are kept, as many as there are places, and counted are all
  pub record IsLatest (accepted : List T) (ring : Ring T) : Type 0 where
    pub some_place : 0 < ring.values.capacity
    pub latest : ring.values.items ≡ keep_last ring.values.capacity accepted
    pub number : ring.next ≡ length accepted
    -- the replay cache has no more than are kept, and begins no later than at the next value
    pub replays : ring.replay ≤ ring.values.capacity
    pub forgotten : ring.forgotten ≤ ring.next
    -- but under `DropOldest`, where a subscription stands nothing is let go that it has still to receive
    pub listed : ring.policy ≢ policy.DropOldest → All (Reaches ring.next ring.values.capacity) ring.cursors
