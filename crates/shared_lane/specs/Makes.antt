-- What a lane is made of.
use Rattle.std.specs.Prelude.{◌≡◌, ◌+◌, ◌<◌, ◌≤◌, [], ℕ, List}
use Rattle.circular_buffer.specs.Buffer.{Buffer}
use Rattle.shared_core.specs.declared.config.Config.{Config}
use Rattle.shared_lane.specs.declared.tickets.Waiting.{Waiting}
use Rattle.shared_lane.specs.declared.tickets.Standing.{Standing}

-- what a flow can be made with, but for the policy
pub record IsWithinBounds (config : Config) : Type 0 where
  pub places : config.replay + config.extra ≤ 65536
  pub some_subscriber : 0 < config.subscribers
  pub subscribers : config.subscribers ≤ 1024
  pub emits : config.emits ≤ 1024
  pub first : config.first ≤ 4611686018427387904

-- the cache and both tables are empty, and have the room that a flow with this config needs
pub record AreEmpty (config : Config) (cache : Buffer ℕ) (waiting : List Waiting) (standing : List Standing) (waiting_room standing_room : ℕ) : Type 0 where
  pub no_value : cache.items ≡ []
  pub replay : cache.capacity ≡ config.replay
  pub nothing_waits : waiting ≡ []
  pub nothing_stands : standing ≡ []
  pub room_to_wait : config.emits ≤ waiting_room
  pub room_to_stand : config.emits ≤ standing_room
