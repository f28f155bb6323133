-- The room for those whom a call wakes.
use Rattle.std.proofs.Common.{◌≡◌, ◌≤◌, ◌+◌, ℕ, Option, Some, unwrap_or, vec_capacity, sym, ap, subst, ◌∙◌}
use Rattle.shared_core.specs.declared.config.Config.{Config}
use Rattle.shared_rounds.specs.declared.round.Round.{Round}
use Rattle.shared_rounds.specs.declared.wait_list.WakeList.{WakeList}
use Rattle.shared_rounds.specs.Names.{FlowName, SharedSeen, TrackSeen, KnowsConfig, KnowsTrack}
use Rattle.shared_rounds.specs.Rounds.{Comes}
use Rattle.shared_rounds.specs.Sleeping.{HasAsMuchRoom, HasRoomFor}
use Rattle.shared_rounds.specs.Waking.{HoldsItsFlow}

-- as much room is enough
pub as_roomy : (config : Config) (before after : WakeList) → HasAsMuchRoom before after → HasRoomFor config before → HasRoomFor config after
as_roomy config before after same had =
    (subst (λ (n : ℕ). config.subscribers ≤ n) (sym same.0) had.0, subst (λ (n : ℕ). config.emits + 1 ≤ n) (sym same.1) had.1)

-- who knows the track of its flow knows what the flow was made with
pub knows_config : (known : Option FlowName) (track : TrackSeen) → KnowsTrack known track → KnowsConfig track.config known
knows_config known track knows name is = knows.2.3 ∙ ap (λ (n : FlowName). n.config) (ap (λ (o : Option FlowName). unwrap_or o name) (sym knows.1 ∙ is))

-- an owner knows what the flow that it holds was made with, also after a call
pub config_is : (config : Config) (known : Option FlowName) (held : Option SharedSeen) (found called : SharedSeen) (round : Round) → KnowsConfig config known
    → HoldsItsFlow known held → held ≡ Some found → Comes found round called → config ≡ called.name.config
config_is config known held found called round knows its is came =
    knows found.name (subst (HoldsItsFlow known) is its) ∙ ap (λ (name : FlowName). name.config) (sym came.0)
