-- What lies under the lock of a shared flow, and what names the flow.
use Rattle.std.specs.Prelude.{◌≡◌, ◌≢◌, ◌⊎◌, ◌+◌, ◌≤◌, ◌++◌, ◌∷◌, [], ℕ, List, Bool, true, Option, Some}
use Rattle.atomic_table.specs.Seated.{TableId}
use Rattle.flow_terms.specs.declared.policy.Policy.TheVariants.{Suspend}
use Rattle.shared_core.specs.declared.config.Config.{Config}
use Rattle.shared_lane.specs.Views.{LaneSeen, SequencerSeen}
use Rattle.shared_lane.specs.Sequencers.{IsSequencerOf, IsFresh, shape_of}
use Rattle.slab.specs.Slab.{Slab}
use Rattle.shared_rounds.specs.declared.flag.view.FlagLook.{FlagLook}
use Rattle.shared_rounds.specs.declared.wait_list.Sleeper.{Sleeper}
use Rattle.shared_rounds.specs.Flags.{flag_look}
use Rattle.shared_rounds.specs.Sleeping.{NobodySleeps}

-- a flow: what it was made with, its lane, and its flag
pub record FlowName : Type 0 where
  pub config : Config
  pub lane : LaneSeen
  pub flag : TableId

-- what the parties of a flow share without its lock: what it was made with, its lane, its flag, and whether emissions of it may wait
pub record TrackSeen : Type 0 where
  pub config : Config
  pub lane : LaneSeen
  pub flag : TableId
  pub may_wait : Bool

-- what lies under the lock: which flow it is, its sequencer, its flag, how many words the sequencer had loaded as that was raised for the
-- last emission that began to wait, and the subscriptions and the emissions whose tasks sleep
pub record SharedSeen : Type 0 where
  pub name : FlowName
  pub sequencer : SequencerSeen
  pub flag : ℕ
  pub raised : ℕ
  pub subscriptions : Slab Sleeper
  pub emissions : Slab Sleeper

-- the sequencer goes by the config
abbrev pub GoesBy : Config → SequencerSeen → Type 0
GoesBy config q = (q.policy ≡ config.policy) × (q.capacity ≡ config.replay + config.extra) × (q.replay ≡ config.replay)
    × (q.emits ≡ config.emits) × (q.view.shape ≡ shape_of config)

-- the sequencer is of this lane and goes by the config
abbrev pub IsGuarded : Config → LaneSeen → SequencerSeen → Type 0
IsGuarded config lane q = IsSequencerOf lane q × GoesBy config q

-- nothing was emitted, nobody has subscribed, and nobody sleeps
abbrev pub IsNew : SharedSeen → Type 0
IsNew s = IsGuarded s.name.config s.name.lane s.sequencer × IsFresh s.name.config s.sequencer × NobodySleeps s.subscriptions × NobodySleeps s.emissions

-- all subscriptions and emissions of a flow with this config have room to sleep
abbrev pub HaveRoomForAll : Config → Slab Sleeper → Slab Sleeper → Type 0
HaveRoomForAll config subscriptions emissions = (config.subscribers ≤ subscriptions.capacity) × (config.emits ≤ emissions.capacity)

-- all of the flow have
abbrev pub HasRoom : SharedSeen → Type 0
HasRoom s = HaveRoomForAll s.name.config s.subscriptions s.emissions

-- an owner knows its flow, and the lane is that flow's
abbrev pub KnowsLane : Option FlowName → LaneSeen → Type 0
KnowsLane known lane = (name : FlowName) × (known ≡ Some name) × (lane ≡ name.lane)

-- where emissions of the flow may wait, its parties look at the flag
abbrev pub MayWait : TrackSeen → Type 0
MayWait track = track.config.policy ≡ Suspend → track.may_wait ≡ true

-- the lane and the flag are that flow's, and so is what it was made with
abbrev pub IsTrackOf : FlowName → TrackSeen → Type 0
IsTrackOf name track = (track.lane ≡ name.lane) × (track.flag ≡ name.flag) × MayWait track × (track.config ≡ name.config)

-- an owner knows its flow, and the lane and the flag are that flow's
abbrev pub KnowsTrack : Option FlowName → TrackSeen → Type 0
KnowsTrack known track = (name : FlowName) × (known ≡ Some name) × IsTrackOf name track

-- an owner knows what its flow was made with, and so how many one call may have to wake
abbrev pub KnowsConfig : Config → Option FlowName → Type 0
KnowsConfig config known = (name : FlowName) → known ≡ Some name → config ≡ name.config

-- what one looks at is the flow's flag
abbrev pub IsFlagOf : Option FlowName → TableId → Type 0
IsFlagOf known flag = (name : FlowName) → known ≡ Some name → flag ≡ name.flag

-- no emission of the flow may wait, or one more look, for a reader that stood there and whose party had made so many rounds, found its
-- flag down
abbrev pub FoundDown : Option FlowName → ℕ → ℕ → List FlagLook → List FlagLook → Type 0
FoundDown known position rounds before after =
    ((name : FlowName) → known ≡ Some name → name.config.policy ≢ Suspend) ⊎ (after ≡ before ++ flag_look position rounds 0 ∷ [])

-- one more look, for such a reader, found it up
abbrev pub FoundUp : ℕ → ℕ → List FlagLook → List FlagLook → Type 0
FoundUp position rounds before after = (found : ℕ) × (found ≢ 0) × (after ≡ before ++ flag_look position rounds found ∷ [])

-- a flow that was made with this config
abbrev pub IsMadeWith : Config → Option FlowName → Type 0
IsMadeWith config known = (name : FlowName) × (known ≡ Some name) × (name.config ≡ config)
