-- How an object is made in a null handle.
use Rattle.std.specs.Prelude.{◌≡◌, ◌⊎◌, ◌==◌, if◌then◌else◌, ℕ, Option, Some, None}
use Rattle.flow_terms.specs.declared.policy.Policy.{Policy}
use Rattle.flow_terms.specs.declared.policy.Policy.TheVariants.{Suspend, DropOldest, DropLatest}
use Rattle.flow_terms.specs.declared.refusal.Refusal.{Refusal}
use Rattle.shared_core.specs.declared.config.Config.{Config}
use Rattle.shared_core.specs.Kept.{making_refusal}
use Rattle.hillgauze_c.specs.declared.config.FlowConfig.{FlowConfig}
use Rattle.hillgauze_c.specs.declared.object.Object.{Object}
use Rattle.hillgauze_c.specs.declared.reply.Reply.{Reply}
use Rattle.hillgauze_c.specs.Replies.{refused_as, refusal_reply, answered}

abbrev pub policy_of : ℕ → Option Policy
policy_of number = if number == 0 then Some Suspend else if number == 1 then Some DropOldest else if number == 2 then Some DropLatest else None

abbrev pub with_policy : FlowConfig → Option Policy → Option Config
with_policy c None = None
with_policy c (Some policy) =
    Some (record { replay = c.replay; extra = c.extra; policy = policy; subscribers = c.subscribers; emits = c.emits; first = c.first })

-- the library's config, where the number stands for a policy
abbrev pub config_of : FlowConfig → Option Config
config_of c = with_policy c (policy_of c.policy)

-- an object was made and stands in the handle, or memory was wanted and the handle is null still
abbrev pub IsMadeOrLeft : (Object → Type 0) → Reply → Option Object → Type 0
IsMadeOrLeft IsFresh reply after =
    ((object : Object) × (reply ≡ answered 1 0) × (after ≡ Some object) × IsFresh object) ⊎ ((reply ≡ refused_as 4) × (after ≡ None))

module _ (IsFresh : Config → Object → Type 0) where
  abbrev pub IsMadeBy : Config → Option Refusal → Reply → Option Object → Type 0
  IsMadeBy config None reply after = IsMadeOrLeft (IsFresh config) reply after
  IsMadeBy config (Some refusal) reply after = (reply ≡ refusal_reply refusal) × (after ≡ None)

  abbrev pub IsMadeFrom : Option Config → Reply → Option Object → Type 0
  IsMadeFrom None reply after = (reply ≡ refused_as 104) × (after ≡ None)
  IsMadeFrom (Some config) reply after = IsMadeBy config (making_refusal config) reply after

  -- a call with this config on a handle, which has to be null
  abbrev pub IsMadeIn : Option Object → FlowConfig → Reply → Option Object → Type 0
  IsMadeIn None config reply after = IsMadeFrom (config_of config) reply after
  IsMadeIn (Some object) config reply after = (reply ≡ refused_as 103) × (after ≡ Some object)
