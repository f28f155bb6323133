-- What a flow is made with, and when it can't be made.
use Rattle.std.specs.Prelude.{ℕ, ◌+◌, ◌==◌, ◌||◌, nat_lt, if◌then◌else◌, Option, Some, None}
use Rattle.flow_terms.specs.declared.refusal.Refusal.{Refusal}
use Rattle.flow_terms.specs.declared.refusal.Refusal.TheVariants as refusal
use Rattle.value_flows.specs.declared.config.Config.{Config}

-- how many of the latest values the flow keeps
abbrev pub places : Config → ℕ
places c = c.replay + c.extra

-- too many places, or none, or room for too many subscriptions, or for none
abbrev pub making_refusal : Config → Option Refusal
making_refusal c =
    if nat_lt 65536 (places c) then Some refusal.TooLarge
    else if places c == 0 then Some refusal.PolicyNeedsBuffer
    else if (c.subscribers == 0) || nat_lt 1024 c.subscribers then Some refusal.BadLimit
    else None
