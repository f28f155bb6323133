-- The preludes of a script's subscriptions.
use Rattle.std.specs.Prelude.{ℕ, Bool, List, length, nat_le, Result, Err, if◌then◌else◌}
use Rattle.flow_terms.specs.declared.refusal.Refusal.{Refusal}
use Rattle.flow_terms.specs.declared.refusal.Refusal.TheVariants.{PreludeTooLong}
use Rattle.flow_terms.specs.declared.ids.SubId.{SubId}
use Rattle.shared_core.specs.Flow.{State}
use Rattle.shared_core.specs.Calls.{subscribe_with}

-- these values make a prelude
abbrev pub is_prelude : List ℕ → Bool
is_prelude values = nat_le (length values) 16

-- one subscribes to a flow on one thread with these values
abbrev pub subscribed : List ℕ → State ℕ → Result SubId Refusal × State ℕ
subscribed values M = if is_prelude values then subscribe_with values M else (Err PreludeTooLong, M)
