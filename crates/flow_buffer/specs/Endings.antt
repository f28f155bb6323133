-- How far a buffer in one task is from its end.
use Rattle.std.specs.Prelude.{◌||◌, Bool, IsTrue, IsSome, true, false, Option, Some, None}
use Rattle.cold_flow.specs.declared.cause.Cause.{Cause}
use Rattle.flow_buffer.specs.declared.ending.Ending.{Ending}
use Rattle.flow_buffer.specs.declared.ending.Ending.TheVariants.{Going, Kept, Given}

-- the source may be asked
abbrev pub is_going : {E : Type 0} → Ending E → Bool
is_going Going = true
is_going (Kept cause) = false
is_going (Given cause) = false

-- the end that was seen
abbrev pub seen : {E : Type 0} → Ending E → Option (Cause E)
seen Going = None
seen (Kept cause) = Some cause
seen (Given cause) = Some cause

-- the end that every poll gives
abbrev pub given : {E : Type 0} → Ending E → Option (Cause E)
given Going = None
given (Kept cause) = None
given (Given cause) = Some cause

-- the same, where an end that was seen is given now
abbrev pub given_now : {E : Type 0} → Ending E → Ending E
given_now Going = Going
given_now (Kept cause) = Given cause
given_now (Given cause) = Given cause

-- a buffer that gives its end asks its source no more
pub given-stops : {E : Type 0} (ending : Ending E) (source : Bool) → IsTrue (is_going ending || source) → IsSome (given ending) → IsTrue source
given-stops Going source stopped h = cc
given-stops (Kept cause) source stopped h = cc
given-stops (Given cause) source stopped h = stopped
