-- Buffers of a script: what each holds, what its source gives still, and what its calls answer.
use Rattle.std.specs.Prelude.{◌≡◌, ℕ, ◌==◌, ◌-◌, Bool, true, false, List, [], ◌∷◌, length, drop, if◌then◌else◌}
use Rattle.futures.specs.declared.task.Poll.{Poll}
use Rattle.futures.specs.declared.task.Poll.TheVariants as polls
use Rattle.cold_flow.specs.declared.cause.Cause.{Cause}
use Rattle.cold_flow.specs.declared.event.Event.{Event}
use Rattle.cold_flow.specs.declared.event.Event.TheVariants as events
use Rattle.flow_terms.specs.declared.policy.Policy.{Policy}
use Rattle.flow_terms.specs.declared.policy.Policy.TheVariants.{Suspend, DropOldest, DropLatest}
use Rattle.flow_buffer.specs.declared.ending.Ending.{Ending}
use Rattle.flow_buffer.specs.declared.ending.Ending.TheVariants.{Going, Kept, Given}
use Rattle.flow_terms.specs.declared.fill.Fill.{Fill}
use Rattle.flow_terms.specs.declared.fill.Fill.TheVariants as fills
use Rattle.flow_buffer.specs.declared.side.Fate.TheVariants as fates
use Rattle.flow_buffer.specs.Contents.{Contents, nothing, stored_of, produced, turned}
use Rattle.script_commands.specs.Sources.{Origin, values_from, cause_from}

pub record Buffering : Type 0 where
  -- every value that the source gave, each taken, stored or dropped
  pub contents : Contents ℕ
  -- the end that was seen or given
  pub ending : Ending ℕ
  -- the values that the source gives still, and how it ends then
  pub coming : List ℕ
  pub cause : Cause ℕ

-- a new buffer
abbrev pub begun : ℕ → Policy → Origin → Buffering
begun capacity policy origin = record { contents = nothing capacity policy; ending = Going; coming = values_from origin; cause = cause_from origin }

abbrev pub is_full : Contents ℕ → Bool
is_full contents = length (stored_of contents) == contents.capacity

-- full, and the policy is to wait
abbrev pub waits_by : Policy → Contents ℕ → Bool
waits_by Suspend contents = is_full contents
waits_by DropOldest contents = false
waits_by DropLatest contents = false

abbrev pub waits : Contents ℕ → Bool
waits contents = waits_by contents.policy contents

-- a value is put over the oldest one, or dropped itself
abbrev pub put_by : Policy → ℕ → Contents ℕ → Fill × Contents ℕ
put_by DropOldest x contents = (fills.Overwrote, produced fates.Stored x (turned fates.Dropped contents))
put_by DropLatest x contents = (fills.Dropped, produced fates.Dropped x contents)
put_by Suspend x contents = (fills.Full, contents)

-- a value is put where there is room, and else as the policy says
abbrev pub put : ℕ → Contents ℕ → Fill × Contents ℕ
put x contents = if is_full contents then put_by contents.policy x contents else (fills.Took, produced fates.Stored x contents)

-- the source gives its next value, or its end, which is kept
abbrev pub fill_from : List ℕ → Buffering → Fill × Buffering
fill_from [] buffering = (fills.Ended, record buffering { ending = Kept buffering.cause })
fill_from (x ∷ later) buffering = ((put x buffering.contents).0, record buffering { contents = (put x buffering.contents).1; coming = later })

abbrev pub fill_by : Ending ℕ → Bool → Buffering → Fill × Buffering
fill_by Going pending buffering =
    if waits buffering.contents then (fills.Full, buffering)
    else (if pending then (fills.Pending, buffering) else fill_from buffering.coming buffering)
fill_by (Kept cause) pending buffering = (fills.Ended, buffering)
fill_by (Given cause) pending buffering = (fills.Ended, buffering)

-- WHAT A FILL DOES, where the source is pending in it or not
unfoldable pub filled : Bool → Buffering → Fill × Buffering
filled pending buffering = fill_by buffering.ending pending buffering

-- none is stored: the source's next value passes, or its end is given
abbrev pub pass_from : List ℕ → Buffering → Poll (Event ℕ ℕ) × Buffering
pass_from [] buffering = (polls.Ready (events.End buffering.cause), record buffering { ending = Given buffering.cause })
pass_from (x ∷ later) buffering =
    (polls.Ready (events.Value x), record buffering { contents = turned fates.Taken (produced fates.Stored x buffering.contents); coming = later })

abbrev pub pass_by : Ending ℕ → Bool → Buffering → Poll (Event ℕ ℕ) × Buffering
pass_by Going pending buffering = if pending then (polls.Pending, buffering) else pass_from buffering.coming buffering
pass_by (Kept cause) pending buffering = (polls.Ready (events.End cause), record buffering { ending = Given cause })
pass_by (Given cause) pending buffering = (polls.Ready (events.End cause), buffering)

-- the oldest stored value is taken
abbrev pub take_by : List (ℕ × ℕ) → Bool → Buffering → Poll (Event ℕ ℕ) × Buffering
take_by [] pending buffering = pass_by buffering.ending pending buffering
take_by ((index, x) ∷ others) pending buffering = (polls.Ready (events.Value x), record buffering { contents = turned fates.Taken buffering.contents })

-- WHAT A TAKE DOES, where the source is pending in it or not
unfoldable pub taken : Bool → Buffering → Poll (Event ℕ ℕ) × Buffering
taken pending buffering = take_by (stored_of buffering.contents) pending buffering
