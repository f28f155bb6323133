-- The flow that a source says, and what a run of it may give.
use Rattle.std.specs.Prelude.{◌≡◌, ℕ, ◌-◌, List, [], Bool, Option, Some, None, is_some, length, drop}
use Rattle.std.specs.List.{range_with_len}
use Rattle.std.specs.Iterator.{Count, at_most, IsFinite}
use Rattle.cold_flow.specs.declared.builders.steps.EndingRun.{EndingRun}
use Rattle.cold_flow.specs.declared.builders.scripted.Stepped.{Stepped}
use Rattle.cold_flow.specs.declared.builders.range.Numbers as numbers_flow
use Rattle.cold_flow.specs.declared.cause.Cause.{Cause}
use Rattle.cold_flow.specs.declared.cause.Cause.TheVariants.{Finished, Cancelled}
use Rattle.cold_flow.specs.Laws.{list-uncancelled, Unless-begins, Unless-over, begins-any}
use Rattle.cold_flow.specs.Poll.{Traces, Beginnings, Unless}
use Rattle.cold_flow.specs.Scripted.{played}
use Rattle.cold_flow.specs.Trace.{Trace, ◌⊑◌, so_far, ended_by}
use Rattle.script_commands.specs.declared.source.Source.{Source}
use Rattle.script_commands.specs.declared.source.Source.TheVariants.{Of, Range, Fail}
use Rattle.script_commands.specs.declared.source_flow.SourceFlow.{SourceFlow}
use Rattle.script_commands.specs.declared.source_flow.SourceRun.{SourceRun}
use Rattle.script_commands.specs.declared.source_flow.SourceRun.TheVariants.{Items, Numbers}
use Rattle.script_commands.specs.Sources.{origin_in, given}

-- what each kind of source may give still
abbrev pub steps_left : EndingRun (Stepped ℕ ℕ) ℕ → Traces ℕ ℕ
steps_left run = Unless run.ended (Beginnings (played (drop run.source.next run.source.steps.items)))

abbrev pub numbers_left : EndingRun (numbers_flow.Numbers ℕ) ℕ → Traces ℕ ℕ
numbers_left run = Unless run.ended (Beginnings (ended_by (range_with_len run.source.from (run.source.to - run.source.from)) Finished))

-- the source that a flow gives
abbrev pub source_of : SourceFlow → Source
source_of flow = flow.source

-- what a run of a source may give
abbrev pub source_may : Source → Traces ℕ ℕ
source_may source = Beginnings (given (origin_in source))

-- what it may give still
abbrev pub run_may : SourceRun → Traces ℕ ℕ
run_may (Items run) = steps_left run
run_may (Numbers run) = numbers_left run

-- the end that it gave
abbrev pub run_ended : SourceRun → Option (Cause ℕ)
run_ended (Items run) = run.ended
run_ended (Numbers run) = run.ended

-- no more polls than this come before its end
abbrev pub run_polls : SourceRun → Count
run_polls (Items run) = at_most (length run.source.steps.items - run.source.next)
run_polls (Numbers run) = at_most (run.source.to - run.source.from)

-- no source ends by a cancellation
pub source_uncancelled : (source : Source) (xs : List ℕ) → source_may source (ended_by xs Cancelled) → ⊥
source_uncancelled (Of items) xs h = list-uncancelled _ None xs h
source_uncancelled (Range from to) xs h = list-uncancelled _ None xs h
source_uncancelled (Fail fault items) xs h = list-uncancelled _ (Some fault) xs h

pub run_begins : (run : SourceRun) → run_may run (so_far [])
run_begins (Items run) = Unless-begins run.ended _ (begins-any _)
run_begins (Numbers run) = Unless-begins run.ended _ (begins-any _)

pub run_over : (run : SourceRun) (k : Cause ℕ) → run_ended run ≡ Some k → (t : Trace ℕ ℕ) → run_may run t → t ⊑ ended_by [] k
run_over (Items run) = Unless-over run.ended _
run_over (Numbers run) = Unless-over run.ended _

pub run_finite : (run : SourceRun) → IsFinite (run_polls run)
run_finite (Items run) = tt
run_finite (Numbers run) = tt
