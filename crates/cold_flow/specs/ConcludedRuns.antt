-- What contracts name of a run with a finale. A caller needs to know no more of it.
use Rattle.std.specs.Prelude.{Option}
use Rattle.cold_flow.specs.declared.cause.Cause.{Cause}
use Rattle.cold_flow.specs.declared.run.Run as runs
use Rattle.cold_flow.specs.declared.operators.finale.ConcludedRun.{ConcludedRun}
use Rattle.cold_flow.specs.Closing.{given_cause, told_cause}

module _ {S H E T F : Type 0} {run : runs.Ghosts S T F} where
  -- the run of its source
  abbrev pub source_run : ConcludedRun S H E T F run → S
  source_run concluded = concluded.source

  -- the end that every poll gives: the one that it gave, or that of a cancellation
  abbrev pub end_given : ConcludedRun S H E T F run → Option (Cause E)
  end_given concluded = given_cause concluded.closing

  -- the same, or `Finished` from a last value on: with `on_completion` the cause that its action was told
  abbrev pub cause_told : ConcludedRun S H E T F run → Option (Cause E)
  cause_told concluded = told_cause concluded.last_given concluded.closing
