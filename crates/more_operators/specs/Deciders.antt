-- What contracts name of a run that is asked for one answer. A caller needs to know no more of it.
use Rattle.std.specs.Prelude.{Option, Result}
use Rattle.cold_flow.specs.declared.cause.Cause.{Cause}
use Rattle.more_operators.specs.declared.ends.deciding.Deciding.{Deciding}

module _ {R D U T E : Type 0} where
  abbrev pub decided_run : Deciding R D U T E → R
  decided_run deciding = deciding.run

  abbrev pub decider_of : Deciding R D U T E → D
  decider_of deciding = deciding.decider

  -- what was answered, once it was
  abbrev pub answered : Deciding R D U T E → Option (Result U (Cause E))
  answered deciding = deciding.answer
