-- What contracts name of a run that is being gathered, folded, or asked for its first value, and of one that is given by its steps.
-- A caller needs to know no more of them.
use Rattle.std.specs.Prelude.{List, Option, Result}
use Rattle.cold_flow.specs.declared.builders.steps.EndingRun.{EndingRun}
use Rattle.cold_flow.specs.declared.cause.Cause.{Cause}
use Rattle.cold_flow.specs.declared.ends.collect.Collecting.{Collecting}
use Rattle.cold_flow.specs.declared.ends.collect.Gathering.{Gathering}
use Rattle.cold_flow.specs.declared.ends.first_value.First.{First}
use Rattle.cold_flow.specs.declared.ends.fold.Folding.{Folding}

-- ---- a run that is gathered

module _ {R T E : Type 0} where
  abbrev pub gathered_run : Collecting R T E → R
  gathered_run collecting = collecting.run

  -- its values, until they are handed out
  abbrev pub gathered_values : Collecting R T E → List T
  gathered_values collecting = collecting.values.items

  -- how far it was gathered
  abbrev pub gathered_to : Collecting R T E → Gathering E
  gathered_to collecting = collecting.state

  -- ---- a run that is asked for its first value

  abbrev pub asked_run : First R T E → R
  asked_run first = first.run

  -- what was answered, once it was
  abbrev pub answered : First R T E → Option (Result T (Cause E))
  answered first = first.answer

-- ---- a run that is folded

module _ {R S G T E : Type 0} where
  abbrev pub folded_run : Folding R S G T E → R
  folded_run folding = folding.run

  -- what its values so far made of the first state, and by which function
  abbrev pub state_of : Folding R S G T E → S
  state_of folding = folding.state

  abbrev pub function_of : Folding R S G T E → G
  function_of folding = folding.function

  -- how it ended, once it has
  abbrev pub folded_cause : Folding R S G T E → Option (Cause E)
  folded_cause folding = folding.cause

-- ---- a run that is given by its steps

module _ {S E : Type 0} where
  -- the source that says the steps
  abbrev pub stepped_source : EndingRun S E → S
  stepped_source run = run.source

  -- the end that it gave
  abbrev pub end_given : EndingRun S E → Option (Cause E)
  end_given run = run.ended
