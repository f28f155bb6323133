use Rattle.script_run.proofs.Transfers.{taken_more}
use Rattle.script_run.proofs.input.read_script.Goals as goal

pub returns-in_err-read_once-clause-within : goal.returns-in_err-read_once-clause-within
returns-in_err-read_once-clause-within g c = taken_more _ _ _ c.loop-reader.script.items 1048577 c.loop-reader.invariant.within c.loop-reader.invariant.came c.read_once.ensures.within
