use Rattle.script_commands.specs.Sourced.{run_may, run_begins}
use Rattle.script_run.proofs.Buffering.{take_follows}
use Rattle.script_run.proofs.buffer.ScriptBuffer.take.Goals as goal

pub returns : goal.returns
returns c = λ buffering shown. take_follows run_may run_begins buffering _ _ _ _ _ shown c.poll_next.ensures.takes
