use Rattle.script_commands.specs.Sourced.{run_may, run_begins}
use Rattle.script_run.proofs.Buffering.{fill_follows}
use Rattle.script_run.proofs.buffer.ScriptBuffer.fill.Goals as goal

pub returns : goal.returns
returns c = λ buffering shown. fill_follows run_may run_begins buffering c.args.self.now.run.source c.poll_fill.new.self.source _ _ _ shown c.poll_fill.ensures.fills
