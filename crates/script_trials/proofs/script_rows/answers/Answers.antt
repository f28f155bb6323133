use Rattle.flow_script.proofs.Either.{on_each}
use Rattle.script_run.proofs.Whole.{whole_text}
use Rattle.script_trials.proofs.script_rows.answers.Goals as goal

pub returns : goal.returns
returns g c = on_each c.args.engine
    (λ runs. whole_text _ _ _ c.args.script.now c.run_script.new.reader.now c.new-text.result.items c.run_script.new.writer.items c.new-text.ensures.items runs)
    (λ runs. whole_text _ _ _ c.args.script.now c.run_script.new.reader.now c.new-text.result.items c.run_script.new.writer.items c.new-text.ensures.items runs)
    c.in_ok-run_script.ensures.runs
