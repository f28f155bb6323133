use Rattle.std.proofs.Common.{Some, None, ap, subst, ◌∙◌}
use Rattle.cold_flow.specs.Scripted.{played}
use Rattle.cold_flow.specs.Trace.{◌⊑◌}
use Rattle.script_commands.specs.Items.{written}
use Rattle.script_commands.proofs.Playing.{played_steps}
use Rattle.script_commands.proofs.source_flow.SourceFlowFlow.start.Goals as goal

pub returns-in_ok-run-in-Of-clause-gives : goal.returns-in_ok-run-in-Of-clause-gives
returns-in_ok-run-in-Of-clause-gives c = rw c.in-Of.is (λ t came.
    subst (λ whole. t ⊑ whole) (ap played c.in_ok-steps-in-Of.ensures ∙ played_steps (written c.in-Of.items) None) (c.scripted.ensures.exact t (c.in_ok-run-in-Of.ensures.gives t came)))

pub returns-in_ok-run-in-Range-clause-gives : goal.returns-in_ok-run-in-Range-clause-gives
returns-in_ok-run-in-Range-clause-gives c = rw c.in-Range.is (λ t came. c.range.ensures.exact t (c.in_ok-run-in-Range.ensures.gives t came))

pub returns-in_ok-run-in-Fail-clause-gives : goal.returns-in_ok-run-in-Fail-clause-gives
returns-in_ok-run-in-Fail-clause-gives c = rw c.in-Fail.is (λ t came.
    subst (λ whole. t ⊑ whole) (ap played c.in_ok-steps-in-Fail.ensures ∙ played_steps (written c.in-Fail.items) (Some c.in-Fail.fault)) (c.scripted-in-Fail.ensures.exact t (c.in_ok-run-in-Fail.ensures.gives t came)))
