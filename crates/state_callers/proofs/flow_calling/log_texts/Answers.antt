use Rattle.state_callers.proofs.flow_calling.log_texts.Goals as goal

pub loop-init : goal.loop-init
loop-init g c = λ is. is

pub loop-preserved : goal.loop-preserved
loop-preserved g c = λ is. c.log_text.ensures.logged (c.loop.invariant is)

pub returns-in_err-log_text-clause-logged : goal.returns-in_err-log_text-clause-logged
returns-in_err-log_text-clause-logged g c = λ is. c.log_text.ensures.logged (c.loop.invariant is)
