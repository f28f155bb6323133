use Rattle.more_operators.specs.AnswersLaws.{reduces}
use Rattle.more_operators.proofs.ends.reduce.reduce.Goals as goal

pub returns-clause-answers : goal.returns-clause-answers
returns-clause-answers g c t = rw (c.new.ensures.1) (reduces g.G.Apply.gives _ t.0 t.1)
