use Rattle.more_operators.specs.AnswersLaws.{seeks}
use Rattle.more_operators.proofs.ends.any.any.Goals as goal

pub returns-clause-answers : goal.returns-clause-answers
returns-clause-answers g c t = rw (c.new.ensures.1) (seeks g.G.Apply.gives _ t.0 t.1)
