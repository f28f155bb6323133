use Rattle.more_operators.specs.AnswersLaws.{counts}
use Rattle.more_operators.proofs.ends.count.count.Goals as goal

pub returns-clause-answers : goal.returns-clause-answers
returns-clause-answers g c t = rw (c.new.ensures.1) (counts _ t.0 t.1)
