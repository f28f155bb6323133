use Rattle.more_operators.specs.AnswersLaws.{finds_single}
use Rattle.more_operators.proofs.ends.single.single.Goals as goal

pub returns-clause-answers : goal.returns-clause-answers
returns-clause-answers g c t = rw (c.new.ensures.1) (finds_single t)
