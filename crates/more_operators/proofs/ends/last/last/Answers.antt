use Rattle.more_operators.specs.AnswersLaws.{finds_last}
use Rattle.more_operators.proofs.ends.last.last.Goals as goal

pub returns-clause-answers : goal.returns-clause-answers
returns-clause-answers g c t = rw (c.new.ensures.1) (finds_last _ t.0 t.1)
