use Rattle.std.proofs.Common.{rules}
use Rattle.bench_figures.proofs.figure.Figure.checked.Goals as goal

-- A wrong body makes these false: so answered, it is refused at once.
pub returns-then-self-wanted-clause-right : goal.returns-then-self-wanted-clause-right
returns-then-self-wanted-clause-right c = search rules

pub returns-else-self-wanted-clause-told : goal.returns-else-self-wanted-clause-told
returns-else-self-wanted-clause-told c = search rules
