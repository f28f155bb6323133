use Rattle.std.proofs.Common.{rules}
use Rattle.bench_figures.proofs.size.Size.of.Goals as goal

-- A wrong body makes this false: so answered, it is refused at once.
pub returns-in-Small-clause-small : goal.returns-in-Small-clause-small
returns-in-Small-clause-small c = search rules
