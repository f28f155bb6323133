use Rattle.std.proofs.Common.{rules}
use Rattle.state_callers.proofs.value_calling.lines_awaited.Goals as goal

pub returns-in-Value-clause-given : goal.returns-in-Value-clause-given
returns-in-Value-clause-given g c = let awaits = c.in-Value.ensures in let counted = awaits.2 in (awaits.0, awaits.1, search (rules, counted))
