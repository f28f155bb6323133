use Rattle.std.proofs.Common.{rules}
use Rattle.state_callers.proofs.value_calling.line_added.Goals as goal

pub returns : goal.returns
returns g c = let updates = c.update.ensures in let added = updates.3.met in (updates.0, updates.1, updates.2, search (rules, added))
