use Rattle.std.proofs.Common.{rules}
use Rattle.flow_terms.proofs.few.Few.split_first.Goals as goal

-- A wrong body makes this false: so answered, it is refused at once.
pub returns-in-Two-clause-split : goal.returns-in-Two-clause-split
returns-in-Two-clause-split g c = search rules
