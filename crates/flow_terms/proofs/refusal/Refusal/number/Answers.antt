use Rattle.std.proofs.Common.{rules}
use Rattle.flow_terms.proofs.refusal.Refusal.number.Goals as goal

-- A wrong body makes this false: so answered, it is refused at once.
pub returns-in-TooManyWorkers : goal.returns-in-TooManyWorkers
returns-in-TooManyWorkers c = search rules
