use Rattle.std.proofs.Common.{rules}
use Rattle.script_words.proofs.fields.policy_of.Goals as goal

-- A wrong body makes this false: so answered, it is refused at once.
pub returns-then-eq-2 : goal.returns-then-eq-2
returns-then-eq-2 c = search rules
