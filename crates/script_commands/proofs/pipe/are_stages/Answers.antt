use Rattle.std.proofs.Common.{rules}
use Rattle.script_commands.proofs.pipe.are_stages.Goals as goal

-- A wrong body makes this false: so answered, it is refused at once.
pub returns-then-is_none : goal.returns-then-is_none
returns-then-is_none c = search rules
