use Rattle.std.proofs.Common.{rules}
use Rattle.script_commands.proofs.actions.IntoInnerApplyU64.apply.Goals as goal

-- A wrong body makes this false: so answered, it is refused at once.
pub returns-in-None : goal.returns-in-None
returns-in-None c = search rules
