use Rattle.std.proofs.Common.{rules}
use Rattle.script_commands.proofs.actions.AddingApplyU64.apply.Goals as goal

-- A wrong body makes this false: so answered, it is refused at once.
pub returns : goal.returns
returns c = search rules
