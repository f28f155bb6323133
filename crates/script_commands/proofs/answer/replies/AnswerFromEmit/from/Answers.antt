use Rattle.std.proofs.Common.{rules}
use Rattle.script_commands.proofs.answer.replies.AnswerFromEmit.from.Goals as goal

-- A wrong body makes this false: so answered, it is refused at once.
pub returns-in-Gone : goal.returns-in-Gone
returns-in-Gone c = search rules
