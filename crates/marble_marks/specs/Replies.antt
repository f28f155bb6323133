-- What an answer says, as far as a picture shows it.
use Rattle.std.specs.Prelude.{true}
use Rattle.script_commands.specs.declared.answer.Answer.{Answer}
use Rattle.script_commands.specs.declared.answer.Answer.TheVariants as answers
use Rattle.marble_marks.specs.declared.reply.Reply.{Reply}
use Rattle.marble_marks.specs.declared.reply.Reply.TheVariants as replies

-- WHAT AN ANSWER SAYS
abbrev pub reply_of : Answer → Reply
reply_of answers.Ok = replies.Ok
reply_of (answers.Truth true) = replies.True
reply_of answers.Accepted = replies.Accepted
reply_of answers.Dropped = replies.Dropped
reply_of answers.Full = replies.Full
reply_of answers.Waiting = replies.Waiting
reply_of answers.Done = replies.Done
reply_of answers.Removed = replies.Removed
reply_of answers.Left = replies.Left
reply_of answers.Gone = replies.Gone
reply_of answers.Pending = replies.Pending
reply_of (answers.Value value) = replies.Value value
reply_of answers.On = replies.On
reply_of (answers.Failed fault) = replies.Failed
reply_of (answers.BadCommand line reason) = replies.Bad reason
reply_of answer = replies.Other
