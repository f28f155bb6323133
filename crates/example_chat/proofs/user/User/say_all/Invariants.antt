use Rattle.std.proofs.Common.{◌≡◌, None}
use Rattle.example_chat.proofs.user.User.say_all.Given as goal

-- nothing is in flight after a line
abbrev pub invariant-loop-place : goal.invariant-loop-place
invariant-loop-place g l = l.emitter.ticket ≡ None
