use Rattle.std.proofs.Common.{◌≡◌, None}
use Rattle.example_chat.proofs.user.User.say.Given as goal

abbrev pub invariant-loop : goal.invariant-loop
invariant-loop g l = l.emitter.ticket ≡ None
