use Rattle.std.proofs.Common.{◌≡◌, None}
use Rattle.example_news.proofs.send.Given as goal

-- nothing is in flight after an `emit`
abbrev pub invariant-loop-number : goal.invariant-loop-number
invariant-loop-number g l = l.emitter.ticket ≡ None
