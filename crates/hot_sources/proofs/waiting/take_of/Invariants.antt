use Rattle.std.proofs.Common.{◌≡◌, ◌+◌, ℕ}
use Rattle.hot_sources.specs.WaitingLaws.{Took}
use Rattle.hot_sources.proofs.waiting.take_of.Given as goal

abbrev pub invariant-turns : goal.invariant-turns
invariant-turns g l = (n : ℕ) × Took g.S.Run.polled g.S.Run.may l.initial.chain l.initial.out.items l.out.items l.chain n × (n + l.left ≡ l.initial.count)
