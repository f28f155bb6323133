use Rattle.std.proofs.Common.{◌≡◌}
use Rattle.hot_sources.specs.WaitingLaws.{Took}
use Rattle.hot_sources.proofs.waiting.take_ready.Given as goal

abbrev pub invariant-values : goal.invariant-values
invariant-values g l = Took g.S.Run.polled g.S.Run.may l.initial.chain l.initial.out.items l.out.items l.chain l.taken × (l.left ≡ l.initial.left)
