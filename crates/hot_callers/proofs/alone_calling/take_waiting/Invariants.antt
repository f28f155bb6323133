use Rattle.std.proofs.Common.{◌≡◌, ◌+◌, length}
use Rattle.hot_callers.specs.Alone.{OnlyTakes}
use Rattle.hot_callers.specs.Exchanges.{TakesEach}
use Rattle.hot_callers.proofs.alone_calling.take_waiting.Given as goal

abbrev pub invariant-loop-turn : goal.invariant-loop-turn
invariant-loop-turn g l = record {
  has : TakesEach l.initial.received.items l.initial.subscription l.received.items l.subscription;
  all : length l.received.items ≡ length l.initial.received.items + l._turn;
  only : OnlyTakes l.initial.subscription l.subscription;
}
