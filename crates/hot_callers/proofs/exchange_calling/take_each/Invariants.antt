use Rattle.hot_callers.specs.Exchanges.{TakesEach, TakesInTurn}
use Rattle.hot_callers.proofs.exchange_calling.take_each.Given as goal

abbrev pub invariant-loop : goal.invariant-loop
invariant-loop l = record {
  has : TakesEach l.fn.received.items l.fn.subscription l.received.items l.subscription;
  turns : TakesInTurn l.fn.received.items l.fn.subscription l.received.items l.subscription;
}
