use Rattle.std.proofs.Common.{◌≡◌}
use Rattle.hot_callers.specs.StateExchanges.{AsksOn}
use Rattle.hot_callers.proofs.state_exchange_calling.ask_each.Given as goal

abbrev pub invariant-loop : goal.invariant-loop
invariant-loop l = AsksOn l.fn.collector l.collector × (l.received.items ≡ l.collector.view.collected)
