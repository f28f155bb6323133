use Rattle.std.proofs.Common.{take}
use Rattle.hot_callers.specs.StateExchanges.{SetsEach}
use Rattle.hot_callers.proofs.state_exchange_calling.set_each.Given as goal

abbrev pub invariant-loop-value : goal.invariant-loop-value
invariant-loop-value l = SetsEach (take l.value-index l.values) l.initial.seat l.seat
