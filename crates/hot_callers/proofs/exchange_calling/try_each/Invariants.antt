use Rattle.std.proofs.Common.{take}
use Rattle.hot_callers.specs.Exchanges.{TriesEach}
use Rattle.hot_callers.proofs.exchange_calling.try_each.Given as goal

abbrev pub invariant-loop-value : goal.invariant-loop-value
invariant-loop-value g l = TriesEach (take l.value-index l.values) l.initial.emitter l.emitter
