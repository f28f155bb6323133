use Rattle.std.proofs.Common.{◌≡◌, None}
use Rattle.source_callers.proofs.combining_calling.sell_each.Given as goal

-- nothing is in flight after an `emit`
abbrev pub invariant-loop-number : goal.invariant-loop-number
invariant-loop-number g l = l.orders.ticket ≡ None
