use Rattle.std.proofs.Common.{[]}
use Rattle.hot_callers.specs.SharedCalls.{HasTaken, IsSameSubscription}
use Rattle.hot_callers.proofs.shared_calling.received.Given as goal

abbrev pub invariant-loop : goal.invariant-loop
invariant-loop g l = IsSameSubscription l.initial.subscription l.subscription × HasTaken l.initial.subscription [] l.subscription
