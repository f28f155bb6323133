use Rattle.std.proofs.Common.{take}
use Rattle.shared_core.specs.Kept.{parameters_of}
use Rattle.list_callers.specs.Taking.{Took}
use Rattle.list_callers.proofs.taking_caller.offer_and_take.Given as goal

-- the execution so far offered the values so far, and gave what was taken
abbrev pub invariant-loop-value : goal.invariant-loop-value
invariant-loop-value g l = Took (parameters_of l.fn.config) l.subscription.0 l.flow (take l.value-index l.values) l.taken.items
