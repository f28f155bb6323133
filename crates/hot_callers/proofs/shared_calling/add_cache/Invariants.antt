use Rattle.std.proofs.Common.{◌≡◌, ◌++◌, take}
use Rattle.hot_callers.proofs.shared_calling.add_cache.Given as goal

abbrev pub invariant-loop-index : goal.invariant-loop-index
invariant-loop-index l = l.values.items ≡ l.initial.values.items ++ take l.index l.held.kept.shared.sequencer.cache
