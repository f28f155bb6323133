use Rattle.std.proofs.Common.{◌≡◌, ℕ, ◌≤◌, length, take, vec_capacity}
use Rattle.shared_core.specs.Flow.{State, cache}
use Rattle.shared_core.specs.Shown.{Shows}
use Rattle.script_engines.proofs.one_thread.cached.Given as goal

-- the values so far are the front of the cache
abbrev pub invariant-loop-index : goal.invariant-loop-index
invariant-loop-index l = record {
  front : (M : State ℕ) → Shows l.flow M → l.values.items ≡ take l.index (cache M);
  filled : length l.values.items ≡ l.index;
  room : l.count ≤ vec_capacity l.values;
}
