use Rattle.std.proofs.Common.{◌≡◌, ◌+◌, ◌-◌, ◌≤◌, ◌++◌, take, map, vec_len, vec_capacity}
use Rattle.shared_rounds.proofs.shared.Shared.read_cache.Given as goal

abbrev pub invariant-loop-index : goal.invariant-loop-index
invariant-loop-index g l =
    record {
      added : l.out.items ≡ l.fn.out.items ++ map g.T.Word.read_as (take l.index l.self.sequencer.cache);
      room : vec_len l.out + (l.count - l.index) ≤ vec_capacity l.out;
    }
