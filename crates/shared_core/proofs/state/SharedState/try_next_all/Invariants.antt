use Rattle.std.proofs.Common.{◌≡◌, ℕ, ◌+◌, ◌-◌, ◌≤◌, vec_capacity, vec_len}
use Rattle.shared_core.proofs.BlockReceipts.{Takes}
use Rattle.shared_core.proofs.state.SharedState.try_next_all.Given as goal

abbrev pub invariant-loop-id : goal.invariant-loop-id
invariant-loop-id g l =
    record {
      asked : l.id ≡ l.fn.id;
      capacity : vec_capacity l.out ≡ vec_capacity l.fn.out;
      counted : vec_len l.out ≡ vec_len l.fn.out + l.taken;
      takes :
          Takes l.fn.id.0 (vec_capacity l.fn.out - vec_len l.fn.out) l.fn.self l.fn.out.items l.taken l.out.items (vec_capacity l.out - vec_len l.out)
          l.self;
    }

abbrev pub decreases-loop-id : goal.decreases-loop-id
decreases-loop-id g l = vec_capacity l.out - vec_len l.out
