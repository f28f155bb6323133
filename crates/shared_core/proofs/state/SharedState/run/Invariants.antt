use Rattle.std.proofs.Common.{◌≤◌, ◌-◌, ◌+◌, length, take, vec_capacity, vec_len}
use Rattle.shared_core.specs.Runs.{Runs}
use Rattle.shared_core.proofs.state.SharedState.run.Given as goal

abbrev pub invariant-loop-call : goal.invariant-loop-call
invariant-loop-call g l =
    record {
      ran : Runs (take l.call-index l.calls) l.fn.self l.fn.out.items l.out.items l.self;
      room : vec_len l.out + (length l.calls - l.call-index) ≤ vec_capacity l.out;
    }
