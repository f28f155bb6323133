use Rattle.std.proofs.Common.{◌≡◌, ◌+◌, ◌≤◌, length, vec_capacity, vec_len}
use Rattle.hillgauze_c.proofs.parties.reading.leave_room.Given as goal

abbrev pub invariant-loop-place : goal.invariant-loop-place
invariant-loop-place l =
    record {
      capacity : vec_capacity l.block ≡ 64;
      within : vec_len l.block ≤ l.filled;
      filled : vec_len l.block ≡ l._place;
    }
