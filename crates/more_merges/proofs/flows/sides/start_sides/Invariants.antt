use Rattle.std.proofs.Common.{◌≡◌, ◌≤◌, take, length, vec_len}
use Rattle.std.specs.Prelude.{vec_capacity}
use Rattle.std.specs.List.{AllZip}
use Rattle.more_merges.specs.Joins.{Began}
use Rattle.more_merges.proofs.flows.sides.start_sides.Given as goal

abbrev pub invariant-starts : goal.invariant-starts
invariant-starts g l = record {
  many : vec_len l.sides ≡ l.flow-index;
  room : length l.flows ≤ vec_capacity l.sides;
  began : AllZip (Began g.F.Flow.may g.F.Flow.polls g.F.Flow.prompt g.F.Running.Run.may g.F.Running.Run.polls g.F.Running.Run.prompt)
      (take l.flow-index l.flows) l.sides.items;
}
