use Rattle.std.proofs.Common.{[]}
use Rattle.futures.specs.Task.{Keeps}
use Rattle.cold_flow.specs.Poll.{Within}
use Rattle.cold_flow.specs.Polled.{Gave}
use Rattle.hot_sources.proofs.ringing.wait.Given as goal

abbrev pub invariant-turns : goal.invariant-turns
invariant-turns g l = record {
  gave : Gave g.S.Run.polled l.initial.chain [] l.chain;
  within : Within (g.S.Run.may l.initial.chain) (g.S.Run.may l.chain);
  kept : Keeps l.initial.cx l.cx;
}
