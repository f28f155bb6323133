use Rattle.futures.specs.Task.{Keeps}
use Rattle.hot_sources.specs.Waiting.{TookSome}
use Rattle.hot_sources.proofs.ringing.take_all.Given as goal

abbrev pub invariant-values : goal.invariant-values
invariant-values g l = record {
  took : TookSome g.S.Run.polled l.initial.chain l.initial.out.items l.out.items l.chain;
  kept : Keeps l.initial.cx l.cx;
}
