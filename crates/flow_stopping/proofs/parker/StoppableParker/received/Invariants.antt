use Rattle.std.proofs.Common.{◌≡◌}
use Rattle.shared_flow.specs.Parties.{IsSamePrelude, received}
use Rattle.flow_stopping.specs.Waits.{LookedOn}
use Rattle.flow_stopping.proofs.parker.StoppableParker.received.Given as goal

abbrev pub invariant-loop : goal.invariant-loop
invariant-loop g l = record {
  has : received g.T.Word.read_as l.subscription ≡ received g.T.Word.read_as l.fn.subscription;
  prelude : IsSamePrelude l.fn.subscription l.subscription;
  looked : LookedOn l.fn.subscription l.subscription;
}
