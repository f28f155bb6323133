use Rattle.std.proofs.Common.{◌≡◌, []}
use Rattle.shared_flow.specs.Looks.{MissedOn, OnlyNext}
use Rattle.shared_flow.specs.Parties.{IsSamePrelude, received}
use Rattle.shared_flow.proofs.subscription.Subscription.wait_for_next.Given as goal

abbrev pub invariant-loop : goal.invariant-loop
invariant-loop g l = record {
  past : l.self.rest ≡ [];
  has : received g.T.Word.read_as l.self ≡ received g.T.Word.read_as l.fn.self;
  prelude : IsSamePrelude l.fn.self l.self;
  same : l.self.number ≡ l.fn.self.number;
  rounds : OnlyNext l.fn.self.number l.fn.self.party l.self.party;
  missed : MissedOn l.fn.self.reader l.self.reader;
}
