use Rattle.std.proofs.Common.{◌≡◌, ◌<◌, []}
use Rattle.shared_flow.specs.Looks.{MissedOn, MissedSome, OnlyLooked}
use Rattle.shared_flow.specs.Parties.{received}
use Rattle.shared_flow.proofs.subscription.Subscription.next_soon.Given as goal

abbrev pub invariant-loop-turn : goal.invariant-loop-turn
invariant-loop-turn g l = record {
  past : l.fn.self.rest ≡ [];
  has : received g.T.Word.read_as l.self ≡ received g.T.Word.read_as l.fn.self;
  looked : OnlyLooked l.fn.self l.self;
  missed : MissedOn l.fn.self.reader l.self.reader;
  some : 0 < l._turn → MissedSome l.fn.self.reader l.self.reader;
}
