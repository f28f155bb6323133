use Rattle.std.proofs.Common.{◌≡◌, ◌⊎◌, [], subst}
use Rattle.shared_rounds.specs.Names.{SharedSeen}
use Rattle.shared_rounds.specs.Rounds.{HasClosed}
use Rattle.shared_flow.specs.Parties.{Subscribed, words_received}
use Rattle.shared_flow.specs.Received.{KnowsReceived}
use Rattle.shared_flow.proofs.Ending.{is_complete}
use Rattle.shared_flow.proofs.Making.{was_ended}
use Rattle.shared_flow.proofs.subscription.Subscription.end.Goals as goal

pub returns-clause-ended : goal.returns-clause-ended
returns-clause-ended g c =
    let found : SharedSeen = c.enter-inside.result.shared.value in
    let closed = subst (λ (s : SharedSeen). HasClosed s c.self.inside.reader c.cancel-met.result c.cancel-met.new.self) c.deref_mut.ensures.value c.cancel-met.ensures.closed in
    rw (← c.self.view_is) (was_ended c.self.inside.number c.self.inside.access c.enter-inside.new.self c.leave.new.self found c.cancel-met.new.self c.self.inside.reader c.cancel-met.result
    c.enter-inside.ensures.taken c.enter-inside.ensures.found c.enter-inside.ensures.named c.leave.ensures.left closed)

-- by the round that ended it
pub returns-clause-last : goal.returns-clause-last
returns-clause-last g c =
    let knows = subst (λ (s : Subscribed _). KnowsReceived s.reader) c.self.view_is c.self.invariant.4 in
    let first = subst (λ (s : Subscribed _). (s.rest ≡ []) ⊎ (words_received s.reader ≡ [])) c.self.view_is c.self.invariant.5 in
    is_complete g.T.Word.read_as c.args.self c.cancel-met.result _ knows first (returns-clause-ended g c)

pub returns-clause-has : goal.returns-clause-has
returns-clause-has g c = (returns-clause-last g c).0
