use Rattle.std.proofs.Common.{inr}
use Rattle.sharing_upstream.proofs.upstream.Upstream.share.Goals as goal

pub returns-then-not-still_waits-clause-shares : goal.returns-then-not-still_waits-clause-shares
returns-then-not-still_waits-clause-shares g c =
    let asks = rw c.if-not-still_waits.true at c.still_waits.ensures.asks in
    let takes = rw c.still_waits.ensures.kept at c.take_events.ensures.takes in
    inr (_, asks, takes)
