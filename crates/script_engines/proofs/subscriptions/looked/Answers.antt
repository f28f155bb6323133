use Rattle.std.proofs.Common.{refl}
use Rattle.script_engines.proofs.subscriptions.looked.Goals as goal

pub returns-in_default-poll_next : goal.returns-in_default-poll_next
returns-in_default-poll_next g c =
    let polled = c.in_default-poll_next.ensures in
    rw c.in-Some.is (c.poll_next.new.self, (polled.round, polled.same, polled.pending.0, polled.pending.1), refl)
