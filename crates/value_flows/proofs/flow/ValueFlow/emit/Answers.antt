use Rattle.std.proofs.Common.{subst}
use Rattle.value_flows.specs.Emitting.{Emits, not_once, once_more}
use Rattle.value_flows.proofs.Trying.{emits_on}
use Rattle.value_flows.proofs.flow.ValueFlow.emit.Goals as goal

pub returns-in-Full : goal.returns-in-Full
returns-in-Full g c =
    let before = c.args.self.now in
    let tried = c.try_emit.new.self in
    let waited = once_more before before tried (not_once before) c.in-Full.ensures.1 in
    let came = subst (λ v. Emits v tried c.wait-emitted.result c.wait-emitted.new.self) c.in-Full.ensures.0 c.wait-emitted.ensures in
    emits_on c.args.value before tried c.wait-emitted.new.self c.wait-emitted.result waited came

pub returns-in-Accepted : goal.returns-in-Accepted
returns-in-Accepted g c = (c.args.self.now, not_once c.args.self.now, c.in-Accepted.ensures)

pub returns-in-Dropped : goal.returns-in-Dropped
returns-in-Dropped g c = (c.in-Dropped.ensures.0, (c.args.self.now, not_once c.args.self.now, c.in-Dropped.ensures.1))

pub returns-in-Stopped : goal.returns-in-Stopped
returns-in-Stopped g c = absurd c.in-Stopped.ensures
