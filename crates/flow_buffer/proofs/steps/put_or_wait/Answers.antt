use Rattle.std.proofs.Common.{refl, false}
use Rattle.crossbeam_channel.specs.Claims.{view as knows}
use Rattle.flow_buffer.proofs.Fills.{open_still, open_own, open_sent, joins, joins_late, raised}
use Rattle.flow_buffer.proofs.steps.put_or_wait.Goals as goal

pub returns-then-offer-clause-unended : goal.returns-then-offer-clause-unended
returns-then-offer-clause-unended g c = open_sent false (knows c.args.pass.now) (knows c.offer.new.pass) c.args.value c.requires.unended (rw c.if-offer.true at c.offer.ensures.sent)

pub returns-then-offer-clause-fill : goal.returns-then-offer-clause-fill
returns-then-offer-clause-fill g c = joins (knows c.args.pass.now) (knows c.offer.new.pass) c.args.value (rw c.if-offer.true at c.offer.ensures.sent)

pub send-requires-clause-unended : goal.send-requires-clause-unended
send-requires-clause-unended g c =
    let full = rw c.if-offer.false at c.offer.ensures.sent in
    open_own false (knows c.offer.new.pass) (open_still false (knows c.args.pass.now) (knows c.offer.new.pass) c.requires.unended full.0)

pub returns-clause-unended : goal.returns-clause-unended
returns-clause-unended g c =
    let full = rw c.if-offer.false at c.offer.ensures.sent in
    open_sent false (knows c.offer.new.pass) (knows c.send.new.pass) c.args.value (open_still false (knows c.args.pass.now) (knows c.offer.new.pass) c.requires.unended full.0) c.send.ensures.sent

pub returns-clause-fill : goal.returns-clause-fill
returns-clause-fill g c =
    let full = rw c.if-offer.false at c.offer.ensures.sent in
    joins_late (knows c.args.pass.now) (knows c.offer.new.pass) (knows c.send.new.pass) c.args.value full.0 c.send.ensures.sent

pub returns-then-offer-clause-level : goal.returns-then-offer-clause-level
returns-then-offer-clause-level g c = raised (knows c.args.pass.now) (knows c.args.pass.now) (knows c.offer.new.pass) c.args.value refl (rw c.if-offer.true at c.offer.ensures.sent)

pub returns-clause-level : goal.returns-clause-level
returns-clause-level g c =
    let full = rw c.if-offer.false at c.offer.ensures.sent in
    raised (knows c.args.pass.now) (knows c.offer.new.pass) (knows c.send.new.pass) c.args.value full.0 c.send.ensures.sent
