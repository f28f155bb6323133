use Rattle.std.proofs.Common.{refl, true}
use Rattle.crossbeam_channel.specs.Claims.{view as knows}
use Rattle.flow_buffer.proofs.Fills.{open_still, open_sent, open_missed, joins, missed, raised, missed_level}
use Rattle.flow_buffer.proofs.steps.put_or_drop.Goals as goal

pub returns-then-offer-clause-unended : goal.returns-then-offer-clause-unended
returns-then-offer-clause-unended g c = open_sent true (knows c.args.pass.now) (knows c.offer.new.pass) c.args.value c.requires.unended (rw c.if-offer.true at c.offer.ensures.sent)

pub returns-then-offer-clause-fill : goal.returns-then-offer-clause-fill
returns-then-offer-clause-fill g c = joins (knows c.args.pass.now) (knows c.offer.new.pass) c.args.value (rw c.if-offer.true at c.offer.ensures.sent)

pub drop_latest-requires-clause-unended : goal.drop_latest-requires-clause-unended
drop_latest-requires-clause-unended g c =
    let full = rw c.if-offer.false at c.offer.ensures.sent in
    open_still true (knows c.args.pass.now) (knows c.offer.new.pass) c.requires.unended full.0

pub returns-clause-unended : goal.returns-clause-unended
returns-clause-unended g c = open_missed (knows c.offer.new.pass) (knows c.drop_latest.new.pass) c.args.value c.drop_latest.ensures.dropped

pub returns-clause-fill : goal.returns-clause-fill
returns-clause-fill g c =
    let full = rw c.if-offer.false at c.offer.ensures.sent in
    missed _ (knows c.args.pass.now) (knows c.offer.new.pass) (knows c.drop_latest.new.pass) c.args.value full.0 full.1 c.drop_latest.ensures.dropped

pub returns-then-offer-clause-level : goal.returns-then-offer-clause-level
returns-then-offer-clause-level g c = raised (knows c.args.pass.now) (knows c.args.pass.now) (knows c.offer.new.pass) c.args.value refl (rw c.if-offer.true at c.offer.ensures.sent)

pub returns-clause-level : goal.returns-clause-level
returns-clause-level g c =
    let full = rw c.if-offer.false at c.offer.ensures.sent in
    (full.2, missed_level (knows c.args.pass.now) (knows c.offer.new.pass) (knows c.drop_latest.new.pass) c.args.value full.0 c.drop_latest.ensures.dropped)
