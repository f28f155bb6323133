use Rattle.std.proofs.Common.{refl, true}
use Rattle.crossbeam_channel.specs.Claims.{view as knows}
use Rattle.flow_buffer.proofs.Fills.{open_still, open_own, open_sent, open_dropped, joins, joins_last, overwrote, raised, raised_last}
use Rattle.flow_buffer.proofs.steps.put_over_oldest.Goals as goal

pub returns-then-offer-clause-unended : goal.returns-then-offer-clause-unended
returns-then-offer-clause-unended g c = open_sent true (knows c.args.pass.now) (knows c.offer.new.pass) c.args.value c.requires.unended (rw c.if-offer.true at c.offer.ensures.sent)

pub returns-then-offer-clause-fill : goal.returns-then-offer-clause-fill
returns-then-offer-clause-fill g c = joins (knows c.args.pass.now) (knows c.offer.new.pass) c.args.value (rw c.if-offer.true at c.offer.ensures.sent)

pub drop_oldest-dropped-requires-clause-unended : goal.drop_oldest-dropped-requires-clause-unended
drop_oldest-dropped-requires-clause-unended g c =
    let full = rw c.if-offer.false at c.offer.ensures.sent in
    open_still true (knows c.args.pass.now) (knows c.offer.new.pass) c.requires.unended full.0

pub send-requires-clause-unended : goal.send-requires-clause-unended
send-requires-clause-unended g c =
    let full = rw c.if-offer.false at c.offer.ensures.sent in
    open_own true (knows c.drop_oldest-dropped.new.pass) (open_dropped _ (knows c.offer.new.pass) (knows c.drop_oldest-dropped.new.pass) (open_still true (knows c.args.pass.now) (knows c.offer.new.pass) c.requires.unended full.0) c.drop_oldest-dropped.ensures.dropped)

pub returns-then-dropped-clause-unended : goal.returns-then-dropped-clause-unended
returns-then-dropped-clause-unended g c =
    let full = rw c.if-offer.false at c.offer.ensures.sent in
    open_sent true (knows c.drop_oldest-dropped.new.pass) (knows c.send.new.pass) c.args.value (open_dropped _ (knows c.offer.new.pass) (knows c.drop_oldest-dropped.new.pass) (open_still true (knows c.args.pass.now) (knows c.offer.new.pass) c.requires.unended full.0) c.drop_oldest-dropped.ensures.dropped) c.send.ensures.sent

pub returns-then-dropped-clause-fill : goal.returns-then-dropped-clause-fill
returns-then-dropped-clause-fill g c =
    let full = rw c.if-offer.false at c.offer.ensures.sent in
    overwrote _ (knows c.args.pass.now) (knows c.offer.new.pass) (knows c.drop_oldest-dropped.new.pass) (knows c.send.new.pass) c.args.value full.0 full.1 (rw c.if-dropped.true at c.drop_oldest-dropped.ensures.dropped) c.send.ensures.sent

pub returns-else-dropped-clause-unended : goal.returns-else-dropped-clause-unended
returns-else-dropped-clause-unended g c =
    let full = rw c.if-offer.false at c.offer.ensures.sent in
    open_sent true (knows c.drop_oldest-dropped.new.pass) (knows c.send.new.pass) c.args.value (open_dropped _ (knows c.offer.new.pass) (knows c.drop_oldest-dropped.new.pass) (open_still true (knows c.args.pass.now) (knows c.offer.new.pass) c.requires.unended full.0) c.drop_oldest-dropped.ensures.dropped) c.send.ensures.sent

pub returns-else-dropped-clause-fill : goal.returns-else-dropped-clause-fill
returns-else-dropped-clause-fill g c =
    let full = rw c.if-offer.false at c.offer.ensures.sent in
    joins_last (knows c.args.pass.now) (knows c.offer.new.pass) (knows c.drop_oldest-dropped.new.pass) (knows c.send.new.pass) c.args.value full.0 (rw c.if-dropped.false at c.drop_oldest-dropped.ensures.dropped) c.send.ensures.sent

pub returns-then-offer-clause-level : goal.returns-then-offer-clause-level
returns-then-offer-clause-level g c = raised (knows c.args.pass.now) (knows c.args.pass.now) (knows c.offer.new.pass) c.args.value refl (rw c.if-offer.true at c.offer.ensures.sent)

pub returns-then-dropped-clause-level : goal.returns-then-dropped-clause-level
returns-then-dropped-clause-level g c =
    let full = rw c.if-offer.false at c.offer.ensures.sent in
    (full.2, raised_last _ (knows c.args.pass.now) (knows c.offer.new.pass) (knows c.drop_oldest-dropped.new.pass) (knows c.send.new.pass) c.args.value full.0 c.drop_oldest-dropped.ensures.dropped c.send.ensures.sent)

pub returns-else-dropped-clause-level : goal.returns-else-dropped-clause-level
returns-else-dropped-clause-level g c =
    let full = rw c.if-offer.false at c.offer.ensures.sent in
    raised_last _ (knows c.args.pass.now) (knows c.offer.new.pass) (knows c.drop_oldest-dropped.new.pass) (knows c.send.new.pass) c.args.value full.0 c.drop_oldest-dropped.ensures.dropped c.send.ensures.sent
