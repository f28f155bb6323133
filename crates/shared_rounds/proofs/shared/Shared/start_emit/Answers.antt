use Rattle.std.proofs.Common.{subst}
use Rattle.shared_rounds.specs.declared.round.Round.TheVariants as round
use Rattle.shared_rounds.specs.Rounds.{RaisedFor, AcceptsFor}
use Rattle.shared_rounds.proofs.Doing.{comes_again, watched_frees, watched_rests}
use Rattle.shared_rounds.proofs.Receipts.{begun_last, begun_later}
use Rattle.shared_rounds.proofs.shared.Shared.start_emit.Goals as goal

pub returns-clause-does : goal.returns-clause-does
returns-clause-does c =
    let s = c.begun-begun.new.self in
    let t = c.watch.new.self in
    let begun = c.begun-begun.result in
    let watched = subst (λ k. AcceptsFor k s.sequencer t.sequencer) c.begun_ticket.ensures c.watch.ensures.watched in
    let raised = subst (λ k. RaisedFor k s.sequencer t.raised) c.begun_ticket.ensures c.watch.ensures.raised in
    comes_again c.args.self.now s t (round.Start c.args.emission begun) c.begun-begun.ensures.same.0 c.begun-begun.ensures.same.1 c.begun-begun.ensures.made
    c.watch.ensures.same.0 c.watch.ensures.same.1 (watched_rests begun s.sequencer t.sequencer watched) (watched_frees c.args.emission begun s.sequencer t watched raised)

pub returns-clause-last : goal.returns-clause-last
returns-clause-last c =
    let old = c.args.self.now in
    let s = c.begun-begun.new.self in
    let t = c.watch.new.self in
    begun_last old.name.lane old.sequencer s.sequencer c.args.emission t.sequencer c.begun-begun.result c.begun-begun.ensures.same.1.1 c.begun-begun.ensures.made
    (subst (λ k. AcceptsFor k s.sequencer t.sequencer) c.begun_ticket.ensures c.watch.ensures.watched)

pub returns-clause-later : goal.returns-clause-later
returns-clause-later c =
    let old = c.args.self.now in
    begun_later old.name.lane old.sequencer c.begun-begun.new.self.sequencer c.args.emission c.begun-begun.result c.begun-begun.ensures.made
