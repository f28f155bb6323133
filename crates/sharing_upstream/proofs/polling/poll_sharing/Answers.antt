use Rattle.std.proofs.Common.{rules, refl, sym, ap, ◌∙◌, ◌≡◌, is_some}
use Rattle.sharing_upstream.specs.Polls.{Commands}
use Rattle.sharing_upstream.proofs.Sharings.{acts_not, acts_so, not_some, shares_on, shares_off}
use Rattle.sharing_upstream.proofs.polling.poll_sharing.Goals as goal
use Rattle.sharing_upstream.proofs.polling.poll_sharing.Goals.{then-decision, else-decision}

pub returns-then-is_some-clause-acts : goal.returns-then-is_some-clause-acts
returns-then-is_some-clause-acts g c =
    let ended = ap is_some (sym c.fault.ensures) ∙ sym c.is_some.ensures ∙ c.if-is_some.true in
    let steps = g.D.Destination.steps (g.D.Destination.kept c.args.destination.now) in
    let same : c.over.result.count ≡ c.count-count.result = cc (c.over.ensures, c.of-decision.ensures.count) in (
      g.D.Destination.seen c.count-count.new.self,
      rw same c.count-count.ensures.counts,
      acts_not steps _ _ _ _ _ _ _ _ _ _ _ ended refl refl,
    )

pub returns-clause-acts : goal.returns-clause-acts
returns-clause-acts g c =
    let going = ap is_some (sym c.fault.ensures) ∙ sym c.is_some.ensures ∙ c.if-is_some.false in
    let kept = c.obey.ensures.kept ∙ c.count-count.ensures.kept in
    let steps = g.D.Destination.steps (g.D.Destination.kept c.args.destination.now) in
    let commanded = Commands c.args.strategy.now c.args.now c.of-decision.result.polled.count in (
      g.D.Destination.seen c.count-count.new.self,
      rw c.of-decision.ensures.count c.count-count.ensures.counts,
      acts_so steps _ _ _ _ _ commanded _ _ _ _ _ going c.of-decision.result.command
          (λ history shows. rw c.of-decision.ensures.count (c.of-decision.ensures.command history shows))
          c.obey.new.self.course (g.D.Destination.seen c.obey.new.destination) (rw c.count-count.ensures.kept at c.in_ok-obey.ensures.obeys)
          (elim c.if-decision.branch [
            | then-decision w ↦ rw (w.upstream-is, w.destination-is) (shares_on steps _ _ _ _ _ _ _ _ w.if-decision.true (rw kept at w.share.ensures.shares))
            | else-decision w ↦ rw (w.upstream-is, w.destination-is) (shares_off steps _ _ _ _ _ _ _ _ w.if-decision.false refl refl)
          ]),
    )

pub returns-clause-shows : goal.returns-clause-shows
returns-clause-shows g c history shows = rw c.of-decision.ensures.count (c.of-decision.ensures.shows history shows)

pub returns-clause-answers : goal.returns-clause-answers
returns-clause-answers g c history shows =
    let none = not_some _ (ap is_some (sym c.fault.ensures) ∙ sym c.is_some.ensures ∙ c.if-is_some.false) in
    rw none (rw (← c.of-decision.ensures.count) at (c.of-decision.ensures.polled history shows))

-- A wrong body makes these false: so answered, it is refused at once.
pub returns-then-is_some-clause-answers : goal.returns-then-is_some-clause-answers
returns-then-is_some-clause-answers g c = search rules

pub returns-in_err-obey-clause-err : goal.returns-in_err-obey-clause-err
returns-in_err-obey-clause-err g c = search rules
