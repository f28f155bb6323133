use Rattle.std.proofs.Common.{rules, ◌≡◌, ◌⊎◌, false, Some, IfSome, IfNone, refl, sym, ap, subst, ◌∙◌, inl}
use Rattle.flow_terms.specs.declared.answers.Emit.TheVariants as emit
use Rattle.shared_lane.specs.Places.{IsAccepted}
use Rattle.shared_rounds.specs.Names.{FlowName, SharedSeen}
use Rattle.shared_rounds.specs.Rounds.{IsNotAfter, IsReceiptAfter, Makes, poll_round}
use Rattle.shared_rounds.proofs.Doing.{polled_frees, polled_makes, done_receipt}
use Rattle.shared_rounds.proofs.Receipts.{done_accepted}
use Rattle.shared_rounds.proofs.shared.Shared.poll_emit.Goals as goal

pub own_receipt-receipt-requires : goal.own_receipt-receipt-requires
own_receipt-receipt-requires c = λ own.
    let t = c.poll_ticket-emit.new.self.sequencer in
    subst (λ n. IfSome n (λ k. IsAccepted t c.args.emitter k)) (sym c.number_done.ensures)
    (done_accepted c.scan.new.self t c.args.ticket.0 c.args.emitter c.poll_ticket-emit.result c.poll_ticket-emit.ensures.polled (c.is_of-is_own.ensures.own own))

pub returns-clause-does : goal.returns-clause-does
returns-clause-does c =
    let lane = c.args.self.now.name.lane in
    let q = c.scan.new.self in
    let answer = c.poll_ticket-emit.result in
    let receipt = c.own_receipt-receipt.result in
    let it = poll_round c.args.ticket c.args.emitter c.args.last answer receipt in
    let is_own = c.is_of-is_own.result in
    let none = subst (λ n. IfNone receipt (IfSome n (λ k. (is_own ≡ false) ⊎ IsNotAfter c.args.last k))) c.number_done.ensures c.own_receipt-receipt.ensures.none in
    let makes = polled_makes lane q c.poll_ticket-emit.new.self.sequencer c.args.ticket c.args.emitter c.args.last answer receipt is_own c.poll_ticket-emit.ensures.polled c.is_of-is_own.ensures.other none in
    let made = subst (λ (s : SharedSeen). Makes lane q it s.sequencer) (sym c.own_receipt-receipt.ensures.same) makes in
    let t = c.own_receipt-receipt.new.self.sequencer in (
      search rules,
      search rules,
      (
        q,
        c.scan.result,
        search rules,
        search rules,
        search rules,
        (t, made, (t, inl refl, (refl, refl, refl, λ _. refl, λ _. refl)), polled_frees c.args.ticket c.args.emitter c.args.last answer receipt t c.own_receipt-receipt.new.self),
      ),
    )

pub returns-clause-receipt : goal.returns-clause-receipt
returns-clause-receipt c =
    let answer = c.poll_ticket-emit.result in
    let receipt = c.own_receipt-receipt.result in
    let lane = c.poll_ticket-emit.new.self.name.lane in
    let found = subst (λ n. IfSome receipt (λ r. (n ≡ Some r.number) × IsReceiptAfter lane c.args.emitter c.args.last r)) c.number_done.ensures c.own_receipt-receipt.ensures.receipt in
    subst (λ (name : FlowName). IfSome receipt (λ r. (answer ≡ emit.Done r.number) × IsReceiptAfter name.lane c.args.emitter c.args.last r))
    (c.poll_ticket-emit.ensures.same.0 ∙ ap (λ (s : SharedSeen). s.name) c.self.view_is) (done_receipt lane c.args.emitter c.args.last answer receipt found)
