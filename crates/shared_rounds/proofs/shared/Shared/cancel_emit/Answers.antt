use Rattle.std.proofs.Common.{rules, ◌≡◌, ◌⊎◌, false, Some, IfSome, IfNone, refl, sym, ap, subst, ◌∙◌, inl}
use Rattle.flow_terms.specs.declared.answers.Withdrawn.TheVariants as withdrawn
use Rattle.shared_lane.specs.Places.{IsAccepted}
use Rattle.shared_rounds.specs.Names.{FlowName, SharedSeen}
use Rattle.shared_rounds.specs.Rounds.{IsNotAfter, IsReceiptAfter, Makes, withdraw_round}
use Rattle.shared_rounds.proofs.Doing.{withdrawn_frees, withdrawn_makes, left_receipt}
use Rattle.shared_rounds.proofs.Receipts.{left_accepted}
use Rattle.shared_rounds.proofs.shared.Shared.cancel_emit.Goals as goal

pub own_receipt-receipt-requires : goal.own_receipt-receipt-requires
own_receipt-receipt-requires c = λ own.
    let t = c.give_ticket_up-withdrawn.new.self.sequencer in
    subst (λ n. IfSome n (λ k. IsAccepted t c.args.emitter k)) (sym c.number_left.ensures)
    (left_accepted c.scan.new.self t c.args.ticket.0 c.args.emitter c.give_ticket_up-withdrawn.result c.give_ticket_up-withdrawn.ensures.withdrawn (c.is_of-is_own.ensures.own own))

pub returns-clause-does : goal.returns-clause-does
returns-clause-does c =
    let lane = c.args.self.now.name.lane in
    let q = c.scan.new.self in
    let answer = c.give_ticket_up-withdrawn.result in
    let receipt = c.own_receipt-receipt.result in
    let it = withdraw_round c.args.ticket c.args.emitter c.args.last answer receipt in
    let is_own = c.is_of-is_own.result in
    let none = subst (λ n. IfNone receipt (IfSome n (λ k. (is_own ≡ false) ⊎ IsNotAfter c.args.last k))) c.number_left.ensures c.own_receipt-receipt.ensures.none in
    let makes = withdrawn_makes lane q c.give_ticket_up-withdrawn.new.self.sequencer c.args.ticket c.args.emitter c.args.last answer receipt is_own c.give_ticket_up-withdrawn.ensures.withdrawn c.is_of-is_own.ensures.other none in
    let made = subst (λ (s : SharedSeen). Makes lane q it s.sequencer) (sym c.own_receipt-receipt.ensures.same) makes in
    let t = c.own_receipt-receipt.new.self.sequencer in (
      search rules,
      search rules,
      (
        q,
        c.scan.result,
        search rules,
        search rules,
        search rules,
        (t, made, (t, inl refl, (refl, refl, refl, λ _. refl, λ _. refl)), withdrawn_frees c.args.ticket c.args.emitter c.args.last answer receipt t c.own_receipt-receipt.new.self),
      ),
    )

pub returns-clause-receipt : goal.returns-clause-receipt
returns-clause-receipt c =
    let answer = c.give_ticket_up-withdrawn.result in
    let receipt = c.own_receipt-receipt.result in
    let lane = c.give_ticket_up-withdrawn.new.self.name.lane in
    let found = subst (λ n. IfSome receipt (λ r. (n ≡ Some r.number) × IsReceiptAfter lane c.args.emitter c.args.last r)) c.number_left.ensures c.own_receipt-receipt.ensures.receipt in
    subst (λ (name : FlowName). IfSome receipt (λ r. (answer ≡ withdrawn.Left r.number) × IsReceiptAfter name.lane c.args.emitter c.args.last r))
    (c.give_ticket_up-withdrawn.ensures.same.0 ∙ ap (λ (s : SharedSeen). s.name) c.self.view_is) (left_receipt lane c.args.emitter c.args.last answer receipt found)
