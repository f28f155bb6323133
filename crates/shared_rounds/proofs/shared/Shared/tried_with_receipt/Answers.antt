use Rattle.std.proofs.Common.{Ok, ap, subst, ◌∙◌}
use Rattle.shared_rounds.specs.Rounds.{IsLastAccepted}
use Rattle.shared_rounds.specs.Tries.{IfTried}
use Rattle.shared_rounds.proofs.Receipts.{for_last, is_accepted}
use Rattle.shared_rounds.proofs.shared.Shared.tried_with_receipt.Goals as goal

pub receipt-requires : goal.receipt-requires
receipt-requires c =
    let q = c.args.self.now.sequencer in
    is_accepted q c.args.emission c.in-Accepted.number (subst (λ a. IfTried a (IsLastAccepted q c.args.emission)) (c.in_ok-number.was ∙ ap Ok c.in-Accepted.is) c.requires)

pub returns-in-Accepted-clause-receipt : goal.returns-in-Accepted-clause-receipt
returns-in-Accepted-clause-receipt c =
    let s = c.args.self.now in
    for_last s.name.lane s.sequencer c.receipt.result c.args.emission c.in-Accepted.number (subst (λ a. IfTried a (IsLastAccepted s.sequencer c.args.emission)) (c.in_ok-number.was ∙ ap Ok c.in-Accepted.is) c.requires)
    c.receipt.ensures.receipt c.receipt.ensures.seen c.receipt.ensures.number
