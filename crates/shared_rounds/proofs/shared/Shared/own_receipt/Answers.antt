use Rattle.std.proofs.Common.{IfSome, subst}
use Rattle.shared_lane.specs.Places.{IsAccepted}
use Rattle.shared_rounds.proofs.shared.Shared.own_receipt.Goals as goal

pub receipt-requires : goal.receipt-requires
receipt-requires c = subst (λ n. IfSome n (λ k. IsAccepted c.args.self.now.sequencer c.args.emitter k)) c.in_ok-number.was (c.requires c.if-not-is_own.false)
