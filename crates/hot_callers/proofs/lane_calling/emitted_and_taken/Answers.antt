use Rattle.shared_lane.proofs.Accepting.{tried_is_accepted}
use Rattle.hot_callers.proofs.lane_calling.emitted_and_taken.Goals as goal

pub receipt-receipt-requires : goal.receipt-receipt-requires
receipt-receipt-requires g c = let emitted = c.in-Ok-Accepted.ensures in let after = (rw c.in-Ok-Accepted.field-0-is at emitted.has) in
    (emitted.same.0, tried_is_accepted c.args.sequencer.now c.try_emit.new.self (0, c.args.word) c.in-Ok-Accepted.number emitted.same.1 (after.0, after.1, after.2, after.3, after.4, after.5.1))
