use Rattle.std.proofs.Common.{arith, ap}
use Rattle.shared_lane.specs.Steps.{next_number}
use Rattle.shared_lane.proofs.Lists.{within}
use Rattle.shared_lane.specs.Views.{SequencerSeen}
use Rattle.shared_lane.proofs.sequencer.Sequencer.receipt.Goals as goal

pub overflow_add-number : goal.overflow_add-number
overflow_add-number g c = let a = c.requires.1 in let inside = within c.args.self.now.view.seen a.0 _ a.3 in let number = a.2 in let here = ap (λ (q : SequencerSeen). next_number q.view) c.self.view_is in
    let low = c.self.invariant.sound.numbers in record { fits = omega arith }
