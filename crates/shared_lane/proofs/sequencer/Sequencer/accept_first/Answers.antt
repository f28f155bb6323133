use Rattle.std.proofs.Common.{◌≡◌, Some, subst, sym}
use Rattle.shared_lane.specs.Caches.{emitter_at}
use Rattle.shared_lane.specs.Views.{SequencerSeen}
use Rattle.shared_lane.proofs.Outstanding.{just_accepted}
use Rattle.shared_lane.proofs.sequencer.Sequencer.accept_first.Goals as goal

pub stand-requires-clause-accepted : goal.stand-requires-clause-accepted
stand-requires-clause-accepted g c = let m = c.take_first-first.new.self in let first = c.take_first-first.result in
    subst (λ (z : SequencerSeen). emitter_at z.view.shape.first z.view.seen c.accept-number.result ≡ Some first.emitter) (sym c.accept-number.ensures.accepted)
    (just_accepted m.view.shape.first c.accept-number.result first.emitter first.word m.view.seen c.accept-number.ensures.number)
