use Rattle.std.proofs.Common.{◌≡◌, ◌<◌, Some, arith, sym, subst}
use Rattle.std.proofs.lemmas.Grind.{common_steps}
use Rattle.shared_lane.specs.Steps.{next_number}
use Rattle.shared_lane.specs.Caches.{emitter_at}
use Rattle.shared_lane.specs.Ordering.{StandsLast}
use Rattle.shared_lane.specs.Sequencers.{HasFreeTicket}
use Rattle.shared_lane.specs.Views.{SequencerSeen, sequencer_of}
use Rattle.shared_lane.specs.Kept.{IsSound}
use Rattle.shared_lane.proofs.Soundness.{sound_stood}
use Rattle.shared_lane.proofs.sequencer.Sequencer.stand.Goals as goal

pub invariant_of-self : goal.invariant_of-self
invariant_of-self g c = let s = c.self.inside in let inv = c.self.invariant in let q : SequencerSeen = sequencer_of s.seat s.policy s.capacity s.cache.capacity s.emits s.cache.items s.waiting.items s.standing.items s.ticket s.subscription in
    let asked : HasFreeTicket q × (emitter_at q.view.shape.first q.view.seen c.args.number ≡ Some c.args.emitter) × StandsLast q c.args.ticket c.args.number × (c.args.number < next_number q.view) =
    subst (λ (z : SequencerSeen). HasFreeTicket z × (emitter_at z.view.shape.first z.view.seen c.args.number ≡ Some c.args.emitter) × StandsLast z c.args.ticket c.args.number × (c.args.number < next_number z.view)) (sym c.self.view_is)
    (c.requires.few, c.requires.accepted, c.requires.last.0, c.requires.last.1) in record {
      sound = subst (λ l. IsSound (sequencer_of s.seat s.policy s.capacity s.cache.capacity s.emits s.cache.items s.waiting.items l s.ticket s.subscription)) (sym c.push_reserved.ensures.items) (sound_stood q (record { ticket = c.args.ticket; emitter = c.args.emitter; number = c.args.number }) inv.sound asked.0 asked.1 asked.2 asked.3);
      holds_no_slot = inv.holds_no_slot;
      tail_is = inv.tail_is;
      cell_is = inv.cell_is;
      end_within = inv.end_within;
      shut_from = inv.shut_from;
      room_to_wait = inv.room_to_wait;
      room_to_stand = grind (arith, common_steps);
    }
