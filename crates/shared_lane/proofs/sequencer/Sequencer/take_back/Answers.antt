use Rattle.std.proofs.Common.{arith, ap, sym, subst, ◌∙◌}
use Rattle.std.proofs.lemmas.Option.{get_or_from_slice_get}
use Rattle.std.proofs.lemmas.Grind.{common_steps}
use Rattle.shared_lane.specs.declared.tickets.Standing.{Standing}
use Rattle.shared_lane.specs.Caches.{emitter_at}
use Rattle.shared_lane.specs.Views.{SequencerSeen, sequencer_of}
use Rattle.shared_lane.specs.Kept.{IsSound}
use Rattle.shared_lane.proofs.Outstanding.{stand_at, accepted_at}
use Rattle.shared_lane.proofs.Soundness.{sound_given_back}
use Rattle.shared_lane.proofs.sequencer.Sequencer.take_back.Goals as goal

pub invariant_of-self : goal.invariant_of-self
invariant_of-self g c = let s = c.self.inside in let inv = c.self.invariant in let q : SequencerSeen = sequencer_of s.seat s.policy s.capacity s.cache.capacity s.emits s.cache.items s.waiting.items s.standing.items s.ticket s.subscription in record {
  sound = subst (λ l. IsSound (sequencer_of s.seat s.policy s.capacity s.cache.capacity s.emits s.cache.items s.waiting.items l s.ticket s.subscription)) (sym c.remove.ensures.items) (sound_given_back c.args.index q inv.sound);
  holds_no_slot = inv.holds_no_slot;
  tail_is = inv.tail_is;
  cell_is = inv.cell_is;
  end_within = inv.end_within;
  shut_from = inv.shut_from;
  room_to_wait = inv.room_to_wait;
  room_to_stand = grind (arith, common_steps);
}

pub returns-clause-number : goal.returns-clause-number
returns-clause-number g c = rw (← c.self.view_is) (λ s at. let q = c.self.inside in let v = q.seat.me.0 in let r = c.remove.result in
    let is = c.remove.ensures.value ∙ get_or_from_slice_get q.standing.items c.args.index s r at in let number = ap (λ (z : Standing). z.number) is in
    (number, accepted_at v.shape.first r.number s.emitter v.seen (ap (emitter_at v.shape.first v.seen) number ∙ stand_at v.shape.first v.seen q.standing.items c.args.index s c.self.invariant.sound.stands at)))
