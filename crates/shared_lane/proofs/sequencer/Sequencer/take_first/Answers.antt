use Rattle.std.proofs.Common.{◌≡◌, Some, slice_get, arith, rules, sym, subst}
use Rattle.std.proofs.lemmas.Grind.{common_steps}
use Rattle.shared_lane.specs.Views.{SequencerSeen, sequencer_of}
use Rattle.shared_lane.specs.Kept.{IsSound}
use Rattle.shared_lane.proofs.Ordering.{left_stands_last}
use Rattle.shared_lane.specs.Ordering.{StandsLast}
use Rattle.shared_lane.specs.Steps.{next_number}
use Rattle.shared_lane.proofs.Soundness.{sound_left}
use Rattle.shared_lane.proofs.sequencer.Sequencer.take_first.Goals as goal

pub invariant_of-self : goal.invariant_of-self
invariant_of-self g c = let s = c.self.inside in let inv = c.self.invariant in let q : SequencerSeen = sequencer_of s.seat s.policy s.capacity s.cache.capacity s.emits s.cache.items s.waiting.items s.standing.items s.ticket s.subscription in record {
  sound = subst (λ l. IsSound (sequencer_of s.seat s.policy s.capacity s.cache.capacity s.emits s.cache.items l s.standing.items s.ticket s.subscription)) (sym c.remove.ensures.items) (sound_left q inv.sound);
  holds_no_slot = inv.holds_no_slot;
  tail_is = inv.tail_is;
  cell_is = inv.cell_is;
  end_within = inv.end_within;
  shut_from = inv.shut_from;
  room_to_wait = grind (arith, common_steps);
  room_to_stand = inv.room_to_stand;
}

pub returns-clause-last : goal.returns-clause-last
returns-clause-last g c = let s = c.self.inside in
    let first : slice_get s.waiting.items 0 ≡ Some c.remove.result = search rules in
    subst (λ l. StandsLast (sequencer_of s.seat s.policy s.capacity s.cache.capacity s.emits s.cache.items l s.standing.items s.ticket s.subscription) (c.remove.result).ticket (next_number s.seat.me.0)) (sym c.remove.ensures.items)
    (left_stands_last s.standing.items s.waiting.items s.ticket (next_number s.seat.me.0) c.self.invariant.sound.in_order c.remove.result first)
