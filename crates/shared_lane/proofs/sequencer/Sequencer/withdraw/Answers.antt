use Rattle.std.proofs.Common.{arith, sym, subst}
use Rattle.std.proofs.lemmas.Grind.{common_steps}
use Rattle.shared_lane.specs.Views.{SequencerSeen, sequencer_of}
use Rattle.shared_lane.specs.Kept.{IsSound}
use Rattle.shared_lane.proofs.Soundness.{sound_withdrawn}
use Rattle.shared_lane.proofs.sequencer.Sequencer.withdraw.Goals as goal

pub invariant_of-self : goal.invariant_of-self
invariant_of-self g c = let s = c.self.inside in let inv = c.self.invariant in let q : SequencerSeen = sequencer_of s.seat s.policy s.capacity s.cache.capacity s.emits s.cache.items s.waiting.items s.standing.items s.ticket s.subscription in record {
  sound = subst (λ l. IsSound (sequencer_of s.seat s.policy s.capacity s.cache.capacity s.emits s.cache.items l s.standing.items s.ticket s.subscription)) (sym c.remove.ensures.items) (sound_withdrawn c.args.index q inv.sound);
  holds_no_slot = inv.holds_no_slot;
  tail_is = inv.tail_is;
  cell_is = inv.cell_is;
  end_within = inv.end_within;
  shut_from = inv.shut_from;
  room_to_wait = grind (arith, common_steps);
  room_to_stand = inv.room_to_stand;
}
