use Rattle.std.proofs.Common.{ℕ, refl, ap, ◌∙◌, ◌<◌, subst}
use Rattle.shared_lane.specs.Views.{SequencerSeen}
use Rattle.shared_lane.proofs.Sameness.{same_moved, same_twice}
use Rattle.shared_lane.proofs.Settling.{settled_none, settled_more, passed_later, passed_loses_none, still_waits}
use Rattle.shared_lane.proofs.sequencer.Sequencer.accept_waiting.Goals as goal

pub accept_first-requires-clause-waits : goal.accept_first-requires-clause-waits
accept_first-requires-clause-waits g c = let before = c.loop-settled.invariant in let count = c.waiting_count-most.ensures.count in
    still_waits c.loop-settled.settled c.args.self.now c.loop-settled.self c.find_room.new.self before.2 c.find_room.ensures.only (subst (λ (z : ℕ). c.loop-settled.settled < z) count c.loop-settled-test.true)

pub loop-settled-preserved : goal.loop-settled-preserved
loop-settled-preserved g c = let before = c.loop-settled.invariant in let found = c.find_room.ensures.only in let one = c.accept_first.ensures in let q = c.args.self.now in let t = c.loop-settled.self in let t' = c.find_room.new.self in let u = c.accept_first.new.self in (
  (one.same.0.0 ∙ ap (λ (z : SequencerSeen). z.table) found.0 ∙ before.0.0, one.same.0.1 ∙ found.1 ∙ before.0.1),
  same_twice q t u before.1 (same_twice t t' u (same_moved t t' found) one.same.0),
  settled_more c.loop-settled.settled q t t' u before.2 found.2 (ap (λ (z : SequencerSeen). z.cache) found.0)
      (ap (λ (z : SequencerSeen). z.waiting) found.0, ap (λ (z : SequencerSeen). z.standing) found.0, ap (λ (z : SequencerSeen). z.ticket) found.0) (ap (λ (z : SequencerSeen). z.subscription) found.0) (found.1 ∙ before.1.1)
      (ap (λ (z : SequencerSeen). z.replay) found.0 ∙ before.1.4) (passed_later t.policy _ t _ t'.view c.find_room.ensures.pass) found.3
      (passed_loses_none t.policy _ t _ t'.view (before.1.2 ∙ c.requires.policy) c.find_room.ensures.pass) one.settled,
)

pub loop-settled-init : goal.loop-settled-init
loop-settled-init g c = (c.requires.lane, (refl, refl, refl, refl, refl, refl), settled_none c.args.self.now)
