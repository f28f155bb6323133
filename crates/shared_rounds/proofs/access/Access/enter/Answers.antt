use Rattle.std.proofs.Common.{Some, sym, ap, subst, ◌∙◌}
use Rattle.shared_lane.specs.Sequencers.{next}
use Rattle.std.specs.Arc.{arc_value}
use Rattle.shared_rounds.specs.Entering.{Found}
use Rattle.shared_rounds.specs.Names.{KnowsTrack}
use Rattle.shared_rounds.specs.Reach.{Reach, name_in, party_of, reach_of}
use Rattle.shared_rounds.specs.Rounds.{Below}
use Rattle.shared_rounds.specs.Waking.{AreOutWhereHeld, HoldsItsFlow}
use Rattle.shared_rounds.proofs.Staying.{left_out}
use Rattle.shared_rounds.proofs.Boxes.{found_by}
use Rattle.shared_rounds.proofs.Numbers.{same_name, rounds_below}
use Rattle.shared_rounds.proofs.access.Access.enter.Goals as goal

pub returns-clause-taken : goal.returns-clause-taken
returns-clause-taken g c =
    let after = reach_of (λ s. s) c.take-guarded.new.self in
    rw c.state.view_is (ap (reach_of (λ s. s)) c.take-guarded.ensures.taken ∙ ap (λ (r : Reach). record r { held = Some c.take-guarded.result.state; seen = after.seen }) c.self.view_is)

pub invariant_of-self : goal.invariant_of-self
invariant_of-self g c =
    let taken = ap (reach_of (λ s. s)) c.take-guarded.ensures.taken in
    let saw = c.take-guarded.ensures.saw in (
      subst (λ known. KnowsTrack known (arc_value c.self.inside.track)) (sym (ap (λ (r : Reach). r.flow) taken)) c.self.invariant.0,
      c.self.invariant.1,
      c.self.invariant.2,
      subst (λ (r : Reach). AreOutWhereHeld r.held) (sym taken) (left_out (λ s. s) saw.made c.take-guarded.new.self.log.seen c.take-guarded.result.state saw.after),
      c.self.invariant.4,
      subst (λ (r : Reach). HoldsItsFlow r.flow r.held) (sym taken) (ap (name_in (λ s. s)) saw.made_is ∙ ap Some (sym (same_name (λ s. s) saw.made c.take-guarded.new.self.log.seen c.take-guarded.result.state saw.after))),
    )

pub returns-clause-found : goal.returns-clause-found
returns-clause-found g c =
    let after = reach_of (λ s. s) c.take-guarded.new.self in
    rw c.state.view_is (subst (λ (r : Reach). Found (party_of r) c.take-guarded.result.state after.seen) c.self.view_is (found_by (λ s. s) c.self.inside.lock c.take-guarded.new.self c.take-guarded.result.state c.take-guarded.ensures.saw))

pub returns-clause-named : goal.returns-clause-named
returns-clause-named g c =
    let saw = c.take-guarded.ensures.saw in
    rw c.state.view_is (sym (ap (λ (r : Reach). r.flow) c.self.view_is) ∙ ap (name_in (λ s. s)) saw.made_is ∙ ap Some (sym (same_name (λ s. s) saw.made c.take-guarded.new.self.log.seen c.take-guarded.result.state saw.after)))

pub returns-clause-below : goal.returns-clause-below
returns-clause-below g c =
    let saw = c.take-guarded.ensures.saw in
    rw c.state.view_is (subst (Below (next c.take-guarded.result.state.sequencer)) (sym saw.own_is ∙ ap (λ (r : Reach). r.rounds) c.self.view_is)
    (rounds_below (λ s. s) saw.made c.take-guarded.new.self.log.seen c.take-guarded.result.state c.self.inside.lock.pass saw.after))
