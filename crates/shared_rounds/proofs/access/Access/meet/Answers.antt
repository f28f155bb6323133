use Rattle.std.proofs.Common.{sym, ap, subst, ◌∙◌}
use Rattle.std.specs.Arc.{arc_value}
use Rattle.round_lock.specs.History.{own_of}
use Rattle.shared_rounds.specs.Names.{KnowsTrack}
use Rattle.shared_rounds.specs.Reach.{Reach, Rounds, reach_of, rounds_in, seen_in}
use Rattle.shared_rounds.specs.Waking.{AreOutWhereHeld, HoldsItsFlow}
use Rattle.shared_rounds.proofs.Boxes.{same_own}
use Rattle.shared_rounds.proofs.access.Access.meet.Goals as goal

pub returns-clause-met : goal.returns-clause-met
returns-clause-met c =
    let seen = rounds_in (λ s. s) c.self.inside.lock.log.seen in
    ap (reach_of (λ s. s)) c.meet.ensures.met
    ∙ ap (λ (r : Reach). record r { seen = seen }) c.other.view_is
    ∙ ap (λ (l : Rounds). record c.args.other.now { seen = l }) (ap (λ (r : Reach). r.seen) c.self.view_is)

pub returns-clause-part : goal.returns-clause-part
returns-clause-part c =
    let other = c.other.inside.lock in
    let seen = c.self.inside.lock.log.seen in
    sym (ap (λ (r : Reach). r.rounds) c.other.view_is)
    ∙ c.meet.ensures.part
    ∙ same_own (λ s. s) other.pass seen
    ∙ ap (λ (l : Rounds). own_of other.pass l) (ap (λ (r : Reach). r.seen) c.self.view_is)
    ∙ ap (λ pass. own_of pass c.args.self.now.seen) (ap (λ (r : Reach). r.pass) c.other.view_is)

pub meet-requires : goal.meet-requires
meet-requires c = record {
  held = λ none. c.requires.held (sym (ap (λ (r : Reach). r.held) c.self.view_is) ∙ ap (seen_in (λ s. s)) none);
  place = ap (λ (r : Reach). r.lock) c.other.view_is ∙ c.requires.lock ∙ sym (ap (λ (r : Reach). r.lock) c.self.view_is);
}

pub invariant_of-other : goal.invariant_of-other
invariant_of-other c =
    let met = ap (reach_of (λ s. s)) c.meet.ensures.met in (
      subst (λ known. KnowsTrack known (arc_value c.other.inside.track)) (sym (ap (λ (r : Reach). r.flow) met)) c.other.invariant.0,
      c.other.invariant.1,
      c.other.invariant.2,
      subst AreOutWhereHeld (sym (ap (λ (r : Reach). r.held) met)) c.other.invariant.3,
      c.other.invariant.4,
      subst (λ (r : Reach). HoldsItsFlow r.flow r.held) (sym met) c.other.invariant.5,
    )
