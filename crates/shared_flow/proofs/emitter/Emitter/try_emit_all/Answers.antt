use Rattle.std.proofs.Common.{◌++◌, ◌∷◌, [], map, refl, sym, ap, subst, ◌∙◌}
use Rattle.shared_rounds.specs.declared.round.Round.{Round}
use Rattle.shared_rounds.specs.declared.round.Round.TheVariants as round
use Rattle.shared_rounds.specs.Names.{SharedSeen}
use Rattle.shared_rounds.specs.Reach.{Party, Reach, party_of}
use Rattle.shared_flow.specs.Parties.{Emitting, WasAnswered}
use Rattle.shared_flow.proofs.Rising.{answered_on}
use Rattle.shared_rounds.proofs.Doing.{is_called}
use Rattle.shared_flow.proofs.Making.{made, round_is}
use Rattle.shared_flow.proofs.Emitted.{grown}
use Rattle.shared_flow.proofs.OwnPart.{own_grown}
use Rattle.shared_flow.proofs.emitter.Emitter.try_emit_all.Goals as goal

pub invariant_of-self : goal.invariant_of-self
invariant_of-self g c =
    let rounds = c.self.inside.access.rounds in
    let tried : Round = round.TryAll c.self.inside.id (map g.T.Word.word c.args.values.now) c.try_emit_all-answer.result in
    let grew = ap (λ (r : Reach). r.rounds) c.leave_block.ensures.left.after ∙ ap (λ (r : Reach). r.rounds ++ tried ∷ []) c.enter-inside.ensures.taken in
    (ap (λ (r : Reach). r.held) c.leave_block.ensures.left.after, subst (WasAnswered c.self.inside.last) (sym grew) (answered_on c.self.inside.last rounds tried c.self.invariant.1), own_grown c.self.inside.id c.self.inside.access.rounds c.leave_block.new.self.rounds tried grew c.self.invariant.2 refl)

pub leave_block-requires : goal.leave_block-requires
leave_block-requires g c =
    let found : SharedSeen = c.enter-inside.result.shared.value in
    let tried = round.TryAll c.self.inside.id (map g.T.Word.word c.args.values.now) c.try_emit_all-answer.result in
    record {
      picked = refl;
      round = is_called c.enter-inside.new.self found c.deref_mut.result.now c.try_emit_all-answer.new.self c.enter-inside.result.before tried (ap (λ (r : Reach). r.held) c.enter-inside.ensures.taken)
          c.enter-inside.ensures.before c.deref_mut.ensures.value c.try_emit_all-answer.ensures.does c.try_emit_all-answer.ensures.asleep;
    }

pub returns-clause-tried : goal.returns-clause-tried
returns-clause-tried g c =
    let tried = round.TryAll c.self.inside.id (map g.T.Word.word c.args.values.now) c.try_emit_all-answer.result in
    let it = made tried c.self.inside.access c.enter-inside.new.self c.leave_block.new.self c.enter-inside.result.shared.value c.enter-inside.ensures.taken c.enter-inside.ensures.found c.leave_block.ensures.left in
    rw (← c.self.view_is) (ap (λ (p : Party). let e : Emitting = record { party = p; id = c.self.inside.id; ticket = c.self.inside.ticket; last = c.self.inside.last } in e) (round_is tried (party_of c.self.inside.access) (party_of c.leave_block.new.self) it), it)

pub returns-clause-has : goal.returns-clause-has
returns-clause-has g c =
    let tried : Round = round.TryAll c.self.inside.id (map g.T.Word.word c.args.values.now) c.try_emit_all-answer.result in
    let grew = ap (λ (r : Reach). r.rounds) c.leave_block.ensures.left.after ∙ ap (λ (r : Reach). r.rounds ++ tried ∷ []) c.enter-inside.ensures.taken in
    grown c.args.self.now c.self.inside.access.rounds c.leave_block.new.self.rounds tried tried (ap (λ (e : Emitting). e.party.rounds) c.self.view_is) grew refl
