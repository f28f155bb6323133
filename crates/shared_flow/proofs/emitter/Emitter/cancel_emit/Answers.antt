use Rattle.shared_rounds.specs.Names.{SharedSeen}
use Rattle.std.proofs.Common.{rules, ◌≡◌, None, ◌+◌, ◌++◌, ◌∷◌, [], Some, IfSome, sym, ap, subst, ◌∙◌}
use Rattle.flow_terms.specs.declared.answers.Withdrawn.TheVariants as withdrawn
use Rattle.shared_rounds.specs.declared.round.Round.{Round}
use Rattle.shared_rounds.specs.declared.round.Round.TheVariants as round
use Rattle.std.proofs.lemmas.Option.{same_Some}
use Rattle.shared_rounds.specs.Entering.{IsCalled, Made}
use Rattle.shared_rounds.specs.Reach.{Reach, party_of}
use Rattle.shared_rounds.specs.Rounds.{IsReceiptAfter, after_number, Comes, withdraw_round}
use Rattle.shared_flow.specs.Parties.{Emitting, WasAnswered}
use Rattle.shared_flow.proofs.Rising.{answered_on, answered_last}
use Rattle.shared_rounds.proofs.Doing.{is_called, withdrawn_asleep}
use Rattle.shared_flow.proofs.Making.{made}
use Rattle.shared_flow.proofs.Waiting.{unless_left}
use Rattle.shared_flow.proofs.Emitted.{grown, has_let_go}
use Rattle.shared_flow.proofs.OwnPart.{own_grown, own_withdraw}
use Rattle.shared_flow.specs.Emitted.{IsOwn}
use Rattle.shared_flow.proofs.emitter.Emitter.cancel_emit.Goals as goal

pub invariant_of-self : goal.invariant_of-self
invariant_of-self g c =
    let made : Round = c.withdrawn_without_receipt-round.result in
    let grew = ap (λ (r : Reach). r.rounds) c.leave.ensures.left.after ∙ ap (λ (r : Reach). r.rounds ++ made ∷ []) c.enter-inside.ensures.taken in
    (ap (λ (r : Reach). r.held) c.leave.ensures.left.after, subst (WasAnswered c.self.inside.last) (sym grew) (answered_on c.self.inside.last c.self.inside.access.rounds made c.self.invariant.1), own_grown c.self.inside.id c.self.inside.access.rounds c.leave.new.self.rounds made grew c.self.invariant.2 (subst (IsOwn c.self.inside.id) (sym c.withdrawn_without_receipt-round.ensures) (own_withdraw c.self.inside.id c.in-Some.ticket c.self.inside.id c.self.inside.last c.cancel_emit-withdrawn.result.withdrawn)))

pub invariant_of-self-2 : goal.invariant_of-self-2
invariant_of-self-2 g c =
    let made : Round = round.Withdraw c.in-Some.ticket c.cancel_emit-withdrawn.result.withdrawn in
    let grew = ap (λ (r : Reach). r.rounds) c.leave-2.ensures.left.after ∙ ap (λ (r : Reach). r.rounds ++ made ∷ []) c.enter-inside.ensures.taken in
    let done = subst (λ receipt. IfSome receipt (λ r. (c.cancel_emit-withdrawn.result.withdrawn ≡ withdrawn.Left r.number) × IsReceiptAfter c.deref_mut.result.now.name.lane c.self.inside.id c.self.inside.last r)) c.in-Some-receipt.is c.cancel_emit-withdrawn.ensures.receipt in
    let answered = ap (λ e. after_number (round.Withdraw c.in-Some.ticket e)) done.0 ∙ ap (λ n. n + 1) (sym c.number.ensures) in
    (ap (λ (r : Reach). r.held) c.leave-2.ensures.left.after, subst (WasAnswered (Some c.number.result)) (sym grew) (answered_last c.number.result c.self.inside.access.rounds made answered), own_grown c.self.inside.id c.self.inside.access.rounds c.leave-2.new.self.rounds made grew c.self.invariant.2 tt)

pub leave-requires : goal.leave-requires
leave-requires g c =
    let found : SharedSeen = c.enter-inside.result.shared.value in
    let before : SharedSeen = c.deref_mut.result.now in
    let new : SharedSeen = c.cancel_emit-withdrawn.new.self in
    let ticket = c.in-Some.ticket in
    let id = c.self.inside.id in
    let answer = c.cancel_emit-withdrawn.result.withdrawn in
    let came = subst (λ r. Comes before (withdraw_round ticket id c.self.inside.last answer r) new) c.in_default-receipt.is c.cancel_emit-withdrawn.ensures.does in
    let called = is_called c.enter-inside.new.self found before new c.enter-inside.result.before (withdraw_round ticket id c.self.inside.last answer None) (ap (λ (r : Reach). r.held) c.enter-inside.ensures.taken)
    c.enter-inside.ensures.before c.deref_mut.ensures.value came (withdrawn_asleep before new ticket id c.self.inside.last answer None c.cancel_emit-withdrawn.ensures.asleep) in
    record { round = subst (λ r. IsCalled c.enter-inside.new.self c.enter-inside.result.before r new) (sym c.withdrawn_without_receipt-round.ensures) called }

pub leave-requires-2 : goal.leave-requires-2
leave-requires-2 g c =
    let found : SharedSeen = c.enter-inside.result.shared.value in
    let before : SharedSeen = c.deref_mut.result.now in
    let new : SharedSeen = c.cancel_emit-withdrawn.new.self in
    let ticket = c.in-Some.ticket in
    let id = c.self.inside.id in
    let given_some = subst (λ r. Comes before (withdraw_round ticket id c.self.inside.last c.cancel_emit-withdrawn.result.withdrawn r) new) c.in-Some-receipt.is c.cancel_emit-withdrawn.ensures.does in
    let done = subst (λ receipt. IfSome receipt (λ r. (c.cancel_emit-withdrawn.result.withdrawn ≡ withdrawn.Left r.number) × IsReceiptAfter before.name.lane id c.self.inside.last r)) c.in-Some-receipt.is c.cancel_emit-withdrawn.ensures.receipt in
    let came = subst (λ x. Comes before (withdraw_round ticket id c.self.inside.last x (Some c.in-Some-receipt.receipt)) new) done.0 given_some in
    let called = is_called c.enter-inside.new.self found before new c.enter-inside.result.before (round.Withdraw ticket (withdrawn.Left c.in-Some-receipt.receipt.number)) (ap (λ (r : Reach). r.held) c.enter-inside.ensures.taken)
    c.enter-inside.ensures.before c.deref_mut.ensures.value came c.cancel_emit-withdrawn.ensures.asleep in
    record { round = subst (λ x. IsCalled c.enter-inside.new.self c.enter-inside.result.before (round.Withdraw ticket x) new) (sym done.0) called }

pub returns-in_default-receipt-clause-removed : goal.returns-in_default-receipt-clause-removed
returns-in_default-receipt-clause-removed g c = λ ticket is.
    let same : c.in-Some.ticket ≡ ticket = same_Some _ _ (sym c.in-Some.is ∙ (ap (λ (e : Emitting). e.ticket) c.self.view_is ∙ is)) in
    rw (← same) (unless_left c.unless_left.result (
      c.cancel_emit-withdrawn.result.withdrawn,
      c.unless_left.ensures,
      search rules,
      rw (← c.self.view_is, ← c.withdrawn_without_receipt-round.ensures)
          (made c.withdrawn_without_receipt-round.result c.self.inside.access c.enter-inside.new.self c.leave.new.self c.enter-inside.result.shared.value c.enter-inside.ensures.taken c.enter-inside.ensures.found c.leave.ensures.left),
    ))

pub returns-clause-left : goal.returns-clause-left
returns-clause-left g c =
    let done = subst (λ receipt. IfSome receipt (λ r. (c.cancel_emit-withdrawn.result.withdrawn ≡ withdrawn.Left r.number) × IsReceiptAfter c.deref_mut.result.now.name.lane c.self.inside.id c.self.inside.last r)) c.in-Some-receipt.is c.cancel_emit-withdrawn.ensures.receipt in (
      c.in-Some.ticket,
      search rules,
      search rules,
      rw (← c.self.view_is) (subst (λ w. Made (round.Withdraw c.in-Some.ticket w) (party_of c.self.inside.access) (party_of c.leave-2.new.self)) done.0
          (made (round.Withdraw c.in-Some.ticket c.cancel_emit-withdrawn.result.withdrawn) c.self.inside.access c.enter-inside.new.self c.leave-2.new.self c.enter-inside.result.shared.value c.enter-inside.ensures.taken c.enter-inside.ensures.found c.leave-2.ensures.left)),
    )

pub returns-in_default-receipt-clause-has : goal.returns-in_default-receipt-clause-has
returns-in_default-receipt-clause-has g c =
    let made : Round = c.withdrawn_without_receipt-round.result in
    let grew = ap (λ (r : Reach). r.rounds) c.leave.ensures.left.after ∙ ap (λ (r : Reach). r.rounds ++ made ∷ []) c.enter-inside.ensures.taken in
    has_let_go c.args.self.now c.self.inside.access.rounds c.leave.new.self.rounds made c.in-Some.ticket c.self.inside.id c.self.inside.last c.cancel_emit-withdrawn.result.withdrawn c.unless_left.result
    (ap (λ (e : Emitting). e.party.rounds) c.self.view_is) grew c.withdrawn_without_receipt-round.ensures c.unless_left.ensures

pub returns-clause-has : goal.returns-clause-has
returns-clause-has g c =
    let made : Round = round.Withdraw c.in-Some.ticket c.cancel_emit-withdrawn.result.withdrawn in
    let grew = ap (λ (r : Reach). r.rounds) c.leave-2.ensures.left.after ∙ ap (λ (r : Reach). r.rounds ++ made ∷ []) c.enter-inside.ensures.taken in
    let done = subst (λ receipt. IfSome receipt (λ r. (c.cancel_emit-withdrawn.result.withdrawn ≡ withdrawn.Left r.number) × IsReceiptAfter c.deref_mut.result.now.name.lane c.self.inside.id c.self.inside.last r)) c.in-Some-receipt.is c.cancel_emit-withdrawn.ensures.receipt in
    grown c.args.self.now c.self.inside.access.rounds c.leave-2.new.self.rounds made (round.Withdraw c.in-Some.ticket (withdrawn.Left c.in-Some-receipt.receipt.number))
    (ap (λ (e : Emitting). e.party.rounds) c.self.view_is) grew (ap (round.Withdraw c.in-Some.ticket) done.0)
