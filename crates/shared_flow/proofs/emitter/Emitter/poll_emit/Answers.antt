use Rattle.shared_rounds.specs.Names.{SharedSeen}
use Rattle.std.proofs.Common.{rules, ◌≡◌, ◌+◌, ◌++◌, ◌∷◌, [], Some, IfSome, sym, ap, subst, ◌∙◌, None}
use Rattle.flow_terms.specs.declared.answers.Emit.TheVariants as emit
use Rattle.shared_rounds.specs.declared.round.Round.{Round}
use Rattle.shared_rounds.specs.declared.round.Round.TheVariants as round
use Rattle.shared_rounds.specs.Entering.{IsCalled, Made}
use Rattle.shared_rounds.specs.Reach.{Reach, party_of}
use Rattle.shared_rounds.specs.Rounds.{IsReceiptAfter, after_number, Comes, poll_round}
use Rattle.shared_rounds.specs.Waking.{SleepOn}
use Rattle.shared_flow.specs.Parties.{Emitting, WasAnswered}
use Rattle.shared_flow.proofs.Rising.{answered_on, answered_last}
use Rattle.shared_rounds.proofs.Doing.{is_called, fell_asleep_for}
use Rattle.shared_flow.proofs.Making.{made}
use Rattle.shared_flow.proofs.Emitted.{grown, has_pending}
use Rattle.shared_flow.proofs.OwnPart.{own_grown, own_poll, own_asked}
use Rattle.shared_flow.specs.Emitted.{IsOwn}
use Rattle.shared_flow.proofs.emitter.Emitter.poll_emit.Goals as goal

pub invariant_of-self : goal.invariant_of-self
invariant_of-self g c =
    let made : Round = c.polled_without_receipt-round.result in
    let grew = ap (λ (r : Reach). r.rounds) c.leave.ensures.left.after ∙ ap (λ (r : Reach). r.rounds ++ made ∷ []) c.enter-inside.ensures.taken in
    (ap (λ (r : Reach). r.held) c.leave.ensures.left.after, subst (WasAnswered c.self.inside.last) (sym grew) (answered_on c.self.inside.last c.self.inside.access.rounds made c.self.invariant.1), own_grown c.self.inside.id c.self.inside.access.rounds c.leave.new.self.rounds made grew c.self.invariant.2 (subst (IsOwn c.self.inside.id) (sym c.polled_without_receipt-round.ensures) (own_poll c.self.inside.id c.in-Some.ticket c.self.inside.id c.self.inside.last c.poll_emit-emit.result.emit)))

pub returns-in_default-receipt-clause-pending : goal.returns-in_default-receipt-clause-pending
returns-in_default-receipt-clause-pending g c = (
  c.in-Some.ticket,
  c.poll_emit-emit.result.emit,
  search rules,
  search rules,
  rw (← c.self.view_is, ← c.polled_without_receipt-round.ensures)
      (made c.polled_without_receipt-round.result c.self.inside.access c.enter-inside.new.self c.leave.new.self c.enter-inside.result.shared.value c.enter-inside.ensures.taken c.enter-inside.ensures.found c.leave.ensures.left),
)

pub returns-clause-ready : goal.returns-clause-ready
returns-clause-ready g c =
    let done = subst (λ receipt. IfSome receipt (λ r. (c.poll_emit-emit.result.emit ≡ emit.Done r.number) × IsReceiptAfter c.deref_mut.result.now.name.lane c.self.inside.id c.self.inside.last r)) c.in-Some-receipt.is c.poll_emit-emit.ensures.receipt in (
      c.in-Some.ticket,
      search rules,
      search rules,
      rw (← c.self.view_is) (subst (λ e. Made (round.Poll c.in-Some.ticket e) (party_of c.self.inside.access) (party_of c.leave-2.new.self)) done.0
          (made (round.Poll c.in-Some.ticket c.poll_emit-emit.result.emit) c.self.inside.access c.enter-inside.new.self c.leave-2.new.self c.enter-inside.result.shared.value c.enter-inside.ensures.taken c.enter-inside.ensures.found c.leave-2.ensures.left)),
    )

pub invariant_of-self-2 : goal.invariant_of-self-2
invariant_of-self-2 g c =
    let made : Round = round.Poll c.in-Some.ticket c.poll_emit-emit.result.emit in
    let grew = ap (λ (r : Reach). r.rounds) c.leave-2.ensures.left.after ∙ ap (λ (r : Reach). r.rounds ++ made ∷ []) c.enter-inside.ensures.taken in
    let done = subst (λ receipt. IfSome receipt (λ r. (c.poll_emit-emit.result.emit ≡ emit.Done r.number) × IsReceiptAfter c.deref_mut.result.now.name.lane c.self.inside.id c.self.inside.last r)) c.in-Some-receipt.is c.poll_emit-emit.ensures.receipt in
    let answered = ap (λ e. after_number (round.Poll c.in-Some.ticket e)) done.0 ∙ ap (λ n. n + 1) (sym c.number.ensures) in
    (ap (λ (r : Reach). r.held) c.leave-2.ensures.left.after, subst (WasAnswered (Some c.number.result)) (sym grew) (answered_last c.number.result c.self.inside.access.rounds made answered), own_grown c.self.inside.id c.self.inside.access.rounds c.leave-2.new.self.rounds made grew c.self.invariant.2 (own_asked c.self.inside.id c.in-Some.ticket c.poll_emit-emit.result.emit))

pub leave-requires : goal.leave-requires
leave-requires g c =
    let found : SharedSeen = c.enter-inside.result.shared.value in
    let before : SharedSeen = c.deref_mut.result.now in
    let polled : SharedSeen = c.deref_mut-in_default-receipt.result.now in
    let last : SharedSeen = c.sleep_emission.new.self in
    let ticket = c.in-Some.ticket in
    let id = c.self.inside.id in
    let answer = c.poll_emit-emit.result.emit in
    let did = subst (λ r. Comes before (poll_round ticket id c.self.inside.last answer r) c.poll_emit-emit.new.self) c.in_default-receipt.is c.poll_emit-emit.ensures.does in
    let is = sym c.deref_mut-in_default-receipt.ensures.value in
    let lain = fell_asleep_for before polled last ticket id c.self.inside.last answer (subst (Comes before (poll_round ticket id c.self.inside.last answer None)) is did) (subst (SleepOn before) is c.poll_emit-emit.ensures.asleep)
    c.sleep_emission.ensures.same c.sleep_emission.ensures.waits c.sleep_emission.ensures.others in
    let called = is_called c.enter-inside.new.self found before last c.enter-inside.result.before (poll_round ticket id c.self.inside.last answer None) (ap (λ (r : Reach). r.held) c.enter-inside.ensures.taken)
    c.enter-inside.ensures.before c.deref_mut.ensures.value lain.0 lain.1 in
    record { round = subst (λ r. IsCalled c.enter-inside.new.self c.enter-inside.result.before r last) (sym c.polled_without_receipt-round.ensures) called }

pub leave-requires-2 : goal.leave-requires-2
leave-requires-2 g c =
    let found : SharedSeen = c.enter-inside.result.shared.value in
    let before : SharedSeen = c.deref_mut.result.now in
    let new : SharedSeen = c.poll_emit-emit.new.self in
    let ticket = c.in-Some.ticket in
    let id = c.self.inside.id in
    let given_some = subst (λ r. Comes before (poll_round ticket id c.self.inside.last c.poll_emit-emit.result.emit r) new) c.in-Some-receipt.is c.poll_emit-emit.ensures.does in
    let done = subst (λ receipt. IfSome receipt (λ r. (c.poll_emit-emit.result.emit ≡ emit.Done r.number) × IsReceiptAfter before.name.lane id c.self.inside.last r)) c.in-Some-receipt.is c.poll_emit-emit.ensures.receipt in
    let came = subst (λ x. Comes before (poll_round ticket id c.self.inside.last x (Some c.in-Some-receipt.receipt)) new) done.0 given_some in
    let called = is_called c.enter-inside.new.self found before new c.enter-inside.result.before (round.Poll ticket (emit.Done c.in-Some-receipt.receipt.number)) (ap (λ (r : Reach). r.held) c.enter-inside.ensures.taken)
    c.enter-inside.ensures.before c.deref_mut.ensures.value came c.poll_emit-emit.ensures.asleep in
    record { round = subst (λ x. IsCalled c.enter-inside.new.self c.enter-inside.result.before (round.Poll ticket x) new) (sym done.0) called }

pub returns-in_default-receipt-clause-has : goal.returns-in_default-receipt-clause-has
returns-in_default-receipt-clause-has g c =
    let made : Round = c.polled_without_receipt-round.result in
    let grew = ap (λ (r : Reach). r.rounds) c.leave.ensures.left.after ∙ ap (λ (r : Reach). r.rounds ++ made ∷ []) c.enter-inside.ensures.taken in
    has_pending c.args.self.now c.self.inside.access.rounds c.leave.new.self.rounds made c.in-Some.ticket c.self.inside.id c.self.inside.last c.poll_emit-emit.result.emit
    (ap (λ (e : Emitting). e.party.rounds) c.self.view_is) grew c.polled_without_receipt-round.ensures

pub returns-clause-has : goal.returns-clause-has
returns-clause-has g c =
    let made : Round = round.Poll c.in-Some.ticket c.poll_emit-emit.result.emit in
    let grew = ap (λ (r : Reach). r.rounds) c.leave-2.ensures.left.after ∙ ap (λ (r : Reach). r.rounds ++ made ∷ []) c.enter-inside.ensures.taken in
    let done = subst (λ receipt. IfSome receipt (λ r. (c.poll_emit-emit.result.emit ≡ emit.Done r.number) × IsReceiptAfter c.deref_mut.result.now.name.lane c.self.inside.id c.self.inside.last r)) c.in-Some-receipt.is c.poll_emit-emit.ensures.receipt in
    grown c.args.self.now c.self.inside.access.rounds c.leave-2.new.self.rounds made (round.Poll c.in-Some.ticket (emit.Done c.in-Some-receipt.receipt.number))
    (ap (λ (e : Emitting). e.party.rounds) c.self.view_is) grew (ap (round.Poll c.in-Some.ticket) done.0)
