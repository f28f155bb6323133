use Rattle.std.proofs.Common.{◌≡◌, [], ◌∷◌, ◌++◌, Option, Result, Ok, Err, inl, sym, ap, subst, ◌∙◌}
use Rattle.std.proofs.lemmas.Result.{err_from_is_err_and}
use Rattle.flow_terms.specs.declared.refusal.Refusal.{Refusal}
use Rattle.flow_terms.specs.declared.answers.Begun.{Begun}
use Rattle.shared_lane.specs.Views.{ReceiptSeen}
use Rattle.shared_flow.specs.Emitters.{Emits, emission_by}
use Rattle.shared_flow.specs.Parties.{Emitting, IsOwnReceipt, IsSameEmitter, named}
use Rattle.shared_flow.proofs.Waiting.{same_as_same, own_of_same, emitted_weaker}
use Rattle.shared_flow.proofs.Emitted.{has_emitted, settled_last}
use Rattle.shared_flow.specs.Emitted.{Outcome, emitted, outcome_of_emit, outcome_of_start, settled}
use Rattle.shared_flow.proofs.emitter.Emitter.emit.Goals as goal

pub returns-in-Waiting-clause-receipt : goal.returns-in-Waiting-clause-receipt
returns-in-Waiting-clause-receipt g c =
    let old : Emitting = c.args.self.now in
    let begun : Emitting = c.start_emit.new.self in
    let same : IsSameEmitter old begun = (ap (λ (e : Emitting). named e.party) c.start_emit.ensures.round.2, ap (λ (e : Emitting). e.id) c.start_emit.ensures.round.2) in
    emitted_weaker c.finish.result (IsOwnReceipt begun.party begun.id) (IsOwnReceipt old.party old.id) (λ r own. own_of_same old begun r same own) c.finish.ensures.receipt

pub returns-in-Waiting-clause-ends : goal.returns-in-Waiting-clause-ends
returns-in-Waiting-clause-ends g c =
    let old : Emitting = c.args.self.now in
    let begun : Emitting = c.start_emit.new.self in
    let same : IsSameEmitter old begun = (ap (λ (e : Emitting). named e.party) c.start_emit.ensures.round.2, ap (λ (e : Emitting). e.id) c.start_emit.ensures.round.2) in
    (c.finish.ensures.ends.0, same_as_same old begun c.finish.new.self same c.finish.ensures.ends.1)

pub returns-in_err-receipt-clause-emits : goal.returns-in_err-receipt-clause-emits
returns-in_err-receipt-clause-emits g c =
    let old : Emitting = c.args.self.now in
    let e : Refusal = c.in_err-receipt.field-0.0 in
    let p = err_from_is_err_and c.from_residual.result c.from_residual.ensures.1 in
    let result_is : Err e ≡ c.from_residual.result = ap Err (sym p.2) ∙ sym p.1 in
    subst (λ (answer : Result (Option ReceiptSeen) Refusal). Emits old (emission_by old (g.T.Word.word c.args.value)) answer c.start_emit.new.self) result_is (inl c.in_err-receipt.ensures.round)

pub returns-in-Waiting-clause-has : goal.returns-in-Waiting-clause-has
returns-in-Waiting-clause-has g c =
    let old : Emitting = c.args.self.now in
    let word = g.T.Word.word c.args.value in
    let has = subst (λ (b : Begun ReceiptSeen (Unit {0})). emitted c.start_emit.new.self ≡ emitted old ++ (word, outcome_of_start (Ok b)) ∷ []) c.in-Waiting.is c.in_ok-receipt.ensures.has in
    let outcome : Outcome = outcome_of_emit c.finish.result in
    c.finish.ensures.has ∙ ap (settled outcome) has ∙ settled_last (emitted old) word outcome

pub returns-in_err-receipt-clause-has : goal.returns-in_err-receipt-clause-has
returns-in_err-receipt-clause-has g c =
    let old : Emitting = c.args.self.now in
    let new : Emitting = c.start_emit.new.self in
    let word = g.T.Word.word c.args.value in
    let e : Refusal = c.in_err-receipt.field-0.0 in
    let p = err_from_is_err_and c.from_residual.result c.from_residual.ensures.1 in
    let result_is : Err e ≡ c.from_residual.result = ap Err (sym p.2) ∙ sym p.1 in
    subst (λ (answer : Result (Option ReceiptSeen) Refusal). emitted new ≡ emitted old ++ (word, outcome_of_emit answer) ∷ []) result_is (has_emitted old new (emission_by old word) (Err e) (inl c.in_err-receipt.ensures.round))

pub returns-in-Accepted-clause-has : goal.returns-in-Accepted-clause-has
returns-in-Accepted-clause-has g c =
    let old : Emitting = c.args.self.now in
    let word = g.T.Word.word c.args.value in
    let has = subst (λ (b : Begun ReceiptSeen (Unit {0})). emitted c.start_emit.new.self ≡ emitted old ++ (word, outcome_of_start (Ok b)) ∷ []) c.in-Accepted.is c.in_ok-receipt.ensures.has in
    has

pub returns-in-Dropped-clause-has : goal.returns-in-Dropped-clause-has
returns-in-Dropped-clause-has g c =
    let old : Emitting = c.args.self.now in
    let word = g.T.Word.word c.args.value in
    let has = subst (λ (b : Begun ReceiptSeen (Unit {0})). emitted c.start_emit.new.self ≡ emitted old ++ (word, outcome_of_start (Ok b)) ∷ []) c.in-Dropped.is c.in_ok-receipt.ensures.has in
    has
