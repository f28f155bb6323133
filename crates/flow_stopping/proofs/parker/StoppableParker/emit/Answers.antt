use Rattle.std.proofs.Common.{Err, inl, ap, ◌∙◌}
use Rattle.shared_flow.specs.Emitted.{emitted, settled}
use Rattle.shared_flow.specs.Emitters.{emission_by}
use Rattle.shared_flow.specs.Parties.{Emitting, IsSameEmitter, named}
use Rattle.shared_flow.proofs.Emitted.{has_emitted, settled_last}
use Rattle.shared_flow.proofs.Waiting.{same_as_same}
use Rattle.flow_stopping.specs.Waits.{outcome_of_wait}
use Rattle.flow_stopping.proofs.Emissions.{grew_by_one, waited_for}
use Rattle.flow_stopping.proofs.parker.StoppableParker.emit.Goals as goal

pub returns-in-Ok-Waiting-clause-has : goal.returns-in-Ok-Waiting-clause-has
returns-in-Ok-Waiting-clause-has g c =
    let old : Emitting = c.args.emitter.now in
    let word = g.T.Word.word c.args.value in
    let outcome = outcome_of_wait c.finish.result in
    let has = (rw c.in-Ok-Waiting.field-0-is at c.in-Ok-Waiting.ensures.has) in
    grew_by_one (emitted old) (emitted c.finish.new.emitter) word c.finish.result
    (c.finish.ensures.has ∙ ap (settled outcome) has ∙ settled_last (emitted old) word outcome)

pub returns-in-Ok-Waiting-clause-ends : goal.returns-in-Ok-Waiting-clause-ends
returns-in-Ok-Waiting-clause-ends g c =
    let old : Emitting = c.args.emitter.now in
    let begun : Emitting = c.start_emit.new.self in
    let started = c.start_emit.ensures.round.2 in
    let same : IsSameEmitter old begun = (ap (λ (e : Emitting). named e.party) started, ap (λ (e : Emitting). e.id) started) in
    (c.finish.ensures.ends.0, same_as_same old begun c.finish.new.emitter same c.finish.ensures.ends.1)

pub returns-in-Ok-Waiting-clause-emits : goal.returns-in-Ok-Waiting-clause-emits
returns-in-Ok-Waiting-clause-emits g c =
    let old : Emitting = c.args.emitter.now in
    let begun : Emitting = c.start_emit.new.self in
    let emission = emission_by old (g.T.Word.word c.args.value) in
    let started = (rw c.in-Ok-Waiting.field-0-is at c.in-Ok-Waiting.ensures.round) in
    waited_for old begun c.finish.new.emitter emission c.finish.result started c.finish.ensures.answers

pub returns-in-Err-clause-has : goal.returns-in-Err-clause-has
returns-in-Err-clause-has g c =
    let old : Emitting = c.args.emitter.now in
    let emission = emission_by old (g.T.Word.word c.args.value) in
    has_emitted old c.start_emit.new.self emission (Err c.in-Err.refusal) (inl c.in-Err.ensures.round)

pub returns-in-Ok-Accepted-clause-has : goal.returns-in-Ok-Accepted-clause-has
returns-in-Ok-Accepted-clause-has g c = (rw c.in-Ok-Accepted.field-0-is at c.in-Ok-Accepted.ensures.has)

pub returns-in-Ok-Dropped-clause-has : goal.returns-in-Ok-Dropped-clause-has
returns-in-Ok-Dropped-clause-has g c = (rw c.in-Ok-Dropped.field-0-is at c.in-Ok-Dropped.ensures.has)
