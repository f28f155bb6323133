use Rattle.std.proofs.Common.{◌≡◌, suc, ◌+◌, ◌-◌, ◌<◌, length, [], ◌∷◌, drop, sym, ap, ◌∙◌, arith}
use Rattle.std.proofs.lemmas.List.{drop_more, drop_all}
use Rattle.shared_core.proofs.Blocks.{goes_on, dropped_one, full_one, refused_first, refused_later, whole}
use Rattle.shared_core.proofs.state.SharedState.try_emit_all.Goals as goal

pub loop-value-preserved : goal.loop-value-preserved
loop-value-preserved g c =
    let values = c.args.values.now in
    let i = c.loop-value.value-index in
    let within : i < length values = omega arith in
    let first : drop i values ≡ c.value-item.result ∷ drop (i + 1) values =
    drop_more values i c.value-item.result within ∙ ap (λ x. x ∷ drop (i + 1) values) (sym c.value-item.is) in
    let tries = rw first at c.loop-value.invariant.tries in
    let follows = rw (c.in-Ok-Accepted.is, c.in-Ok-Accepted.field-0-is) at c.try_emit.ensures in
    record {
      count = omega (arith, c.loop-value.invariant.count);
      tries =
          goes_on c.args.emitter values (drop (i + 1) values) c.value-item.result c.loop-value.accepted c.in-Ok-Accepted.field-0-0 c.args.self.now
          c.loop-value.self c.try_emit.new.self tries follows;
    }

pub returns-in-Ok-Dropped : goal.returns-in-Ok-Dropped
returns-in-Ok-Dropped g c =
    let values = c.args.values.now in
    let i = c.loop-value.value-index in
    let within : i < length values = omega arith in
    let first : drop i values ≡ c.value-item.result ∷ drop (i + 1) values =
    drop_more values i c.value-item.result within ∙ ap (λ x. x ∷ drop (i + 1) values) (sym c.value-item.is) in
    let tries = rw first at c.loop-value.invariant.tries in
    let follows = rw (c.in-Ok-Dropped.is, c.in-Ok-Dropped.field-0-is) at c.try_emit.ensures in
    dropped_one c.args.emitter values (drop (i + 1) values) c.value-item.result c.loop-value.accepted c.args.self.now c.loop-value.self
    c.try_emit.new.self tries follows

pub returns-in-Ok-Full : goal.returns-in-Ok-Full
returns-in-Ok-Full g c =
    let values = c.args.values.now in
    let i = c.loop-value.value-index in
    let within : i < length values = omega arith in
    let first : drop i values ≡ c.value-item.result ∷ drop (i + 1) values =
    drop_more values i c.value-item.result within ∙ ap (λ x. x ∷ drop (i + 1) values) (sym c.value-item.is) in
    let tries = rw first at c.loop-value.invariant.tries in
    let follows = rw (c.in-Ok-Full.is, c.in-Ok-Full.field-0-is) at c.try_emit.ensures in
    full_one c.args.emitter values (drop (i + 1) values) c.value-item.result c.loop-value.accepted c.args.self.now c.loop-value.self
    c.try_emit.new.self tries follows

pub returns-in-Err : goal.returns-in-Err
returns-in-Err g c =
    let values = c.args.values.now in
    let i = c.loop-value.value-index in
    let within : i < length values = omega arith in
    let first : drop i values ≡ c.value-item.result ∷ drop (i + 1) values =
    drop_more values i c.value-item.result within ∙ ap (λ x. x ∷ drop (i + 1) values) (sym c.value-item.is) in
    let tries = rw first at c.loop-value.invariant.tries in
    let none = rw c.if-accepted-eq0.true at tries in
    let follows = rw c.in-Err.is at c.try_emit.ensures in
    refused_first c.args.emitter values (drop (i + 1) values) c.value-item.result c.in-Err.refusal c.args.self.now c.loop-value.self
    c.try_emit.new.self none follows

pub returns-in-Err-2 : goal.returns-in-Err-2
returns-in-Err-2 g c =
    let values = c.args.values.now in
    let i = c.loop-value.value-index in
    let within : i < length values = omega arith in
    let first : drop i values ≡ c.value-item.result ∷ drop (i + 1) values =
    drop_more values i c.value-item.result within ∙ ap (λ x. x ∷ drop (i + 1) values) (sym c.value-item.is) in
    let tries = rw first at c.loop-value.invariant.tries in
    let some : c.loop-value.accepted ≡ suc (c.loop-value.accepted - 1) = omega (arith, c.if-accepted-eq0.false) in
    let follows = rw c.in-Err.is at c.try_emit.ensures in
    refused_later c.args.emitter values (drop (i + 1) values) c.value-item.result c.in-Err.refusal c.loop-value.accepted
    (c.loop-value.accepted - 1) c.args.self.now c.loop-value.self
    c.try_emit.new.self some tries follows

pub returns : goal.returns
returns g c =
    let values = c.args.values.now in
    let done : drop c.loop-value.value-index values ≡ [] = drop_all c.loop-value.value-index values (omega arith) in
    let tries = rw done at c.loop-value.invariant.tries in
    whole c.args.emitter values c.loop-value.accepted c.args.self.now c.loop-value.self tries
