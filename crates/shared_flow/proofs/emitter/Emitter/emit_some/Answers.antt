use Rattle.std.proofs.Common.{◌≡◌, ◌<◌, ℕ, ◌+◌, List, [], ◌∷◌, ◌++◌, Option, Ok, length, map, take, drop, get_or, sym, ap, subst, ◌∙◌, arith}
use Rattle.std.proofs.lemmas.List.{length-map, length-take-le, map_more, take-map, take-append-drop, drop_more, map-append}
use Rattle.shared_flow.specs.declared.emitter.blocks.CutShort.{CutShort}
use Rattle.shared_flow.specs.Blocks.{EmitsOn, IsCutShort, one_more, one_dropped}
use Rattle.shared_lane.specs.Views.{ReceiptSeen}
use Rattle.shared_flow.specs.Emitters.{Emits, emission_by}
use Rattle.shared_flow.specs.Parties.{Emitting}
use Rattle.shared_flow.proofs.Emits.{tried_first, refused_at_once, refused_later}
use Rattle.shared_flow.proofs.emitter.Emitter.emit_some.Goals as goal

-- one word more than the first of a list
one_longer : {T : Type 0} (word : T → ℕ) (values : List T) (i : ℕ) (v : T) → i < length values → v ≡ get_or values i v → take i (map word values) ++ word v ∷ [] ≡ take (i + 1) (map word values)
one_longer word values i v within is = ap (λ (l : List ℕ). l ++ word v ∷ []) (take-map word i values)
    ∙ (ap (λ x. map word (take i values) ++ word x ∷ []) is ∙ (sym (map_more word values i v within) ∙ sym (take-map word (i + 1) values)))

-- a list by one of its words
around : {T : Type 0} (word : T → ℕ) (values : List T) (i : ℕ) (v : T) → i < length values → v ≡ get_or values i v → map word values ≡ take i (map word values) ++ word v ∷ map word (drop (i + 1) values)
around word values i v within is = ap (map word) (sym (take-append-drop i values) ∙ ap (λ (l : List _). take i values ++ l) (drop_more values i v within ∙ ap (λ x. x ∷ drop (i + 1) values) (sym is)))
    ∙ (map-append word (take i values) (v ∷ drop (i + 1) values) ∙ ap (λ (l : List ℕ). l ++ word v ∷ map word (drop (i + 1) values)) (sym (take-map word i values)))

pub returns-in-Err-clause-cut : goal.returns-in-Err-clause-cut
returns-in-Err-clause-cut g c = let old : Emitting = c.args.self.now in let new : Emitting = c.try_emit_all.new.self in let words : List ℕ = map g.T.Word.word c.args.values.now in let long = length-map c.args.values.now g.T.Word.word in let some = c.requires.some in
    subst (λ (cut : CutShort). IsCutShort old words cut new) (sym c.cut_at.ensures) (refused_at_once old new words c.in-Err.refusal (omega arith) c.in-Err.ensures.tried)

pub returns-then-count-values-clause-emitted : goal.returns-then-count-values-clause-emitted
returns-then-count-values-clause-emitted g c = let words : List ℕ = map g.T.Word.word c.args.values.now in let long = length-map c.args.values.now g.T.Word.word in let some = c.requires.some in let all = c.if-count-values.true in
    (omega arith, omega arith, tried_first c.args.self.now c.try_emit_all.new.self words c.in-Ok.count c.in-Ok.ensures.tried)

pub returns-in-Ok-Some-clause-emitted : goal.returns-in-Ok-Some-clause-emitted
returns-in-Ok-Some-clause-emitted g c = let values = c.args.values.now in let word = g.T.Word.word in let words : List ℕ = map word values in let long = length-map values word in let k : ℕ = c.in-Ok.count in let few = c.in-Ok.ensures.few in let ne = c.if-count-values.false in
    let old : Emitting = c.args.self.now in let m : Emitting = c.try_emit_all.new.self in let new : Emitting = c.emit.new.self in let v = c.index-values-count.result in (
      omega arith,
      omega arith,
      subst (λ (l : List ℕ). EmitsOn old l (k + 1) new) (one_longer word values k v (omega arith) c.index-values-count.is)
          (one_more old m new (take k words) (word v) k c.in-Ok-Some.field-0-0 (tried_first old m words k c.in-Ok.ensures.tried) (subst (λ (answer : Option ReceiptSeen). Emits m (emission_by m (word v)) (Ok answer) new) c.in-Ok-Some.field-0-is c.in-Ok-Some.ensures.emits)),
    )

pub returns-in-Ok-None-clause-emitted : goal.returns-in-Ok-None-clause-emitted
returns-in-Ok-None-clause-emitted g c = let values = c.args.values.now in let word = g.T.Word.word in let words : List ℕ = map word values in let long = length-map values word in let k : ℕ = c.in-Ok.count in let few = c.in-Ok.ensures.few in let ne = c.if-count-values.false in
    let old : Emitting = c.args.self.now in let m : Emitting = c.try_emit_all.new.self in let new : Emitting = c.emit.new.self in let v = c.index-values-count.result in (
      omega arith,
      omega arith,
      subst (λ (l : List ℕ). EmitsOn old l k new) (one_longer word values k v (omega arith) c.index-values-count.is)
          (one_dropped old m new (take k words) (word v) k (tried_first old m words k c.in-Ok.ensures.tried) (subst (λ (answer : Option ReceiptSeen). Emits m (emission_by m (word v)) (Ok answer) new) c.in-Ok-None.field-0-is c.in-Ok-None.ensures.emits)),
    )

pub returns-clause-cut : goal.returns-clause-cut
returns-clause-cut g c = let values = c.args.values.now in let word = g.T.Word.word in let words : List ℕ = map word values in let long = length-map values word in let k : ℕ = c.in-Ok.count in let few = c.in-Ok.ensures.few in let ne = c.if-count-values.false in
    let old : Emitting = c.args.self.now in let m : Emitting = c.try_emit_all.new.self in let new : Emitting = c.emit.new.self in let v = c.index-values-count.result in
    subst (λ (cut : CutShort). IsCutShort old words cut new) (sym c.cut_at-in-Err-emit.ensures)
    (refused_later old m new words (take k words) (map word (drop (k + 1) values)) (word v) k c.in-Err-emit.refusal (around word values k v (omega arith) c.index-values-count.is) (length-take-le k words (omega arith))
    (tried_first old m words k c.in-Ok.ensures.tried) c.in-Err-emit.ensures.emits)
