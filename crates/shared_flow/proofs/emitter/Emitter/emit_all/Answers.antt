use Rattle.std.proofs.Common.{◌≡◌, ℕ, ◌+◌, ◌-◌, List, ◌++◌, length, map, take, drop, refl, sym, ap, subst, ◌∙◌, arith}
use Rattle.std.proofs.lemmas.List.{length-map, length-take-le, length-drop, map-append, take-append-drop, take-map, take_all, take_rest}
use Rattle.std.proofs.Math.Seq.{take-add}
use Rattle.shared_flow.specs.declared.emitter.blocks.CutShort.{CutShort}
use Rattle.shared_flow.specs.Blocks.{EmitsOn, IsCutShort, none_yet}
use Rattle.shared_flow.specs.Parties.{Emitting}
use Rattle.shared_flow.proofs.Emits.{cut_later, cut_within, emits_few, emits_then}
use Rattle.shared_flow.proofs.Waiting.{same_as_same}
use Rattle.shared_flow.proofs.Emitted.{has_cut, has_on}
use Rattle.shared_flow.specs.Emitted.{GrewBy, GrewUpTo, emitted}
use Rattle.shared_flow.proofs.emitter.Emitter.emit_all.Goals as goal

-- the words of the first values, and of some that are left
joined : {T : Type 0} (word : T → ℕ) (values : List T) (i k : ℕ) → map word (take i values) ++ take k (map word (take (length values - i) (drop i values))) ≡ map word (take (i + k) values)
joined word values i k = ap (λ (l : List ℕ). map word (take i values) ++ l) (take-map word k (take (length values - i) (drop i values)) ∙ ap (λ (l : List _). map word (take k l)) (take_rest values i))
    ∙ (sym (map-append word (take i values) (take k (drop i values))) ∙ ap (map word) (sym (take-add i k values)))

-- how many are left
left : {T : Type 0} (word : T → ℕ) (values : List T) (i : ℕ) → length (map word (take (length values - i) (drop i values))) ≡ length values - i
left word values i = length-map (take (length values - i) (drop i values)) word ∙ (ap length (take_rest values i) ∙ length-drop i values)

pub loop-emitted-init : goal.loop-emitted-init
loop-emitted-init g c = (c.requires.idle, (refl, refl), omega arith, omega arith, none_yet c.args.self.now)

pub overflow_add-accepted : goal.overflow_add-accepted
overflow_add-accepted g c = let values = c.args.values.now in let word = g.T.Word.word in let i : ℕ = c.loop-emitted.emitted in let k : ℕ = c.in-Ok.turn.emitted in let a : ℕ = c.in-Ok.turn.accepted in let before = c.loop-emitted.invariant in let done = c.in-Ok.ensures.emitted in
    let words : List ℕ = map word (take (length values - i) (drop i values)) in let long = left word values i in let few = done.1 in let within = before.2 in let fewer = before.3 in
    let less = emits_few c.loop-emitted.self c.emit_some.new.self (take k words) a done.2 in let cut = length-take-le k words few in record { fits = omega arith }

pub loop-emitted-preserved : goal.loop-emitted-preserved
loop-emitted-preserved g c = let values = c.args.values.now in let word = g.T.Word.word in let i : ℕ = c.loop-emitted.emitted in let k : ℕ = c.in-Ok.turn.emitted in let a : ℕ = c.in-Ok.turn.accepted in let before = c.loop-emitted.invariant in let done = c.in-Ok.ensures.emitted in
    let words : List ℕ = map word (take (length values - i) (drop i values)) in let long = left word values i in let few = done.1 in let within = before.2 in let fewer = before.3 in
    let old : Emitting = c.args.self.now in let m : Emitting = c.loop-emitted.self in let new : Emitting = c.emit_some.new.self in
    let less = emits_few m new (take k words) a done.2 in let cut = length-take-le k words few in (
      c.in-Ok.ensures.ends.0,
      same_as_same old m new before.1 c.in-Ok.ensures.ends.1,
      omega arith,
      omega arith,
      subst (λ (l : List ℕ). EmitsOn old l (c.loop-emitted.accepted + a) new) (joined word values i k) (emits_then old m new (map word (take i values)) (take k words) c.loop-emitted.accepted a before.4 done.2),
    )

pub overflow_add-result : goal.overflow_add-result
overflow_add-result g c = let within = cut_within c.loop-emitted.self c.emit_some.new.self (map g.T.Word.word (take (length c.args.values.now - c.loop-emitted.emitted) (drop c.loop-emitted.emitted c.args.values.now))) c.in-Err.cut c.in-Err.ensures.cut in
    let less = within.0 in let long = left g.T.Word.word c.args.values.now c.loop-emitted.emitted in let before = c.loop-emitted.invariant.2 in record { fits = omega arith }

pub overflow_add-result-in-Err : goal.overflow_add-result-in-Err
overflow_add-result-in-Err g c = let within = cut_within c.loop-emitted.self c.emit_some.new.self (map g.T.Word.word (take (length c.args.values.now - c.loop-emitted.emitted) (drop c.loop-emitted.emitted c.args.values.now))) c.in-Err.cut c.in-Err.ensures.cut in
    let less = within.0 in let few = within.1 in let long = left g.T.Word.word c.args.values.now c.loop-emitted.emitted in let before = c.loop-emitted.invariant.2 in let fewer = c.loop-emitted.invariant.3 in record { fits = omega arith }

pub returns-in-Err-clause-cut : goal.returns-in-Err-clause-cut
returns-in-Err-clause-cut g c = let values = c.args.values.now in let word = g.T.Word.word in let i : ℕ = c.loop-emitted.emitted in let n : ℕ = c.loop-emitted.accepted in let cut : CutShort = c.in-Err.cut in
    let old : Emitting = c.args.self.now in let new : Emitting = c.emit_some.new.self in let front : List ℕ = map word (take i values) in let back : List ℕ = map word (take (length values - i) (drop i values)) in
    let total : CutShort = record { emitted = i + cut.emitted; accepted = n + cut.accepted; refusal = cut.refusal } in let within = c.loop-emitted.invariant.2 in
    let whole : front ++ back ≡ map word values = ap (λ (l : List _). front ++ map word l) (take_rest values i) ∙ (sym (map-append word (take i values) (drop i values)) ∙ ap (map word) (take-append-drop i values)) in
    subst (λ (l : List ℕ). IsCutShort old l total new) whole (cut_later old c.loop-emitted.self new front back i n cut (length-map (take i values) word ∙ length-take-le i values within) c.loop-emitted.invariant.4 c.in-Err.ensures.cut)

pub returns-in-Err-clause-has : goal.returns-in-Err-clause-has
returns-in-Err-clause-has g c = let values = c.args.values.now in let word = g.T.Word.word in let i : ℕ = c.loop-emitted.emitted in let n : ℕ = c.loop-emitted.accepted in let cut : CutShort = c.in-Err.cut in
    let old : Emitting = c.args.self.now in let new : Emitting = c.emit_some.new.self in let front : List ℕ = map word (take i values) in let back : List ℕ = map word (take (length values - i) (drop i values)) in
    let total : CutShort = record { emitted = i + cut.emitted; accepted = n + cut.accepted; refusal = cut.refusal } in let within = c.loop-emitted.invariant.2 in
    let whole : front ++ back ≡ map word values = ap (λ (l : List _). front ++ map word l) (take_rest values i) ∙ (sym (map-append word (take i values) (drop i values)) ∙ ap (map word) (take-append-drop i values)) in
    subst (λ (l : List ℕ). GrewUpTo (emitted old) l total (emitted new)) whole
    (has_cut old new (front ++ back) total (cut_later old c.loop-emitted.self new front back i n cut (length-map (take i values) word ∙ length-take-le i values within) c.loop-emitted.invariant.4 c.in-Err.ensures.cut))

pub returns-clause-has : goal.returns-clause-has
returns-clause-has g c = let values = c.args.values.now in let word = g.T.Word.word in let i : ℕ = c.loop-emitted.emitted in let old : Emitting = c.args.self.now in let new : Emitting = c.loop-emitted.self in
    subst (λ (l : List _). GrewBy (emitted old) (map word l) c.loop-emitted.accepted (emitted new)) (take_all i values c.loop-emitted-test.false) (has_on old new (map word (take i values)) c.loop-emitted.accepted c.loop-emitted.invariant.4)
