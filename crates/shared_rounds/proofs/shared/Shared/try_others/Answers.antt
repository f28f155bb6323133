use Rattle.std.proofs.Common.{◌≡◌, ℕ, ◌+◌, ◌-◌, List, ◌++◌, length, map, take, drop, refl, sym, ap, subst, ◌∙◌, arith}
use Rattle.std.proofs.lemmas.List.{length-map, length-take, length-drop, map-append, take-append-drop, take-map, take_all, take_rest}
use Rattle.std.proofs.Math.Seq.{take-add}
use Rattle.shared_lane.specs.Blocks.{TriedAllOn}
use Rattle.shared_lane.specs.Views.{SequencerSeen}
use Rattle.shared_rounds.proofs.Doing.{same_through}
use Rattle.shared_rounds.proofs.Trying.{tried_front, tried_none, tried_then, tried_waiting}
use Rattle.shared_rounds.proofs.shared.Shared.try_others.Goals as goal

pub loop-done-init : goal.loop-done-init
loop-done-init g c = (refl, (refl, refl, refl, refl, refl, refl), c.requires, omega arith, tried_none c.args.self.now.sequencer c.args.emitter, (refl, refl))

pub returns-then-count-lt-BLOCK-clause-tried : goal.returns-then-count-lt-BLOCK-clause-tried
returns-then-count-lt-BLOCK-clause-tried g c = let before = c.loop-done.invariant in let values = c.args.values.now in let i : ℕ = c.loop-done.done in let n : ℕ = c.try_next_block-count.result in let word = g.T.Word.word in
    let q : SequencerSeen = c.args.self.now.sequencer in let m : SequencerSeen = c.loop-done.self.sequencer in let t : SequencerSeen = c.try_next_block-count.new.self.sequencer in let e : ℕ = c.args.emitter in
    let others : List ℕ = map word (drop i values) in
    let front = subst (λ (l : List ℕ). TriedAllOn m e l n t) (ap (λ (l : List _). map word (take 64 l)) (take_rest values i) ∙ sym (take-map word 64 (drop i values))) c.try_next_block-count.ensures.tried in
    let rest : TriedAllOn m e others n t = tried_front m t e 64 others n c.if-count-lt-BLOCK.true front in
    let all = length-map (take i values) word in let count = length-take i values in let within = before.3 in
    subst (λ (l : List ℕ). TriedAllOn q e l (i + n) t) (sym (map-append word (take i values) (drop i values)) ∙ ap (map word) (take-append-drop i values))
    (tried_then q m t e (map word (take i values)) others i n (omega arith) before.4 rest)

pub overflow_add-done : goal.overflow_add-done
overflow_add-done g c = let before = c.loop-done.invariant in let values = c.args.values.now in let i : ℕ = c.loop-done.done in let within = before.3 in let left : List _ = take (length values - i) (drop i values) in let few = c.try_next_block-count.ensures.tried.few in
    let long = length-map (take 64 left) g.T.Word.word in let cut = length-take 64 left in let rest = length-take (length values - i) (drop i values) in let back = length-drop i values in record { fits = omega arith }

pub loop-done-preserved : goal.loop-done-preserved
loop-done-preserved g c = let before = c.loop-done.invariant in let values = c.args.values.now in let i : ℕ = c.loop-done.done in let n : ℕ = c.try_next_block-count.result in let word = g.T.Word.word in
    let q : SequencerSeen = c.args.self.now.sequencer in let m : SequencerSeen = c.loop-done.self.sequencer in let t : SequencerSeen = c.try_next_block-count.new.self.sequencer in let e : ℕ = c.args.emitter in
    let tried = subst (λ (l : List ℕ). TriedAllOn m e l n t) (ap (λ (l : List _). map word (take 64 l)) (take_rest values i)) c.try_next_block-count.ensures.tried in let few = tried.few in let whole = c.if-count-lt-BLOCK.false in
    let others : List ℕ = map word (take 64 (drop i values)) in let long = length-map (take 64 (drop i values)) word in let cut = length-take 64 (drop i values) in let rest = length-drop i values in
    let all = length-map (take i values) word in let count = length-take i values in let within = before.3 in let n_is : n ≡ 64 = omega arith in
    let there : map word (take i values) ++ others ≡ map word (take (i + n) values) = sym (map-append word (take i values) (take 64 (drop i values))) ∙ ap (map word) (sym (take-add i 64 values) ∙ ap (λ (k : ℕ). take (i + k) values) (sym n_is)) in (
      c.try_next_block-count.ensures.same.0 ∙ before.0,
      same_through q m t before.1 c.try_next_block-count.ensures.same.1,
      tried_waiting m t e others n tried ∙ before.2,
      omega arith,
      subst (λ (l : List ℕ). TriedAllOn q e l (i + n) t) there (tried_then q m t e (map word (take i values)) others i n (omega arith) before.4 tried),
      (c.try_next_block-count.ensures.same.2.0 ∙ before.5.0, c.try_next_block-count.ensures.same.2.1 ∙ before.5.1),
    )

pub returns-clause-tried : goal.returns-clause-tried
returns-clause-tried g c = let before = c.loop-done.invariant in let values = c.args.values.now in let within = before.3 in
    subst (λ l. TriedAllOn c.args.self.now.sequencer c.args.emitter (map g.T.Word.word l) c.loop-done.done c.loop-done.self.sequencer) (take_all c.loop-done.done values (omega arith)) before.4

pub returns-then-count-lt-BLOCK-clause-same : goal.returns-then-count-lt-BLOCK-clause-same
returns-then-count-lt-BLOCK-clause-same g c = let before = c.loop-done.invariant in let same = c.try_next_block-count.ensures.same in
    (same.0 ∙ before.0, same_through c.args.self.now.sequencer c.loop-done.self.sequencer c.try_next_block-count.new.self.sequencer before.1 same.1, (same.2.0 ∙ before.5.0, same.2.1 ∙ before.5.1))

pub returns-clause-same : goal.returns-clause-same
returns-clause-same g c = let before = c.loop-done.invariant in (before.0, before.1, before.5)
