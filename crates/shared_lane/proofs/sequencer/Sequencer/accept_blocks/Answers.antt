use Rattle.std.proofs.Common.{ℕ, ◌-◌, List, [], ◌∷◌, ◌++◌, length, take, drop, ap, subst, ◌∙◌, arith, length-drop, append_assoc}
use Rattle.std.proofs.lemmas.List.{take_all}
use Rattle.shared_lane.specs.Law.{Entry}
use Rattle.shared_lane.specs.Views.{SequencerSeen}
use Rattle.shared_lane.specs.Sequencers.{seen}
use Rattle.shared_lane.specs.Blocks.{entries, AcceptedSome}
use Rattle.shared_lane.proofs.Entries.{entries_front, entries_further, joined_more, in_turn_more}
use Rattle.shared_lane.proofs.Sameness.{same_twice}
use Rattle.shared_lane.proofs.sequencer.Sequencer.accept_blocks.Goals as goal

pub loop-done-preserved : goal.loop-done-preserved
loop-done-preserved g c = let before = c.loop-done.invariant in let one = c.accept_some-count.ensures in let e : ℕ = c.args.emitter in let ws : List ℕ = c.args.words.now in let i : ℕ = c.loop-done.done in let k : ℕ = c.accept_some-count.result in
    let q : SequencerSeen = c.args.self.now in let m : SequencerSeen = c.loop-done.self in let t : SequencerSeen = c.accept_some-count.new.self in let es : List Entry = entries e (take k (drop i ws)) in
    let rest = length-drop i ws in let some = subst (λ (l : List ℕ). AcceptedSome m e l k t) (take_all (length ws - i) (drop i ws) (omega arith)) one.accepted in let few = some.few in let count = entries_front e k (drop i ws) few in let blocks = before.5 in let further = entries_further e i k ws in (
      one.same.0,
      same_twice q m t before.1 one.same.1,
      one.same.2,
      omega arith,
      some.accepted ∙ (ap (λ (l : List Entry). l ++ es) before.4 ∙ (append_assoc (seen q) (entries e (take i ws)) es ∙ ap (λ (l : List Entry). seen q ++ l) further)),
      (blocks.0 ++ es ∷ [], joined_more blocks.0 es ∙ (ap (λ (l : List Entry). l ++ es) blocks.1 ∙ further), in_turn_more q m t blocks.0 es blocks.2 (let ne = c.if-count-eq0.false in omega arith) (some.some (let ne = c.if-count-eq0.false in omega arith))),
    )
