use Rattle.std.proofs.Common.{◌≡◌, ◌≢◌, ℕ, ◌+◌, ◌-◌, List, [], Result, Ok, Err, length, map, take, drop, sym, ap, subst, ◌∙◌, arith}
use Rattle.std.proofs.lemmas.List.{length-map, length-take, map-append, take-append-drop, take-map, take_rest}
use Rattle.std.proofs.lemmas.Result.{err_from_is_err_and}
use Rattle.flow_terms.specs.declared.refusal.Refusal.{Refusal}
use Rattle.shared_lane.specs.Blocks.{TriedAllOn}
use Rattle.shared_lane.specs.Sequencers.{AfterScan, IsSameSequencer, RefusedTry}
use Rattle.shared_rounds.specs.declared.round.Round.TheVariants as round
use Rattle.shared_rounds.specs.Names.{SharedSeen}
use Rattle.shared_rounds.specs.Rounds.{Comes}
use Rattle.shared_rounds.proofs.Doing.{comes, same_through}
use Rattle.shared_rounds.proofs.Trying.{no_word, accepted_first, scan_then, tried_front, tried_then}
use Rattle.shared_rounds.proofs.shared.Shared.try_emit_all.Goals as goal

-- the round of a list whose words were tried
tried_all : (old new : SharedSeen) (e : ℕ) (words : List ℕ) (n : ℕ) → new.name ≡ old.name → IsSameSequencer old.sequencer new.sequencer
    → AfterScan old.sequencer (λ m. TriedAllOn m e words n new.sequencer) → Comes old (round.TryAll e words (Ok n)) new
tried_all old new e words n named same tried = comes old new (round.TryAll e words (Ok n)) named same tried tt

pub returns-in_err-first-clause-does : goal.returns-in_err-first-clause-does
returns-in_err-first-clause-does g c =
    let old : SharedSeen = c.args.self.now in let new : SharedSeen = c.try_block.new.self in let e : Refusal = c.in_err-first.field-0.0 in let refused = c.in_err-first.ensures.refused in let words : List ℕ = map g.T.Word.word c.args.values.now in
    let p = err_from_is_err_and c.from_residual.result c.from_residual.ensures.1 in
    subst (λ (answer : Result ℕ Refusal). Comes old (round.TryAll c.args.emitter words answer) new) (ap Err (sym p.2) ∙ sym p.1) (comes old new (round.TryAll c.args.emitter words (Err e)) c.in_err-first.ensures.same.0 c.in_err-first.ensures.same.1
    (scan_then old.sequencer (λ m. RefusedTry m e new.sequencer) (λ m. (words ≢ []) × RefusedTry m e new.sequencer) (λ m was. (no_word g.T.Word.word c.args.values.now refused.0, was)) refused.1) tt)

pub returns-then-first-clause-does : goal.returns-then-first-clause-does
returns-then-first-clause-does g c =
    let old : SharedSeen = c.args.self.now in let new : SharedSeen = c.try_block.new.self in let word = g.T.Word.word in let words : List ℕ = map word c.args.values.now in let e : ℕ = c.args.emitter in let n : ℕ = c.in_ok-first.first in
    tried_all old new e words n c.in_ok-first.ensures.same.0 c.in_ok-first.ensures.same.1
    (scan_then old.sequencer (λ m. TriedAllOn m e (map word (take 64 c.args.values.now)) n new.sequencer) (λ m. TriedAllOn m e words n new.sequencer)
    (λ m tried. tried_front m new.sequencer e 64 words n c.if-first.true (subst (λ (l : List ℕ). TriedAllOn m e l n new.sequencer) (sym (take-map word 64 c.args.values.now)) tried)) c.in_ok-first.ensures.tried)

pub returns-then-first-clause-few : goal.returns-then-first-clause-few
returns-then-first-clause-few g c = let few = c.in_ok-first.ensures.tried.5.few in let long = length-map (take 64 c.args.values.now) g.T.Word.word in let cut = length-take 64 c.args.values.now in omega arith

pub scale_in_slice-try_others : goal.scale_in_slice-try_others
scale_in_slice-try_others g c = let few = c.in_ok-first.ensures.tried.5.few in let long = length-map (take 64 c.args.values.now) g.T.Word.word in let cut = length-take 64 c.args.values.now in omega arith

pub slice_bounds-try_others-count : goal.slice_bounds-try_others-count
slice_bounds-try_others-count g c = let few = c.in_ok-first.ensures.tried.5.few in let long = length-map (take 64 c.args.values.now) g.T.Word.word in let cut = length-take 64 c.args.values.now in omega arith

pub slice_bounds-try_others-start : goal.slice_bounds-try_others-start
slice_bounds-try_others-start g c = let few = c.in_ok-first.ensures.tried.5.few in let long = length-map (take 64 c.args.values.now) g.T.Word.word in let cut = length-take 64 c.args.values.now in omega arith

pub try_others-requires : goal.try_others-requires
try_others-requires g c = let tried = c.in_ok-first.ensures.tried in let few = tried.5.few in let long = length-map (take 64 c.args.values.now) g.T.Word.word in let cut = length-take 64 c.args.values.now in
    accepted_first tried.0 c.try_block.new.self.sequencer c.args.emitter (map g.T.Word.word (take 64 c.args.values.now)) c.in_ok-first.first (omega arith) tried.5

pub overflow_add-result : goal.overflow_add-result
overflow_add-result g c = let values = c.args.values.now in let word = g.T.Word.word in let few = c.in_ok-first.ensures.tried.5.few in let long = length-map (take 64 values) word in let cut = length-take 64 values in
    let left : List _ = take (length values - 64) (drop 64 values) in let more = c.try_others.ensures.tried.few in let rest = length-map left word in let back = length-take (length values - 64) (drop 64 values) in record { fits = omega arith }

pub returns-clause-does : goal.returns-clause-does
returns-clause-does g c =
    let old : SharedSeen = c.args.self.now in let then : SharedSeen = c.try_block.new.self in let new : SharedSeen = c.try_others.new.self in let word = g.T.Word.word in let values = c.args.values.now in
    let e : ℕ = c.args.emitter in let k : ℕ = c.in_ok-first.first in let n : ℕ = c.try_others.result in let front : List ℕ = map word (take 64 values) in let back : List ℕ = map word (drop 64 values) in
    let others = subst (λ (l : List ℕ). TriedAllOn then.sequencer e l n new.sequencer) (ap (map word) (take_rest values 64)) c.try_others.ensures.tried in
    let few = c.in_ok-first.ensures.tried.5.few in let long = length-map (take 64 values) word in let cut = length-take 64 values in
    tried_all old new e (map word values) (k + n) (c.try_others.ensures.same.0 ∙ c.in_ok-first.ensures.same.0) (same_through old.sequencer then.sequencer new.sequencer c.in_ok-first.ensures.same.1 c.try_others.ensures.same.1)
    (scan_then old.sequencer (λ m. TriedAllOn m e front k then.sequencer) (λ m. TriedAllOn m e (map word values) (k + n) new.sequencer)
    (λ m tried. subst (λ (l : List ℕ). TriedAllOn m e l (k + n) new.sequencer) (sym (map-append word (take 64 values) (drop 64 values)) ∙ ap (map word) (take-append-drop 64 values))
    (tried_then m then.sequencer new.sequencer e front back k n (omega arith) tried others)) c.in_ok-first.ensures.tried)

pub returns-clause-few : goal.returns-clause-few
returns-clause-few g c = let values = c.args.values.now in let word = g.T.Word.word in let few = c.in_ok-first.ensures.tried.5.few in let long = length-map (take 64 values) word in let cut = length-take 64 values in
    let left : List _ = take (length values - 64) (drop 64 values) in let more = c.try_others.ensures.tried.few in let rest = length-map left word in let back = length-take (length values - 64) (drop 64 values) in omega arith
