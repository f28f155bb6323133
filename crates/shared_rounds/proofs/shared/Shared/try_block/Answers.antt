use Rattle.std.proofs.Common.{◌≢◌, ℕ, List, [], map, take, IfOk, IfErr, ap, subst, ◌∙◌}
use Rattle.std.proofs.lemmas.Result.{IfErr-weaker}
use Rattle.shared_lane.specs.Blocks.{TriedAllOn}
use Rattle.shared_lane.specs.Sequencers.{AfterScan, RefusedTry}
use Rattle.shared_lane.specs.Views.{SequencerSeen}
use Rattle.shared_rounds.specs.Names.{SharedSeen}
use Rattle.shared_rounds.proofs.shared.Shared.try_block.Goals as goal

pub returns-clause-refused : goal.returns-clause-refused
returns-clause-refused g c =
    let new : SequencerSeen = c.try_emit_all.new.self in
    subst (λ (s : SharedSeen). IfErr c.try_emit_all.result (λ e. (c.args.values.now ≢ []) × AfterScan s.sequencer (λ m. RefusedTry m e new))) c.self.view_is
    (IfErr-weaker c.try_emit_all.result _ _ (λ e was. ((λ none. was.0 (c.put_words-count.ensures.words ∙ ap (λ l. map g.T.Word.word (take 64 l)) none)), was.1)) c.try_emit_all.ensures.refused)

pub returns-clause-tried : goal.returns-clause-tried
returns-clause-tried g c =
    let new : SequencerSeen = c.try_emit_all.new.self in
    let words : List ℕ = map g.T.Word.word (take 64 c.args.values.now) in
    subst (λ (s : SharedSeen). IfOk c.try_emit_all.result (λ n. AfterScan s.sequencer (λ m. TriedAllOn m c.args.emitter words n new))) c.self.view_is
    (subst (λ (l : List ℕ). IfOk c.try_emit_all.result (λ n. AfterScan c.self.inside.sequencer (λ m. TriedAllOn m c.args.emitter l n new))) c.put_words-count.ensures.words c.try_emit_all.ensures.has)
