use Rattle.std.proofs.Common.{◌≡◌, map, take, min, length, sym, ap, ◌∙◌, arith}
use Rattle.std.proofs.lemmas.List.{take_min}
use Rattle.shared_rounds.proofs.shared.blocks.put_words.Goals as goal

pub returns-clause-words : goal.returns-clause-words
returns-clause-words g c =
    let values = c.args.values.now in
    let count : c.min-count.result ≡ min 64 (length values) = let least = c.min-count.ensures in omega arith in
    let end : c.loop-index.index ≡ c.min-count.result = omega arith in
    ap (λ i. take i c.loop-index.block) (sym end) ∙ (c.loop-index.invariant ∙ (ap (λ i. map g.T.Word.word (take i values)) (end ∙ count) ∙ ap (map g.T.Word.word) (take_min 64 values)))
