use Rattle.std.proofs.Common.{rules, arith, replicate, ap, ◌∙◌, get_or-set_same}
use Rattle.shared_lane.proofs.Apart.{tail_within, cursors_alike}
use Rattle.shared_lane.proofs.words.lay.Goals as goal

pub returns-clause-tail : goal.returns-clause-tail
returns-clause-tail g c = let words = c.in_ok-words.words in let long = words.ok.0 in let count = c.in_ok-words.ensures.len in let wide = c.word_count.ensures in let inside = tail_within c.args.shape in
    get_or-set_same words.items 0 c.args.shape.first 0 (omega arith)

pub returns-clause-cursors : goal.returns-clause-cursors
returns-clause-cursors g c = λ p inside. cursors_alike c.args.shape c.in_ok-words.words.items 18446744073709551615 c.args.shape.first
    (c.in_ok-words.ensures.items_if_clones_equal (search rules) ∙ ap (λ n. replicate n 18446744073709551615) c.word_count.ensures) c.requires.0 p inside
