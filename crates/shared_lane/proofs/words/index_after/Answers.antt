use Rattle.std.proofs.Common.{arith, ap, ◌+◌, ◌∙◌, sym, ℕ}
use Rattle.shared_lane.proofs.Apart.{index_within, index_counts, index_turns}
use Rattle.shared_lane.proofs.words.index_after.Goals as goal

pub returns-then-cell-shape : goal.returns-then-cell-shape
returns-then-cell-shape c n is = let last = c.if-cell-shape.true in let inside = index_within c.args.shape.now n c.requires in sym (index_turns c.args.shape.now n (omega arith))

pub returns : goal.returns
returns c n is = let more = c.if-cell-shape.false in ap (λ (z : ℕ). z + 1) is ∙ sym (index_counts c.args.shape.now n (omega arith))
