use Rattle.std.proofs.Common.{rules, sym, ◌∙◌}
use Rattle.shared_lane.specs.Layout.{cell_word}
use Rattle.shared_lane.specs.Steps.{position}
use Rattle.shared_lane.proofs.Apart.{index_inside, cell_inside}
use Rattle.shared_lane.proofs.ReaderKept.{picks}
use Rattle.shared_lane.proofs.words.Words.load_cell.Goals as goal

pub cell_at-word-requires-clause-cell : goal.cell_at-word-requires-clause-cell
cell_at-word-requires-clause-cell g c = index_inside c.args.self.now.shape _ _ c.requires.cell c.args.self.now.shaped.2.0

pub load-requires : goal.load-requires
load-requires g c = let shaped = c.args.self.now.shaped in let n = position c.args.seat.now.me.0.reading in let word = c.cell_at-word.ensures n c.requires.cell in (
  search rules,
  cell_inside c.args.self.now.shape _ _ n c.args.self.now.shaped.1 word c.args.self.now.shaped.2.0,
  picks _ _ _ _ _ (search rules) (word ∙ (λ i. cell_word (sym shaped.0 i) n)) (search rules),
)
