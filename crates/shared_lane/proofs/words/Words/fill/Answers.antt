use Rattle.std.proofs.Common.{rules, sym, subst, ◌∙◌}
use Rattle.shared_lane.specs.declared.view.Shape.{Shape}
use Rattle.shared_lane.specs.Layout.{cell_word}
use Rattle.shared_lane.specs.Steps.{IsRoomy, next_number}
use Rattle.shared_lane.proofs.Apart.{index_inside, cell_inside}
use Rattle.shared_lane.proofs.SequencerKept.{fills}
use Rattle.shared_lane.proofs.words.Words.fill.Goals as goal

pub cell_at-at-requires-clause-cell : goal.cell_at-at-requires-clause-cell
cell_at-at-requires-clause-cell g c = index_inside c.args.self.now.shape _ _ c.requires.cell c.args.self.now.shaped.2.0

pub store-requires : goal.store-requires
store-requires g c = let shaped = c.args.self.now.shaped in let n = next_number c.args.seat.now.me.0 in let word = c.cell_at-at.ensures n c.requires.cell in (
  search rules,
  cell_inside c.args.self.now.shape _ _ n c.args.self.now.shaped.1 word c.args.self.now.shaped.2.0,
  fills _ _ _ _ _ _ _ (search rules) (word ∙ (λ i. cell_word (sym shaped.0 i) n)) (subst (λ (k : Shape). IsRoomy k.cells c.args.seat.now.me.0) (sym shaped.0) c.requires.room),
)
