use Rattle.std.proofs.Common.{rules, ◌<◌, length, sym, subst, ◌∙◌}
use Rattle.shared_lane.specs.declared.view.Shape.{Shape}
use Rattle.shared_lane.specs.Layout.{cell_word}
use Rattle.shared_lane.specs.Steps.{IsRoomyAt, next_to_store}
use Rattle.shared_lane.proofs.Apart.{index_inside, cell_inside}
use Rattle.shared_lane.proofs.SequencerKept.{fills_next}
use Rattle.shared_lane.proofs.words.Words.fill_next.Goals as goal

pub cell_at-at-requires-clause-cell : goal.cell_at-at-requires-clause-cell
cell_at-at-requires-clause-cell g c = index_inside c.args.self.now.shape _ _ c.requires.cell c.args.self.now.shaped.2.0

pub store-requires : goal.store-requires
store-requires g c = let shaped = c.args.self.now.shaped in let v = c.args.seat.now.me.0 in let n = next_to_store v in let word = c.cell_at-at.ensures n c.requires.cell in (
  search rules,
  cell_inside c.args.self.now.shape _ _ n c.args.self.now.shaped.1 word c.args.self.now.shaped.2.0,
  fills_next _ _ _ _ _ _ _ (search rules) (word ∙ (λ i. cell_word (sym shaped.0 i) n)) (subst (λ (k : Shape). length v.sequencing.flight < k.cells) (sym shaped.0) c.requires.short)
      (subst (λ (k : Shape). IsRoomyAt k.cells n v) (sym shaped.0) c.requires.room),
)
