use Rattle.std.proofs.Common.{rules, refl, subst, sym, ap, ◌∙◌, ◌<◌, ◌+◌}
use Rattle.shared_lane.specs.declared.view.Shape.{Shape}
use Rattle.shared_lane.proofs.Apart.{cursor_inside}
use Rattle.shared_lane.proofs.SequencerKept.{drops}
use Rattle.shared_lane.proofs.words.Words.lose.Goals as goal

pub compare_exchange-requires : goal.compare_exchange-requires
compare_exchange-requires g c = let shaped = c.args.self.now.shaped in let full = c.requires.full in (
  search rules,
  cursor_inside c.args.self.now.shape _ _ c.args.place c.args.self.now.shaped.1 c.cursor_at.ensures c.requires.seat.2 c.args.self.now.shaped.2.0,
  drops _ _ _ _ c.args.place _ _ _ c.cursor_at.ensures (search rules) (subst (λ (k : Shape). c.args.place < k.places) (sym shaped.0) c.requires.seat.2) (ap (λ (k : Shape). k.drops) shaped.0 ∙ full.0) refl (ap (λ (k : Shape). c.args.at + k.cells) shaped.0 ∙ full.1),
)

pub returns-clause-view : goal.returns-clause-view
returns-clause-view g c = c.compare_exchange.ensures.2.1 c.args.place c.cursor_at.ensures
