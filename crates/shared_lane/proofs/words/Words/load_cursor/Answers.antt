use Rattle.std.proofs.Common.{rules, subst, sym, ◌<◌}
use Rattle.shared_lane.specs.declared.view.Shape.{Shape}
use Rattle.shared_lane.proofs.Apart.{cursor_inside}
use Rattle.shared_lane.proofs.SequencerKept.{surveys}
use Rattle.shared_lane.proofs.words.Words.load_cursor.Goals as goal

pub load-requires : goal.load-requires
load-requires g c = let shaped = c.args.self.now.shaped in (
  search rules,
  cursor_inside c.args.self.now.shape _ _ c.args.place c.args.self.now.shaped.1 c.cursor_at.ensures c.requires.seat.2 c.args.self.now.shaped.2.0,
  surveys _ _ _ _ c.args.place _ c.cursor_at.ensures (search rules) (subst (λ (k : Shape). c.args.place < k.places) (sym shaped.0) c.requires.seat.2),
)

pub returns-clause-view : goal.returns-clause-view
returns-clause-view g c = c.load.ensures.2.1 c.args.place c.cursor_at.ensures
