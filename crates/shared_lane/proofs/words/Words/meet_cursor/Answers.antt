use Rattle.std.proofs.Common.{rules, ℕ, sym, ap, ◌∙◌}
use Rattle.shared_lane.specs.Layout.{cursor_word}
use Rattle.shared_lane.proofs.Apart.{cursor_inside}
use Rattle.shared_lane.proofs.SeatsKept.{meets}
use Rattle.shared_lane.proofs.words.Words.meet_cursor.Goals as goal

pub load-requires : goal.load-requires
load-requires g c = (search rules, cursor_inside c.args.self.now.shape _ _ c.args.place c.args.self.now.shaped.1 c.cursor_at.ensures c.requires.seat.4 c.args.self.now.shaped.2.0, meets _ _ _ _ _ (search rules) (search rules) (c.cursor_at.ensures ∙ ap (λ (z : ℕ). cursor_word z) (sym c.requires.seat.3)))
