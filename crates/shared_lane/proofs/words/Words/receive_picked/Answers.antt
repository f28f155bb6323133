use Rattle.std.proofs.Common.{rules, ℕ, ◌+◌, sym, ap, ◌∙◌}
use Rattle.shared_lane.specs.Layout.{cursor_word}
use Rattle.shared_lane.proofs.Apart.{cursor_inside}
use Rattle.shared_lane.proofs.ReaderKept.{takes_picked}
use Rattle.shared_lane.proofs.words.Words.receive_picked.Goals as goal

pub compare_exchange-requires : goal.compare_exchange-requires
compare_exchange-requires g c = (
  search rules,
  cursor_inside c.args.self.now.shape _ _ c.args.place c.args.self.now.shaped.1 c.cursor_at.ensures c.requires.seat.3 c.args.self.now.shaped.2.0,
  takes_picked _ _ _ _ _ _ _ (search rules) (c.cursor_at.ensures ∙ ap (λ (z : ℕ). cursor_word z) (sym c.requires.seat.2)) c.requires.position.0 (ap (λ (z : ℕ). c.args.at + z) (sym c.requires.picked)) c.requires.position.1,
)
