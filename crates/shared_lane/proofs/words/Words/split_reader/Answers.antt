use Rattle.std.proofs.Common.{rules, subst, sym, ◌<◌, ◌≡◌, ℕ, true}
use Rattle.shared_lane.specs.declared.view.Shape.{Shape}
use Rattle.shared_lane.specs.Steps.{known_of}
use Rattle.shared_lane.proofs.SeatsKept.{hands_out}
use Rattle.shared_lane.proofs.words.Words.split_reader.Goals as goal

pub split_seat-requires : goal.split_seat-requires
split_seat-requires g c = let shaped = c.args.self.now.shaped in let at = sym c.requires.told in let q = c.args.seat.now.me.0.sequencing in (
  search rules,
  search rules,
  hands_out _ _ _ _ (search rules) (subst (λ (z : ℕ). z < c.args.self.now.table.shared.key.places) at (subst (λ (k : Shape). c.args.place < k.places) (sym shaped.0) c.requires.seat.2))
      (subst (λ (z : ℕ). (known_of q z).is_open ≡ true) at c.requires.opened.0) (subst (λ (z : ℕ). (known_of q z).unread ≡ true) at c.requires.opened.1),
)
