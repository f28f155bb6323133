use Rattle.std.proofs.Common.{rules, ℕ, subst, sym, ◌<◌, ◌≤◌, ◌+◌}
use Rattle.shared_lane.specs.declared.view.Shape.{Shape}
use Rattle.shared_lane.specs.Steps.{known_of, next_number, Opened}
use Rattle.shared_lane.proofs.Apart.{cursor_inside}
use Rattle.shared_lane.proofs.SequencerKept.{opens}
use Rattle.shared_lane.proofs.words.Words.open_as.Goals as goal

pub store-requires : goal.store-requires
store-requires g c = let shaped = c.args.self.now.shaped in let start = c.requires.start in (
  search rules,
  cursor_inside c.args.self.now.shape _ _ c.args.place c.args.self.now.shaped.1 c.cursor_at.ensures c.requires.seat.2 c.args.self.now.shaped.2.0,
  opens _ _ _ _ c.args.place _ _ _ c.cursor_at.ensures (search rules) (subst (λ (k : Shape). c.args.place < k.places) (sym shaped.0) c.requires.seat.2) c.requires.closed.0 (subst (λ (z : ℕ). (known_of c.args.seat.now.me.0.sequencing c.args.place).opening < z) (sym c.requires.told) c.requires.later) c.requires.closed.1 (subst (λ (k : Shape). k.first ≤ c.args.start) (sym shaped.0) start.0) start.1
      (subst (λ (k : Shape). next_number c.args.seat.now.me.0 ≤ c.args.start + k.cells) (sym shaped.0) start.2),
)

pub returns-clause-view : goal.returns-clause-view
returns-clause-view g c = subst (λ (z : ℕ). Opened c.args.place c.args.start z c.args.seat.now.me.0 c.store.new.seat.me.0) c.requires.told (c.store.ensures.2.1 c.args.place c.cursor_at.ensures)
