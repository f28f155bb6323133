use Rattle.std.proofs.Common.{arith, ap, sym, ◌∙◌, subst}
use Rattle.atomic_table.specs.Table.{Joins}
use Rattle.round_lock.specs.History.{taking, spent}
use Rattle.round_lock.specs.Law.{OneLock, carried}
use Rattle.round_lock.proofs.Locks.{absorbs}
use Rattle.round_lock.proofs.lock.absorb.Goals as goal

pub join_seat-requires : goal.join_seat-requires
join_seat-requires g c = let at = c.requires.at in let there = c.requires.there in let seat = c.args.seat.now in let other = c.args.other in (
  at.same,
  there.same,
  there.carries ∙ ap carried c.requires.free,
  omega (arith, at.words),
  subst (λ n. Joins (OneLock g.S.Called.first g.S.Called.step) seat.id seat.me.0 other.id other.me.0 (taking n seat.me.0 other.me.0) spent) (sym c.requires.number)
      (absorbs g.S.Called.first g.S.Called.step seat.id other.id seat.me.0 other.me.0 at.begun there.begun),
)
