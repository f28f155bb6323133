use Rattle.std.proofs.Common.{◌+◌, ◌<◌, length, subst, sym, ap, arith}
use Rattle.shared_core.specs.Places.{OthersFrom}
use Rattle.shared_core.specs.declared.slowest.Slowest.{Slowest}
use Rattle.shared_core.proofs.Behind.{taken_from, left_from, read_from}
use Rattle.shared_core.proofs.slowest.Slowest.note.Goals as goal
use Rattle.shared_core.proofs.slowest.Slowest.note.Goals.{then-position-ahead, else-position-ahead}

pub returns-clause-from : goal.returns-clause-from
returns-clause-from c known =
    let places = c.args.places.now in
    let noted = c.args.self.now.noted in
    let at = c.args.at in
    let least = c.min-self.result in
    let inside : c.furthest_ahead-furthest.result < length noted = omega (arith, c.furthest_ahead-furthest.ensures) in
    elim c.if-position-ahead.branch [
      | then-position-ahead w ↦
          let others = ap (λ (s : Slowest). s.others) w.self-is in
          subst (λ (s : Slowest). OthersFrom (at + 1) s.noted least places) (sym w.self-is)
          (taken_from places noted at c.args.self.now.others least (omega (arith, c.min-self.ensures, others)) known
          c.furthest_ahead-furthest.result c.position_at-ahead.result inside
          (omega (arith, c.min-self.ensures, c.max.ensures, w.if-position-ahead.true))
          (read_from places noted c.furthest_ahead-furthest.result c.position_at-ahead.result c.position_at-ahead.ensures.from))
      | else-position-ahead w ↦
          let others = ap (λ (s : Slowest). s.others) w.self-is in
          subst (λ (s : Slowest). OthersFrom (at + 1) s.noted least places) (sym w.self-is)
          (left_from places noted at c.args.self.now.others least (omega (arith, c.min-self.ensures, others)) known
          (λ p gets. let this = c.position_at-position.ensures.from p gets in omega (arith, this, c.min-self.ensures, c.max.ensures, w.if-position-ahead.false)))
    ]
