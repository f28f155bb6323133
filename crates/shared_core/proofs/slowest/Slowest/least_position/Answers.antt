use Rattle.std.proofs.Common.{arith}
use Rattle.shared_core.proofs.Behind.{all_from}
use Rattle.shared_core.proofs.slowest.Slowest.least_position.Goals as goal
use Rattle.shared_core.proofs.slowest.Slowest.least_position.Goals.{then-noted-number-via-then-noted-number, then-noted-number-via-else-noted-number+then-least-number}

pub returns-then-noted-number-clause-from : goal.returns-then-noted-number-clause-from
returns-then-noted-number-clause-from c =
    all_from c.args.places.now c.args.self.now.noted c.least_noted-noted.result c.args.self.now.others c.min-least.result c.least_noted-noted.ensures.from c.requires.known
    (omega (arith, c.min-least.ensures)) (omega (arith, c.min-least.ensures))

pub returns-then-noted-number-clause-reached : goal.returns-then-noted-number-clause-reached
returns-then-noted-number-clause-reached c past =
    let reached = c.least_noted-noted.ensures.reached c.args.number c.requires.below past in
    elim c.then-noted-number.branch [
      | then-noted-number-via-then-noted-number w ↦ absurd (omega (arith, reached, w.if-noted-number.true))
      | then-noted-number-via-else-noted-number+then-least-number w ↦ w.if-least-number.true
    ]

pub returns-clause-from : goal.returns-clause-from
returns-clause-from c =
    all_from c.args.places.now c.of.result.noted c.least_noted.result c.of.result.others c.min.result c.least_noted.ensures.from c.of.ensures.from
    (omega (arith, c.min.ensures)) (omega (arith, c.min.ensures))

pub returns-clause-reached : goal.returns-clause-reached
returns-clause-reached c past =
    let noted = c.least_noted.ensures.reached c.args.number c.requires.below past in
    let others = c.of.ensures.reached c.args.number c.requires.below past in
    omega (arith, noted, others, c.min.ensures)
