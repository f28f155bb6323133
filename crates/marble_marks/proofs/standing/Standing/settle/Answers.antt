use Rattle.std.proofs.Common.{rules, ◌≡◌, length, arith}
use Rattle.marble_marks.specs.Standings.{stand_in}
use Rattle.marble_marks.proofs.Seats.{as_it_stood}
use Rattle.marble_marks.proofs.standing.Standing.settle.Goals as goal

pub returns-then-is_empty-clause-settled : goal.returns-then-is_empty-clause-settled
returns-then-is_empty-clause-settled c = as_it_stood (stand_in c.args.self.now) (search rules)
