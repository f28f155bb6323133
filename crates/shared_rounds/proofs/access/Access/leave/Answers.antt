use Rattle.std.proofs.Common.{refl}
use Rattle.shared_rounds.proofs.access.Access.leave.Goals as goal

pub returns : goal.returns
returns c = record { left = c.leave_as.ensures.left c.args.round refl }

pub leave_as-requires : goal.leave_as-requires
leave_as-requires c = record { round = (c.args.round, refl, c.ended_by-ended.ensures, c.taken_by-taken.ensures, c.requires.round) }
