use Rattle.std.specs.Prelude.{Some}
use Rattle.shared_rounds.proofs.access.Access.leave.Given as goal

abbrev pub ghosts-leave_as : goal.ghosts-leave_as
ghosts-leave_as a = record { entry = Some a._shown.now }
