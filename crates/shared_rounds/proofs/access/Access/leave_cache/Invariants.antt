use Rattle.std.specs.Prelude.{Some, Ok}
use Rattle.shared_rounds.specs.declared.round.Round.TheVariants as round
use Rattle.shared_rounds.proofs.access.Access.leave_cache.Given as goal

abbrev pub ghosts-leave_as : goal.ghosts-leave_as
ghosts-leave_as a = record { entry = Some (round.Cache (Ok a.inside.shared.value.sequencer.cache)) }
