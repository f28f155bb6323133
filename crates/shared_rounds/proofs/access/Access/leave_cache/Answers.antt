use Rattle.std.proofs.Common.{Ok, refl}
use Rattle.shared_rounds.specs.declared.round.Round.TheVariants as round
use Rattle.shared_rounds.proofs.access.Access.leave_cache.Goals as goal

pub returns : goal.returns
returns c = record { left = c.leave_as.ensures.left (round.Cache (Ok c.args.inside.shared.value.sequencer.cache)) refl }

pub leave_as-requires : goal.leave_as-requires
leave_as-requires c = record { round = (round.Cache (Ok c.args.inside.shared.value.sequencer.cache), refl, refl, refl, c.requires.round) }
