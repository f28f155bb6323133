use Rattle.std.proofs.Common.{refl, map}
use Rattle.shared_rounds.specs.declared.round.Round.TheVariants as round
use Rattle.shared_rounds.proofs.access.Access.leave_block.Goals as goal

pub returns : goal.returns
returns g c = record { left = c.leave_as.ensures.left (round.TryAll c.args.emitter (map g.T.Word.word c.args.values.now) c.args.answer) c.requires.picked }

pub leave_as-requires : goal.leave_as-requires
leave_as-requires g c = record { round = (round.TryAll c.args.emitter (map g.T.Word.word c.args.values.now) c.args.answer, c.requires.picked, refl, refl, c.requires.round) }
