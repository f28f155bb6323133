use Rattle.std.specs.Prelude.{Some, map}
use Rattle.shared_rounds.specs.declared.round.Round.TheVariants as round
use Rattle.shared_flow.proofs.emitter.Emitter.try_emit_all.Given as goal

abbrev pub ghosts-leave_block : goal.ghosts-leave_block
ghosts-leave_block g a = record { entry = Some (round.TryAll a.emitter (map g.T.Word.word a.values.now) a.answer) }
