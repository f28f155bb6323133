use Rattle.std.specs.Prelude.{Some}
use Rattle.flow_buffer.proofs.steps.drop_latest.Given as goal

abbrev pub ghosts-note : goal.ghosts-note
ghosts-note g a = record { value = Some a.value }
