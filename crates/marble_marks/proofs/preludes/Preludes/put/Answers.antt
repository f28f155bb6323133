use Rattle.std.proofs.Common.{bytes_eq}
use Rattle.marble_marks.proofs.Telling.{left_noted}
use Rattle.marble_marks.proofs.preludes.Preludes.put.Goals as goal

pub returns : goal.returns
returns c = λ other.
    left_noted (bytes_eq c.args.name.now other) _ _ c.args.count ((c.in_ok-insert.ensures.updates).0 (record { ref_ptr = (0, 0); now = other }))
