use Rattle.std.proofs.Common.{bytes_eq}
use Rattle.marble_marks.proofs.Telling.{home_noted}
use Rattle.marble_marks.proofs.homes.Homes.put.Goals as goal

pub returns : goal.returns
returns c = λ other.
    home_noted (bytes_eq c.args.ticket.now other) _ _ c.args.host ((c.in_ok-insert.ensures.updates).0 (record { ref_ptr = (0, 0); now = other }))
