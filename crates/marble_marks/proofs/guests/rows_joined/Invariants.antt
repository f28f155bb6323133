use Rattle.std.proofs.Common.{◌≡◌, ◌++◌, map, drop}
use Rattle.marble_marks.specs.Deeds.{done_in}
use Rattle.marble_marks.specs.Guests.{row_of_guest}
use Rattle.marble_marks.proofs.guests.rows_joined.Given as goal

abbrev pub invariant-loop-act : goal.invariant-loop-act
invariant-loop-act l =
    let row = row_of_guest (map (λ known. known.now) l.rows.names.now) in
    l.found.items ++ map row (map done_in (drop l.act-index l.acts)) ≡ map row (map done_in l.acts)
