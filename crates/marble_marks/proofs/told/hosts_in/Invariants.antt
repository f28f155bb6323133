use Rattle.std.proofs.Common.{◌≡◌, ℕ, List, map, drop}
use Rattle.marble_marks.specs.Deeds.{done_in}
use Rattle.marble_marks.specs.Firsts.{noted_of, or_later}
use Rattle.marble_marks.specs.Moves.{host_row}
use Rattle.marble_marks.proofs.told.hosts_in.Given as goal

abbrev pub invariant-loop-act : goal.invariant-loop-act
invariant-loop-act l =
    let names = map (λ known. known.now) l.rows.names.now in
    (guest : List ℕ) → or_later (noted_of l.hosts guest) (host_row names guest (map done_in (drop l.act-index l.acts))) ≡ host_row names guest (map done_in l.acts)
