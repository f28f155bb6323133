use Rattle.std.proofs.Common.{◌≡◌, ◌++◌, map, drop}
use Rattle.marble_marks.specs.AnsweredLines.{asked_in}
use Rattle.marble_marks.specs.Homes.{home_of}
use Rattle.marble_marks.specs.Preludes.{left_of}
use Rattle.marble_marks.specs.Marks.{mark_in, marks_from, marks_on}
use Rattle.marble_marks.proofs.marking.marks_in.Given as goal

abbrev pub invariant-loop-answered : goal.invariant-loop-answered
invariant-loop-answered l =
    let names = map (λ name. name.now) l.rows.names.now in
    map mark_in l.marks.items ++ marks_from names (home_of l.homes) (left_of l.preludes) (map asked_in (drop l.answered-index l.answered_lines))
    ≡ marks_on names (map asked_in l.answered_lines)
