use Rattle.std.proofs.Common.{◌≡◌, ◌++◌, map, drop}
use Rattle.std.specs.List.{filter_map}
use Rattle.marble_marks.specs.AnsweredLines.{asked_in}
use Rattle.marble_marks.specs.Marks.{name_of, names_in}
use Rattle.marble_marks.proofs.marking.names_in.Given as goal

abbrev pub invariant-loop-answered : goal.invariant-loop-answered
invariant-loop-answered l = map (λ name. name.now) l.names.items ++ filter_map name_of (map asked_in (drop l.answered-index l.answered_lines)) ≡ names_in (map asked_in l.answered_lines)
