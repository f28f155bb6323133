-- READ THIS FIRST: all the marks of a picture.
use Rattle.std.specs.Prelude.{◌≡◌, List, ◌++◌}
use Rattle.marble_marks.specs.declared.loss.Loss.{Loss}
use Rattle.marble_marks.specs.AnsweredLines.{Asked}
use Rattle.marble_marks.specs.Marks.{Seen, marks_of}
use Rattle.marble_marks.specs.Numbers.{numbers_of}
use Rattle.marble_marks.specs.Losses.{losses_of}

-- THE MARKS OF A PICTURE of these lines: what each line shows by its own answer; the numbers of emissions, and where one
-- that had to wait was accepted; and values that made way, each by lines that it comes from.
abbrev pub Shows : List Asked → List Seen → Type 0
Shows asked marks = (losses : List Loss) × (marks ≡ (marks_of asked ++ numbers_of asked) ++ losses_of asked losses)
