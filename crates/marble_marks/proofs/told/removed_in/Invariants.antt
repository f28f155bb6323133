use Rattle.std.proofs.Common.{◌≡◌, ℕ, List, map, drop, true, if◌then◌else◌}
use Rattle.std.specs.Prelude.{is_some}
use Rattle.marble_marks.specs.Deeds.{done_in}
use Rattle.marble_marks.specs.Waiting.{is_removed}
use Rattle.marble_marks.specs.Firsts.{noted_of}
use Rattle.marble_marks.proofs.told.removed_in.Given as goal

abbrev pub invariant-loop-act : goal.invariant-loop-act
invariant-loop-act l = (ticket : List ℕ) → is_some (noted_of l.waiting ticket) ≡ true → (if is_some (noted_of l.removed ticket) then true else is_removed ticket (map done_in (drop l.act-index l.acts))) ≡ is_removed ticket (map done_in l.acts)
