use Rattle.std.proofs.Common.{◌≡◌, ◌+◌, ℕ, List, map, drop}
use Rattle.std.specs.Prelude.{unwrap_or}
use Rattle.marble_marks.specs.Firsts.{noted_of}
use Rattle.marble_marks.specs.Marks.{row_after, row_of}
use Rattle.marble_marks.proofs.rows.Rows.of.Given as goal

abbrev pub invariant-loop-name : goal.invariant-loop-name
invariant-loop-name l = record {
  each : (name : List ℕ) → unwrap_or (noted_of l.found name) (row_after l.row (map (λ known. known.now) (drop l.name-index l.names)) name) ≡ row_of (map (λ known. known.now) l.names) name;
  passed : l.row ≡ l.name-index + 1;
}
