use Rattle.std.proofs.Common.{◌≡◌, ◌≤◌, ◌+◌, ◌++◌, ℕ, List, map, drop, length, true}
use Rattle.marble_marks.specs.Deeds.{done_in}
use Rattle.marble_marks.specs.Waiting.{is_waiting}
use Rattle.marble_marks.specs.Moves.{on_row, moves_on}
use Rattle.marble_marks.proofs.moves.moves_by_row.Given as goal

abbrev pub invariant-loop-act : goal.invariant-loop-act
invariant-loop-act l =
    let names = map (λ known. known.now) l.told.rows.now.names.now in
    let all = map done_in l.told.acts.now in
    let left = map done_in (drop l.act-index l.all) in
    record {
      rows : length l.by_row.items ≡ length l.told.rows.now.names.now + 1;
      put : (row : ℕ) → row ≤ length l.told.rows.now.names.now → on_row l.by_row.items row ++ moves_on names all row left ≡ moves_on names all row all;
      met : (ticket : List ℕ) → is_waiting ticket left ≡ true → is_waiting ticket all ≡ true;
    }
