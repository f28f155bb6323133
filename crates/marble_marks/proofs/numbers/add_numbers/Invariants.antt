use Rattle.std.proofs.Common.{◌≡◌, ◌++◌, ℕ, List, map, drop, true}
use Rattle.std.specs.List.{flat_map}
use Rattle.marble_marks.specs.Deeds.{done_in}
use Rattle.marble_marks.specs.Marks.{mark_in}
use Rattle.marble_marks.specs.Numbers.{numbered_on}
use Rattle.marble_marks.specs.Moves.{has_row}
use Rattle.marble_marks.proofs.numbers.add_numbers.Given as goal

abbrev pub invariant-loop-name : goal.invariant-loop-name
invariant-loop-name l =
    let names = map (λ known. known.now) l.told.rows.now.names.now in
    let all = map done_in l.told.acts.now in
    let left = map (λ known. known.now) (drop l.name-index l.names) in
    record {
      added : map mark_in l.marks.items ++ flat_map (numbered_on names all) left ≡ map mark_in l.fn.marks.items ++ flat_map (numbered_on names all) names;
      rows : (name : List ℕ) → has_row left name ≡ true → has_row names name ≡ true;
    }
