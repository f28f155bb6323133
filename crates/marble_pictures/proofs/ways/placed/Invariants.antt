use Rattle.std.proofs.Common.{◌≡◌, map, take}
use Rattle.marble_pictures.proofs.ways.placed.Given as goal

abbrev pub invariant-loop-index : goal.invariant-loop-index
invariant-loop-index l = map (λ p. p.mark) l.placed.items ≡ take l.index l.marks
