use Rattle.std.proofs.Common.{◌≡◌, take}
use Rattle.marble_pictures.specs.Symbols.{escaped}
use Rattle.marble_pictures.proofs.symbol.plain_front.Given as goal

abbrev pub invariant-loop-index : goal.invariant-loop-index
invariant-loop-index l = escaped (take l.index l.bytes) ≡ take l.index l.bytes
