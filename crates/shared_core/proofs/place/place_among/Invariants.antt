use Rattle.std.proofs.Common.{◌+◌, ◌≤◌, length}
use Rattle.shared_core.specs.Rising.{Rises, StandsWithin}
use Rattle.shared_core.specs.declared.place.Place.{Place}
use Rattle.shared_core.proofs.place.place_among.Given as goal

abbrev pub invariant-loop-size : goal.invariant-loop-size
invariant-loop-size l = record {
  inside : l.base + l.size ≤ length l.places;
  within : Rises (λ (p : Place). p.number) l.places → StandsWithin (λ p. p.number) l.number l.places l.from (l.from + l.count)
      → StandsWithin (λ p. p.number) l.number l.places l.base (l.base + l.size);
}

abbrev pub decreases-loop-size : goal.decreases-loop-size
decreases-loop-size l = l.size
