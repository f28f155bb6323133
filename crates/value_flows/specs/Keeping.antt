-- The calls of an owner that keeps to its own place.
use Rattle.std.specs.Prelude.{◌≡◌, ℕ, ◌+◌, Option, Some, None, List, [], ◌∷◌}
use Rattle.value_flows.specs.declared.round.Round.{Round}
use Rattle.value_flows.specs.declared.round.Round.TheVariants as round

-- where an owner stands after a call: it is no subscription, or it has this place, and its next value has this number
abbrev pub standing : Option (ℕ × ℕ) → Round → Option (ℕ × ℕ)
standing at round.Look = at
standing at round.Emit = at
standing at (round.Begin place start) = Some (place, start)
standing at (round.Give place number) = Some (place, number + 1)
standing at (round.Miss place from count) = Some (place, from + count)
standing at (round.End place) = None
standing at round.Forget = at

-- who is no subscription begins one; and who is one moves no other place than its own, and goes on where it stands
abbrev pub Fits : Option (ℕ × ℕ) → Round → Type 0
Fits at round.Look = Unit {0}
Fits at round.Emit = Unit {0}
Fits at (round.Begin place start) = at ≡ None
Fits at (round.Give place number) = at ≡ Some (place, number)
Fits at (round.Miss place from count) = at ≡ Some (place, from)
Fits at (round.End place) = (next : ℕ) × (at ≡ Some (place, next))
Fits at round.Forget = Unit {0}

-- where an owner stands after its calls
abbrev pub stands : Option (ℕ × ℕ) → List Round → Option (ℕ × ℕ)
stands at [] = at
stands at (r ∷ calls) = stands (standing at r) calls

-- each of its calls was such a one
abbrev pub KeepsTo : Option (ℕ × ℕ) → List Round → Type 0
KeepsTo at [] = Unit {0}
KeepsTo at (r ∷ calls) = Fits at r × KeepsTo (standing at r) calls
