-- Halves of the even numbers that a hot flow gives.
use Rattle.std.specs.Prelude.{◌≡◌, ◌==◌, ◌/◌, ◌%◌, ℕ, Bool, List, [], ◌∷◌, ◌++◌, filter, map, length}
use Rattle.shared_flow.specs.Parties.{Subscribed}
use Rattle.hot_sources.specs.Receiving.{Receives}

abbrev pub even : ℕ → Bool
even n = n % 2 == 0

abbrev pub half : ℕ → ℕ
half n = n / 2

-- The subscription received some numbers, and the halves of the even ones were added to a list: they are five.
abbrev pub TookFiveHalves : (ℕ → ℕ) → Subscribed ℕ → List ℕ → List ℕ → Subscribed ℕ → Type 0
TookFiveHalves read_as s before after t = (xs : List ℕ) × Receives read_as s xs t
    × (after ≡ before ++ map half (filter even xs)) × (length (map half (filter even xs)) ≡ 5)

-- The collector was given some numbers, and this is half of the only even one.
abbrev pub CollectedHalf : List ℕ → ℕ → List ℕ → Type 0
CollectedHalf before x after = (xs : List ℕ) × (after ≡ before ++ xs) × (map half (filter even xs) ≡ x ∷ [])
