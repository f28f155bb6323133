-- Lists whose numbers rise, as those of subscriptions and of tickets do.
use Rattle.std.specs.Prelude.{◌≡◌, ℕ, ◌<◌, ◌≤◌, List, Some, slice_get}

-- each number is below those after it
abbrev pub Rises : {X : Type 0} → (X → ℕ) → List X → Type 0
Rises {X} number xs = (i j : ℕ) (x y : X) → i < j → slice_get xs i ≡ Some x → slice_get xs j ≡ Some y → number x < number y

-- what has the number n stands nowhere but from one index on, before another
abbrev pub StandsWithin : {X : Type 0} → (X → ℕ) → ℕ → List X → ℕ → ℕ → Type 0
StandsWithin {X} number n xs from end = (k : ℕ) (x : X) → slice_get xs k ≡ Some x → number x ≡ n → (from ≤ k) × (k < end)
