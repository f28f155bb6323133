-- What became of each produced value, in the order of production.
use Rattle.std.specs.Prelude.{◌≡◌, ℕ, ◌+◌, ◌≤◌, Bool, true, false, cond, List, [], ◌∷◌, ◌++◌, map}
use Rattle.flow_buffer.specs.declared.side.Fate.{Fate}
use Rattle.flow_buffer.specs.declared.side.Fate.TheVariants.{Taken, Stored, Dropped}

abbrev pub is_taken : Fate → Bool
is_taken Taken = true
is_taken Stored = false
is_taken Dropped = false

abbrev pub is_stored : Fate → Bool
is_stored Taken = false
is_stored Stored = true
is_stored Dropped = false

abbrev pub is_dropped : Fate → Bool
is_dropped Taken = false
is_dropped Stored = false
is_dropped Dropped = true

module _ {T : Type 0} where
  -- the values whose fate passes the test, with their indexes; the first entry has the index n
  abbrev pub picked : (Fate → Bool) → ℕ → List (Fate × T) → List (ℕ × T)
  picked test n [] = []
  picked test n (e ∷ l) = cond (test e.0) ((n, e.1) ∷ picked test (n + 1) l) (picked test (n + 1) l)

  -- what the feed knows of the history: the values, and which of them were dropped
  abbrev pub marked : List (Fate × T) → List (Bool × T)
  marked = map (λ e. (is_dropped e.0, e.1))

  -- the indexes rise, from n on
  abbrev pub Rises : ℕ → List (ℕ × T) → Type 0
  Rises n [] = Unit {0}
  Rises n (e ∷ l) = (n ≤ e.0) × Rises (e.0 + 1) l

  -- every fate is decided: nothing is stored any more, the taken values are these, and unless values may be dropped none was
  abbrev pub IsDecided : Bool → List (ℕ × T) → List (Fate × T) → Type 0
  IsDecided lossy taken history = (picked is_stored 0 history ≡ []) × (picked is_taken 0 history ≡ taken)
      × (lossy ≡ false → picked is_dropped 0 history ≡ [])

  -- one value more was dropped, of those that were not
  abbrev pub DropsOne : List (Bool × T) → List (Bool × T) → Type 0
  DropsOne old new = (before : List (Bool × T)) × (x : T) × (after : List (Bool × T))
      × (old ≡ before ++ (false, x) ∷ after) × (new ≡ before ++ (true, x) ∷ after)
