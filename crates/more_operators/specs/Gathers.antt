-- What `chunked` keeps between its chunks, and what it makes of each value.
use Rattle.std.specs.Prelude.{◌≢◌, ℕ, ◌+◌, ◌-◌, ◌<◌, ◌≤◌, ◌==◌, ◌&&◌, Bool, nat_lt, nat_le, List, [], ◌∷◌, ◌++◌, length, Option, Some, None, if◌then◌else◌}
use Rattle.flow_terms.specs.declared.few.Few.{Few}
use Rattle.flow_terms.specs.declared.few.Few.TheVariants.{Zero, One}
use Rattle.more_operators.specs.declared.operators.onward.Onward.{Onward}
use Rattle.more_operators.specs.declared.operators.onward.Onward.TheVariants.{More}

-- how many values a chunk has, and those that came since the last one
pub record Gathers (A : Type 0) : Type 0 where
  pub size : ℕ
  pub gathered : Option (List A)

abbrev pub values_in : {A : Type 0} → Option (List A) → List A
values_in None = []
values_in (Some xs) = xs

-- fewer than a chunk has, and none or some
abbrev pub IsGathering : {A : Type 0} → ℕ → Option (List A) → Type 0
IsGathering size gathered = (size ≤ 16) × (length (values_in gathered) < size) × (gathered ≢ Some [])

module _ {A : Type 0} where
  -- with this value
  abbrev pub joined_by : Gathers A → A → List A
  joined_by g x = values_in g.gathered ++ x ∷ []

  -- they are given when there are as many as a chunk has
  abbrev pub given_for : Gathers A → A → Onward (List A)
  given_for g x = if length (joined_by g x) == g.size then More (One (joined_by g x)) else More Zero

  abbrev pub gathered_after : Gathers A → A → Gathers A
  gathered_after g x = record {
    size = g.size;
    gathered = if length (joined_by g x) == g.size then None else Some (joined_by g x);
  }

  -- what is given where the source has finished
  abbrev pub few_of : Option (List A) → Few (List A)
  few_of None = Zero
  few_of (Some xs) = One xs

  abbrev pub given_last : Gathers A → Few (List A)
  given_last g = few_of g.gathered

  -- there is room for one more value at least, and a chunk is short enough
  abbrev pub is_gathering : Gathers A → Bool
  is_gathering g = nat_lt (length (values_in g.gathered)) g.size && nat_le g.size 16

  -- at most so many more values give nothing
  abbrev pub silent_for : Gathers A → ℕ
  silent_for g = g.size - (length (values_in g.gathered) + 1)
