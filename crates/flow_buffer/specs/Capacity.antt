-- Which capacities a buffer may have.
use Rattle.std.specs.Prelude.{ℕ, ◌==◌, nat_lt, if◌then◌else◌, Option, Some, None, ◌≡◌, ◌⊎◌}
use Rattle.flow_terms.specs.declared.refusal.Refusal.{Refusal}
use Rattle.flow_terms.specs.declared.refusal.Refusal.TheVariants.{TooLarge, NotPositive, NoMemory}

-- why a buffer of that capacity is refused, if it is
abbrev pub refused_capacity : ℕ → Option Refusal
refused_capacity capacity = (if nat_lt 65536 capacity then Some TooLarge else (if capacity == 0 then Some NotPositive else None))

-- a buffer may have that capacity
abbrev pub IsCapacity : ℕ → Type 0
IsCapacity capacity = refused_capacity capacity ≡ None

-- a buffer of that capacity is refused, with that refusal
abbrev pub RefusesCapacity : ℕ → Refusal → Type 0
RefusesCapacity capacity refusal = refused_capacity capacity ≡ Some refusal

-- a capacity that a buffer may have was refused for want of memory alone
abbrev pub WasRefused : ℕ → Refusal → Type 0
WasRefused capacity refusal = RefusesCapacity capacity refusal ⊎ (IsCapacity capacity × (refusal ≡ NoMemory))
