-- What each end answers.
use Rattle.std.specs.Prelude.{◌≡◌, ℕ, ◌+◌, ◌%◌, ◌^◌, Bool, true, false, not, List, [], ◌∷◌, Option, Some, None, Result, Ok, if◌then◌else◌, refl}
use Rattle.cold_flow.specs.declared.cause.Cause.{Cause}
use Rattle.cold_flow.specs.Trace.{Trace}
use Rattle.more_operators.specs.declared.ends.any.Seeking.{Seeking}
use Rattle.more_operators.specs.declared.ends.count.Counting.{Counting}
use Rattle.more_operators.specs.declared.ends.last.Latest.{Latest}
use Rattle.more_operators.specs.declared.ends.reduce.Joining.{Joining}
use Rattle.more_operators.specs.declared.ends.single.Lone.{Lone}
use Rattle.more_operators.specs.declared.ends.single.Only.{Only}
use Rattle.more_operators.specs.declared.ends.single.Only.TheVariants.{Nothing, One, Several}
use Rattle.more_operators.specs.Decided.{closed_by, decided_or, decided}
use Rattle.more_operators.specs.Reduce.{next_state}

-- ---- of all values: the answer of f, where the run has finished, and else the cause

abbrev pub at_end : {A B E : Type 0} → (List A → B) → Trace A E → Option (Result B (Cause E))
at_end f (xs, None) = None
at_end f (xs, Some k) = Some (closed_by (f xs) k)

-- n and one more for each value, modulo 2^64
abbrev pub counted_from : {A : Type 0} → ℕ → List A → ℕ
counted_from n [] = n
counted_from n (x ∷ xs) = counted_from ((n + 1) % 2 ^ 64) xs

-- what g makes of the state and of all values, one after another
abbrev pub reduced_to : {A : Type 0} → (A × A → A) → Option A → List A → Option A
reduced_to g state [] = state
reduced_to g state (x ∷ xs) = reduced_to g (Some (next_state g state x)) xs

-- the last value, if there is one
abbrev pub last_after : {A : Type 0} → Option A → List A → Option A
last_after last [] = last
last_after last (x ∷ xs) = last_after (Some x) xs

-- ---- with the value that settles it

-- the one value, where there is one alone
abbrev pub single_of : {A E : Type 0} → Trace A E → Option (Result (Only A) (Cause E))
single_of {A} ([], end) = at_end {A = A} (λ xs. Nothing) ([], end)
single_of {A} (x ∷ [], end) = at_end {A = A} (λ xs. One x) (x ∷ [], end)
single_of (x ∷ y ∷ xs, end) = Some (Ok Several)

-- what a second value settles, and the answer where no more come
abbrev pub settles_lone : {A : Type 0} → Option A → Option (Only A)
settles_lone None = None
settles_lone (Some before) = Some Several

abbrev pub lone_of : {A : Type 0} → Option A → Only A
lone_of None = Nothing
lone_of (Some x) = One x

-- whether this answer of a test is the one that is sought
abbrev pub is_sought : Bool → Bool → Bool
is_sought true found = found
is_sought false found = not found

-- the answer with the first value that passes, and the other one where none does
abbrev pub settled_by : {A E : Type 0} → (A → Bool) → Bool → List A → Option (Cause E) → Option (Result Bool (Cause E))
settled_by {A} passes answer [] end = at_end {A = A} (λ xs. not answer) ([], end)
settled_by passes answer (x ∷ xs) end = if passes x then Some (Ok answer) else settled_by passes answer xs end

abbrev pub any_of : {A E : Type 0} → (A → Bool) → Trace A E → Option (Result Bool (Cause E))
any_of passes t = settled_by passes true t.0 t.1

abbrev pub all_of : {A E : Type 0} → (A → Bool) → Trace A E → Option (Result Bool (Cause E))
all_of passes t = settled_by (λ x. not (passes x)) false t.0 t.1

abbrev pub none_of : {A E : Type 0} → (A → Bool) → Trace A E → Option (Result Bool (Cause E))
none_of passes t = settled_by passes false t.0 t.1
