-- A list cut into pieces, and what `chunked` makes of a source.
use Rattle.std.specs.Prelude.{ℕ, zero, suc, ◌==◌, List, [], ◌∷◌, length, take, drop, filter, Option, Some, None}
use Rattle.cold_flow.specs.declared.cause.Cause.{Cause}
use Rattle.cold_flow.specs.declared.cause.Cause.TheVariants.{Finished, Failed, Cancelled, Refused}
use Rattle.cold_flow.specs.Trace.{Trace}

-- the first n values, then the n after these, and so on while values are left; no more pieces than most
abbrev pub pieces : {A : Type 0} → ℕ → ℕ → List A → List (List A)
pieces zero n xs = []
pieces (suc most) n [] = []
pieces (suc most) n (x ∷ xs) = take n (x ∷ xs) ∷ pieces most n (drop n (x ∷ xs))

-- the list cut into pieces of n values, of which the last may be shorter
abbrev pub cut : {A : Type 0} → ℕ → List A → List (List A)
cut n xs = pieces (length xs) n xs

-- those of them that have n values
abbrev pub full_pieces : {A : Type 0} → ℕ → List A → List (List A)
full_pieces n xs = filter (λ piece. length piece == n) (cut n xs)

-- the shorter one is given where the source has finished, and is lost where it ended otherwise
abbrev pub chunks_by : {A E : Type 0} → ℕ → List A → Option (Cause E) → List (List A)
chunks_by n xs None = full_pieces n xs
chunks_by n xs (Some Finished) = cut n xs
chunks_by n xs (Some (Failed e)) = full_pieces n xs
chunks_by n xs (Some Cancelled) = full_pieces n xs
chunks_by n xs (Some (Refused r)) = full_pieces n xs

abbrev pub chunked_trace : {A E : Type 0} → ℕ → Trace A E → Trace (List A) E
chunked_trace n t = (chunks_by n t.0 t.1, t.1)
