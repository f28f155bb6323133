-- A call at one of many places, where it is one of a list.
use Rattle.std.proofs.Common.{◌≡◌, ℕ, true, false, ◌<◌, ◌≤◌, List, length, get_or, slice_get, Some, refl, sym, ap, ◌∙◌, arith}
use Rattle.std.proofs.lemmas.Option.{slice_get_past, slice_get-get_or}
use Rattle.script_engines.specs.Places.{AtPlace}

past_end : (index size : ℕ) → (index < size → false ≡ true) → size ≤ index
past_end index size none = grind arith

within : (index size count : ℕ) → size ≡ count → index < size → index < count
within index size count same small = omega arith

-- it was made at this place
pub at_place : {X R S : Type 0} (call : X → R → X → Type 0) (none reply : R) (items : List X) (index size : ℕ) (now left : X) (put : X → S) (old : S)
    → size ≡ length items → (true ≡ true → index < size) → now ≡ get_or items index now → call now reply left
    → AtPlace call none (slice_get items index) put old reply (put left)
at_place call none reply items index size now left put old same small is made =
    rw (slice_get-get_or items index now (within index size (length items) same (small refl)) ∙ ap (λ o. Some o) (sym is)) (left, made, refl)

-- there is no such place
pub at_none : {X R S : Type 0} (call : X → R → X → Type 0) (none : R) (items : List X) (index size : ℕ) (put : X → S) (old : S)
    → size ≡ length items → (index < size → false ≡ true) → AtPlace call none (slice_get items index) put old none old
at_none call none items index size put old same past =
    let end : size ≤ index = past_end index size past in
    rw (slice_get_past items index (omega arith)) (refl, refl)
