-- Lists in which one more stands at some place.
use Rattle.std.specs.Prelude.{◌≡◌, ℕ, ◌⊎◌, List, [], ◌∷◌, ◌++◌, Some, refl, length, slice_get, slice_set}
use Rattle.std.proofs.Common.{zero, suc, ap, inl, inr}
use Rattle.std.specs.List.{remove}

-- the second list is the first one, in which x stands somewhere, too
pub data Placed {X : Type 0} (x : X) : List X → List X → Type 0 where
  here : {xs : List X} → Placed x xs (x ∷ xs)
  behind : {y : X} {xs ys : List X} → Placed x xs ys → Placed x (y ∷ xs) (y ∷ ys)

-- x is the one at this index
pub record Itself {X : Type 0} (x : X) (xs ys : List X) (at : ℕ) : Type 0 where
  pub is : slice_get ys at ≡ Some x
  pub left : remove ys at ≡ xs
  pub changed : (z : X) → Placed z xs (slice_set ys at z)

-- y is at index alone of xs, and at index at of ys
pub record Other {X : Type 0} (x : X) (xs ys : List X) (alone at : ℕ) (y : X) : Type 0 where
  pub was : slice_get xs alone ≡ Some y
  pub is : slice_get ys at ≡ Some y
  pub left : Placed x (remove xs alone) (remove ys at)
  pub changed : (z : X) → Placed x (slice_set xs alone z) (slice_set ys at z)

module _ {X : Type 0} where
  pub itself : {x : X} {xs ys : List X} → Placed x xs ys → (at : ℕ) × Itself x xs ys at
  itself here = (zero, record { is = refl; left = refl; changed = λ z. here })
  itself (behind {y = y} p) =
      let found = itself p in (
        suc found.0,
        record { is = found.1.is; left = ap (λ (zs : List X). y ∷ zs) found.1.left; changed = λ z. behind (found.1.changed z) },
      )

  -- who stands in the first list stands in the second
  pub among : {x : X} {xs ys : List X} → Placed x xs ys → (alone : ℕ) (y : X) → slice_get xs alone ≡ Some y → (at : ℕ) × Other x xs ys alone at y
  among here alone y was = (suc alone, record { was = was; is = was; left = here; changed = λ z. here })
  among (behind p) zero y was = (zero, record { was = was; is = was; left = p; changed = λ z. behind p })
  among (behind p) (suc alone) y was =
      let found = among p alone y was in (
        suc found.0,
        record { was = was; is = found.1.is; left = behind found.1.left; changed = λ z. behind (found.1.changed z) },
      )

  -- who stands in the second is x, or stands in the first
  pub whose : {x : X} {xs ys : List X} → Placed x xs ys → (at : ℕ) (y : X) → slice_get ys at ≡ Some y
      → ((x ≡ y) × Itself x xs ys at) ⊎ ((alone : ℕ) × Other x xs ys alone at y)
  whose {x} here zero y is = inl (let same : x ≡ y = cc in same, record { is = refl; left = refl; changed = λ z. here })
  whose here (suc at) y is = inr (at, record { was = is; is = is; left = here; changed = λ z. here })
  whose (behind p) zero y is = inr (zero, record { was = is; is = is; left = p; changed = λ z. behind p })
  whose (behind {y = w} p) (suc at) y is =
      elim (whose p at y is) [
        | inl found ↦ inl (
          found.0,
          record { is = found.1.is; left = ap (λ (zs : List X). w ∷ zs) found.1.left; changed = λ z. behind (found.1.changed z) },
        )
        | inr found ↦ inr (
          suc found.0,
          record { was = found.1.was; is = found.1.is; left = behind found.1.left; changed = λ z. behind (found.1.changed z) },
        )
      ]

  pub placed_none : {x : X} {xs : List X} → Placed x xs [] → ⊥
  placed_none p = elim p [ ]

  pub placed_longer : {x : X} {xs ys : List X} → Placed x xs ys → length ys ≡ suc (length xs)
  placed_longer here = refl
  placed_longer (behind p) = ap suc (placed_longer p)

  pub placed-append : {x : X} {xs ys : List X} → Placed x xs ys → (z : X) → Placed x (xs ++ z ∷ []) (ys ++ z ∷ [])
  placed-append here z = here
  placed-append (behind p) z = behind (placed-append p z)

  pub placed_last : (xs : List X) (x : X) → Placed x xs (xs ++ x ∷ [])
  placed_last [] x = here
  placed_last (y ∷ xs) x = behind (placed_last xs x)
