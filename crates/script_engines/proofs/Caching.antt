-- The values of a replay cache, one after another.
use Rattle.std.proofs.Common.{◌≡◌, ℕ, zero, suc, ◌+◌, List, [], ◌∷◌, ◌++◌, Some, length, take, slice_get, ap, add-one, length-append, arith}

take_suc : (xs : List ℕ) (i x : ℕ) → slice_get xs i ≡ Some x → take (suc i) xs ≡ take i xs ++ (x ∷ [])
take_suc [] i x e = cc
take_suc (y ∷ ys) zero x e = let same : y ≡ x = cc in ap (λ z. z ∷ []) same
take_suc (y ∷ ys) (suc i) x e = ap (λ zs. y ∷ zs) (take_suc ys i x e)

-- one more value
pub take_more : (xs : List ℕ) (i x : ℕ) → slice_get xs i ≡ Some x → take (i + 1) xs ≡ take i xs ++ (x ∷ [])
take_more xs i x e = rw (add-one i) (take_suc xs i x e)

pub one_longer : (xs : List ℕ) (x i : ℕ) → length xs ≡ i → length (xs ++ (x ∷ [])) ≡ i + 1
one_longer xs x i e =
    let size : length xs ≡ i = e in
    simp length-append (omega arith)
