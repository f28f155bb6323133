-- Lists of entries: the first one, one replaced, one removed.
use Rattle.std.proofs.Common.{◌≡◌, zero, suc, ℕ, Bool, ◌||◌, List, [], ◌∷◌, drop, map, set, Some, None, slice_get, refl, ap}
use Rattle.std.proofs.lemmas.Option.{same_Some}
use Rattle.std.specs.List.{list_any, remove}

pub list_any-map : {X Y : Type 0} (test : Y → Bool) (f : X → Y) (xs : List X) → list_any test (map f xs) ≡ list_any (λ x. test (f x)) xs
list_any-map test f [] = refl
list_any-map test f (x ∷ xs) = ap (λ b. test (f x) || b) (list_any-map test f xs)

pub set-same : {X : Type 0} (xs : List X) (k : ℕ) (x : X) → slice_get xs k ≡ Some x → set xs k x ≡ xs
set-same [] k x gets = refl
set-same (y ∷ xs) zero x gets = let same : x ≡ y = cc in ap (λ z. z ∷ xs) same
set-same (y ∷ xs) (suc k) x gets = ap (λ r. y ∷ r) (set-same xs k x gets)

pub map-remove : {X Y : Type 0} (f : X → Y) (xs : List X) (k : ℕ) → map f (remove xs k) ≡ remove (map f xs) k
map-remove f [] zero = refl
map-remove f [] (suc k) = refl
map-remove f (x ∷ xs) zero = refl
map-remove f (x ∷ xs) (suc k) = ap (λ r. f x ∷ r) (map-remove f xs k)

pub remove-set : {X : Type 0} (xs : List X) (k : ℕ) (x : X) → remove (set xs k x) k ≡ remove xs k
remove-set [] zero x = refl
remove-set [] (suc k) x = refl
remove-set (y ∷ xs) zero x = refl
remove-set (y ∷ xs) (suc k) x = ap (λ r. y ∷ r) (remove-set xs k x)

pub none_first : {X : Type 0} (xs : List X) → slice_get xs 0 ≡ None → xs ≡ []
none_first [] none = refl
none_first (x ∷ xs) none = absurd (cc)

pub some_first : {X : Type 0} (xs : List X) (x : X) → slice_get xs 0 ≡ Some x → xs ≡ x ∷ drop 1 xs
some_first [] x some = absurd (cc)
some_first (y ∷ xs) x some = ap (λ z. z ∷ xs) (same_Some y x some)
