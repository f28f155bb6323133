-- Sums over all seats, where one seat changes.
use Rattle.std.proofs.Common.{◌≡◌, ℕ, zero, suc, ◌+◌, ◌≤◌, List, [], ◌∷◌, get_or, set, sym, refl, ap, ◌∙◌, arith}
use Rattle.std.specs.Prelude.{sum_by}
use Rattle.std.proofs.lemmas.List.Sums.{sum_by-set, sum_by-cons, get_or-le-sum_by}
use mathlib.Core.Option.{some, some-injective, some-ne-none}
use lib.ListN.{get_elem?}
use Rattle.state_flow.specs.declared.view.View.{View}
use Rattle.state_flow.specs.Law.{collectors_in, shares_in}
use Rattle.state_flow.specs.Views.{running}
use Rattle.state_flow.proofs.Lists.{at_inside}

module _ {X : Type 0} where
  value_at : (xs : List X) (i : ℕ) (x : X) → get_elem? xs i ≡ some x → get_or xs i x ≡ x
  value_at [] i x e = absurd (some-ne-none x (sym e))
  value_at (y ∷ ys) zero x e = some-injective y x e
  value_at (y ∷ ys) (suc i) x e = value_at ys i x e

  pub sum_by-changed : (f : X → ℕ) (xs : List X) (i : ℕ) (x y : X) → get_elem? xs i ≡ some x → sum_by f (set xs i y) + f x ≡ sum_by f xs + f y
  sum_by-changed f xs i x y at = ap (λ (z : X). sum_by f (set xs i y) + f z) (sym (value_at xs i x at)) ∙ sum_by-set f xs i y x (at_inside xs i x at)

  pub le-sum_by : (f : X → ℕ) (xs : List X) (i : ℕ) (x : X) → get_elem? xs i ≡ some x → f x ≤ sum_by f xs
  le-sum_by f xs i x at = let a = get_or-le-sum_by f xs i x (at_inside xs i x at) in let b = ap f (value_at xs i x at) in omega arith

-- there are at most as many collectors as the shares add up to
pub collectors_in-le-shares_in : {T : Type 0} (vs : List (View T)) → ((i : ℕ) (v : View T) → get_elem? vs i ≡ some v → running v ≤ v.share) → collectors_in vs ≤ shares_in vs
collectors_in-le-shares_in [] h = omega arith
collectors_in-le-shares_in {T} (x ∷ xs) h =
    let one : running x ≤ x.share = h 0 x refl in
    let rest = collectors_in-le-shares_in xs (λ i v e. h (suc i) v e) in
    let a = sum_by-cons (λ (v : View T). running v) x xs in
    let b = sum_by-cons (λ (v : View T). v.share) x xs in
    omega arith
