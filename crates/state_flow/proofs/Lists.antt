-- Lists that go on from one another, the last of a list, and lists that are picked from a history.
use Rattle.std.proofs.Common.{◌≡◌, ◌≢◌, ◌⊎◌, ℕ, zero, suc, ◌+◌, ◌-◌, ◌<◌, List, [], ◌∷◌, ◌++◌, length, Option, Some, None, sym, refl, ap, ◌∙◌, subst, ⊎_elim, inl, inr, arith, append_assoc}
use Rattle.std.specs.List.{last_or}
use mathlib.Core.Logic.{dite}
use mathlib.Core.Option.{some, some-injective, some-ne-none}
use native.Mathlib.Decide.{ℕ_discrete}
use lib.ListN.{get_elem?}
use Rattle.atomic_table.proofs.Lists.{at_longer}
use Rattle.flow_terms.specs.Lists.{IsPrefix}
use Rattle.state_flow.specs.History.{last_of, Writes, Picks}

module _ {X : Type 0} where
  abbrev pick : {P : Type 0} → Dec P → X → X → X
  pick (yes _) a b = a
  pick (no _) a b = b

  -- the function with another value at one place
  pub put : (ℕ → X) → ℕ → X → ℕ → X
  put f i c j = pick (ℕ_discrete j i) c (f j)

  pub put_here : (f : ℕ → X) (i : ℕ) (c : X) (j : ℕ) → j ≡ i → put f i c j ≡ c
  unfolding put
  put_here f i c j is = go (ℕ_discrete j i)
    where
      go : (d : Dec (j ≡ i)) → pick d c (f j) ≡ c
      go (yes _) = refl
      go (no n) = absurd (n is)

  pub put_else : (f : ℕ → X) (i : ℕ) (c : X) (j : ℕ) → j ≢ i → put f i c j ≡ f j
  unfolding put
  put_else f i c j other = go (ℕ_discrete j i)
    where
      go : (d : Dec (j ≡ i)) → pick d c (f j) ≡ f j
      go (yes e) = absurd (other e)
      go (no _) = refl

module _ {A : Type 0} where
  pub append_none : (xs : List A) → xs ++ [] ≡ xs
  append_none [] = refl
  append_none (x ∷ xs) = ap (λ (ys : List A). x ∷ ys) (append_none xs)

  pub at_inside : (xs : List A) (i : ℕ) (x : A) → get_elem? xs i ≡ some x → i < length xs
  at_inside [] i x e = absurd (some-ne-none x (sym e))
  at_inside (y ∷ ys) zero x e = omega arith
  at_inside (y ∷ ys) (suc i) x e = let r = at_inside ys i x e in omega arith

  pub at_there : (xs : List A) (i : ℕ) → i < length xs → (x : A) × (get_elem? xs i ≡ some x)
  at_there [] i h = absurd (omega arith)
  at_there (y ∷ ys) zero h = (y, refl)
  at_there (y ∷ ys) (suc i) h = at_there ys i (omega arith)

  pub same_at : (xs : List A) (i : ℕ) (x y : A) → get_elem? xs i ≡ some x → get_elem? xs i ≡ some y → x ≡ y
  same_at xs i x y e f = some-injective x y (sym e ∙ f)

  -- an element of a list with one more is in the list, or the one
  pub at_more : (xs : List A) (y : A) (i : ℕ) (x : A) → get_elem? (xs ++ y ∷ []) i ≡ some x → ((get_elem? xs i ≡ some x) × (i < length xs)) ⊎ ((i ≡ length xs) × (y ≡ x))
  at_more [] y zero x e = inr (refl, some-injective y x e)
  at_more [] y (suc i) x e = absurd (some-ne-none x (sym e))
  at_more (z ∷ zs) y zero x e = inl (e, omega arith)
  at_more (z ∷ zs) y (suc i) x e = ⊎_elim (λ t. let h = t.1 in inl (t.0, omega arith)) (λ t. inr (ap suc t.0, t.1)) (at_more zs y i x e)

  last_or_snoc : (o : Option A) (xs : List A) (x : A) → last_or o (xs ++ x ∷ []) ≡ Some x
  last_or_snoc o [] x = refl
  last_or_snoc o (y ∷ ys) x = last_or_snoc (Some y) ys x

  pub last_snoc : (xs : List A) (x : A) → last_of (xs ++ x ∷ []) ≡ Some x
  last_snoc xs x = last_or_snoc None xs x

  pub not_last_of_none : (x : A) → last_of [] ≢ Some x
  not_last_of_none x e = cc

  -- where the last of a list stands
  pub last_at : (xs : List A) (x : A) → last_of xs ≡ Some x → (i : ℕ) × ((i + 1 ≡ length xs) × (get_elem? xs i ≡ some x))
  last_at [] x e = absurd (not_last_of_none x e)
  last_at (y ∷ []) x e = let same : y ≡ x = cc in (0, (refl, ap (λ (z : A). some z) same))
  last_at (y ∷ (z ∷ zs)) x e = let r = last_at (z ∷ zs) x e in let l = r.1.0 in (suc r.0, (omega arith, r.1.1))

  pub at_last_is : (xs : List A) (i : ℕ) (x : A) → get_elem? xs i ≡ some x → i + 1 ≡ length xs → last_of xs ≡ Some x
  at_last_is [] i x e l = absurd (some-ne-none x (sym e))
  at_last_is (y ∷ []) zero x e l = ap (λ (z : A). Some z) (some-injective y x e)
  at_last_is (y ∷ []) (suc i) x e l = absurd (omega arith)
  at_last_is (y ∷ (z ∷ zs)) zero x e l = absurd (omega arith)
  at_last_is (y ∷ (z ∷ zs)) (suc i) x e l = at_last_is (z ∷ zs) i x e (omega arith)

  pub prefix_self : (xs : List A) → IsPrefix xs xs
  prefix_self xs = ([], sym (append_none xs))

  pub prefix_none : (xs : List A) → IsPrefix [] xs
  prefix_none xs = (xs, refl)

  pub prefix_then : (xs ys zs : List A) → IsPrefix ys xs → IsPrefix zs ys → IsPrefix zs xs
  prefix_then xs ys zs a b = (b.0 ++ a.0, a.1 ∙ (ap (λ (l : List A). l ++ a.0) b.1 ∙ append_assoc zs b.0 a.0))

  pub prefix_at : (xs ys : List A) → IsPrefix ys xs → (i : ℕ) (y : A) → get_elem? ys i ≡ some y → get_elem? xs i ≡ some y
  prefix_at xs ys c i y e = ap (λ (l : List A). get_elem? l i) c.1 ∙ at_longer ys c.0 i y e

  pub comparable : (xs ys a b : List A) → xs ++ a ≡ ys ++ b → IsPrefix ys xs ⊎ IsPrefix xs ys
  comparable [] ys a b e = inr (prefix_none ys)
  comparable (x ∷ xs) [] a b e = inl (prefix_none (x ∷ xs))
  comparable (x ∷ xs) (y ∷ ys) a b e =
      let head : x ≡ y = cc in
      let tail : xs ++ a ≡ ys ++ b = cc in
      ⊎_elim (λ c. inl (c.0, λ i. head i ∷ c.1 i)) (λ c. inr (c.0, λ i. sym head i ∷ c.1 i)) (comparable xs ys a b tail)

  pub write : (xs : List A) (x : A) → Dec (last_of xs ≡ Some x) → (ys : List A) × Writes xs x ys
  write xs x (yes e) = (xs, ((λ _. refl), λ n. absurd (n e)))
  write xs x (no n) = (xs ++ x ∷ [], ((λ e. absurd (n e)), λ _. refl))

  pub writes_last : (xs : List A) (x : A) (ys : List A) → Dec (last_of xs ≡ Some x) → Writes xs x ys → last_of ys ≡ Some x
  writes_last xs x ys (yes e) w = ap last_of (w.0 e) ∙ e
  writes_last xs x ys (no n) w = ap last_of (w.1 n) ∙ last_snoc xs x

  pub writes_on : (xs : List A) (x : A) (ys : List A) → Dec (last_of xs ≡ Some x) → Writes xs x ys → IsPrefix xs ys
  writes_on xs x ys (yes e) w = ([], w.0 e ∙ sym (append_none xs))
  writes_on xs x ys (no n) w = (x ∷ [], w.1 n)

  pub writes_all : (P : A → Type 0) (xs : List A) (x : A) (ys : List A) → Dec (last_of xs ≡ Some x) → Writes xs x ys → P x
      → ((i : ℕ) (y : A) → get_elem? xs i ≡ some y → P y) → (i : ℕ) (y : A) → get_elem? ys i ≡ some y → P y
  writes_all P xs x ys (yes e) w p all i y at = all i y (ap (λ (l : List A). get_elem? l i) (sym (w.0 e)) ∙ at)
  writes_all P xs x ys (no n) w p all i y at = ⊎_elim (λ t. all i y t.0) (λ t. subst P t.1 p) (at_more xs x i y (ap (λ (l : List A). get_elem? l i) (sym (w.1 n)) ∙ at))

  pub picks_none : (history : List A) → Picks [] history
  picks_none history = record {
    index_of = λ i. i;
    rising = λ i j less below. absurd (omega arith);
    stands = λ i x e. absurd (some-ne-none x (sym e));
    no_equal_neighbours = λ i x y e _. absurd (some-ne-none x (sym e));
  }

  pub picks_on : (xs history longer : List A) → IsPrefix history longer → Picks xs history → Picks xs longer
  picks_on xs history longer c p = record {
    index_of = p.index_of;
    rising = p.rising;
    stands = λ i x e. prefix_at longer history c (p.index_of i) x (p.stands i x e);
    no_equal_neighbours = p.no_equal_neighbours;
  }

  -- the last of the history may be picked too, where it is not the last that was picked
  picks_more : (xs history : List A) (x : A) → last_of history ≡ Some x → last_of xs ≢ Some x → Picks xs history → Picks (xs ++ x ∷ []) history
  picks_more xs history x last fresh p = record {
    index_of = at';
    rising = λ i j less below. rise i j less (dec_end j) (shorter j below);
    stands = λ i y e. ⊎_elim
        (λ (t : (get_elem? xs i ≡ some y) × (i < length xs)). let inside = t.1 in ap (λ (k : ℕ). get_elem? history k) (put_else p.index_of (length xs) here.0 i (λ s. omega arith)) ∙ p.stands i y t.0)
        (λ (t : (i ≡ length xs) × (x ≡ y)). ap (λ (k : ℕ). get_elem? history k) (put_here p.index_of (length xs) here.0 i t.0) ∙ (here.1.1 ∙ ap (λ (z : A). some z) t.1))
        (at_more xs x i y e);
    no_equal_neighbours = λ i y z e f. ⊎_elim
        (λ (t : (get_elem? xs (i + 1) ≡ some z) × (i + 1 < length xs)). ⊎_elim
        (λ (u : (get_elem? xs i ≡ some y) × (i < length xs)). p.no_equal_neighbours i y z u.0 t.0)
        (λ (u : (i ≡ length xs) × (x ≡ y)). let a = t.1 in let b = u.0 in absurd (omega arith))
        (at_more xs x i y e))
        (λ (t : (i + 1 ≡ length xs) × (x ≡ z)). ⊎_elim
        (λ (u : (get_elem? xs i ≡ some y) × (i < length xs)). λ (same : y ≡ z). fresh (at_last_is xs i y u.0 t.0 ∙ ap (λ (v : A). Some v) (same ∙ sym t.1)))
        (λ (u : (i ≡ length xs) × (x ≡ y)). let a = t.0 in let b = u.0 in absurd (omega arith))
        (at_more xs x i y e))
        (at_more xs x (i + 1) z f);
  }
    where
      here : (i : ℕ) × ((i + 1 ≡ length history) × (get_elem? history i ≡ some x))
      here = last_at history x last

      at' : ℕ → ℕ
      at' = put p.index_of (length xs) here.0

      dec_end : (j : ℕ) → Dec (j ≡ length xs)
      dec_end j = ℕ_discrete j (length xs)

      shorter : (j : ℕ) → j < length (xs ++ x ∷ []) → j < length xs + 1
      shorter j h = let t = at_there (xs ++ x ∷ []) j h in ⊎_elim (λ u. let k = u.1 in omega arith) (λ u. let k = u.0 in omega arith) (at_more xs x j t.0 t.1)

      -- the last that was picked stands before the last of the history
      before : (i : ℕ) → i + 1 ≡ length xs → p.index_of i < here.0
      before i is =
          let t = at_there xs i (omega arith) in
          let stands = p.stands i t.0 t.1 in
          let inside = at_inside history (p.index_of i) t.0 stands in
          let size = here.1.0 in
          dite (ℕ_discrete (p.index_of i) here.0)
          (λ e. absurd (fresh (at_last_is xs i t.0 t.1 is ∙ ap (λ (v : A). Some v) (same_at history here.0 t.0 x (ap (λ (k : ℕ). get_elem? history k) (sym e) ∙ stands) here.1.1))))
          (λ n. omega arith)

      all_before : (i : ℕ) → i < length xs → p.index_of i < here.0
      all_before i inside = dite (ℕ_discrete (i + 1) (length xs)) (λ e. before i e)
          (λ n. let end : ℕ = length xs - 1 in let b = before end (omega arith) in let r = p.rising i end (omega arith) (omega arith) in omega arith)

      rise : (i j : ℕ) → i < j → Dec (j ≡ length xs) → j < length xs + 1 → at' i < at' j
      rise i j less (yes e) below = let a = put_here p.index_of (length xs) here.0 j e in let b = put_else p.index_of (length xs) here.0 i (λ s. omega arith) in let c = all_before i (omega arith) in omega arith
      rise i j less (no n) below = let a = put_else p.index_of (length xs) here.0 j n in let b = put_else p.index_of (length xs) here.0 i (λ s. omega arith) in let c = p.rising i j less (omega arith) in omega arith

  pub picks_last : (xs history : List A) (x : A) (ys : List A) → Dec (last_of xs ≡ Some x) → last_of history ≡ Some x → Writes xs x ys → Picks xs history → Picks ys history
  picks_last xs history x ys (yes e) last w p = subst (λ (l : List A). Picks l history) (sym (w.0 e)) p
  picks_last xs history x ys (no n) last w p = subst (λ (l : List A). Picks l history) (sym (w.1 n)) (picks_more xs history x last n p)
