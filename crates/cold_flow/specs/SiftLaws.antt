-- Laws of the operators that leave values out.
use Rattle.std.specs.Prelude.{◌≡◌, ℕ, ◌-◌, Bool, true, false, List, [], ◌∷◌, ◌++◌, Option, Some, None, refl}
use Rattle.std.specs.Prelude.{drop, filter, if◌then◌else◌}
use Rattle.std.proofs.Common.{zero, suc, ap, sym, ◌∙◌, inl, inr}
use Rattle.std.proofs.Math.Numerals.{sub-one}
use Rattle.std.specs.List.{cons_option}
use Rattle.cold_flow.specs.declared.cause.Cause.{Cause}
use Rattle.cold_flow.specs.Trace.{on_values, ended_by}
use Rattle.cold_flow.specs.Poll.{Traces, Within, After, Through}
use Rattle.cold_flow.specs.Laws.{Monotone, Through-after, Through-skip, Through-end}

cons_option-append : {A : Type 0} (o : Option A) (ys zs : List A) → cons_option o ys ++ zs ≡ cons_option o (ys ++ zs)
cons_option-append None ys zs = refl
cons_option-append (Some y) ys zs = refl

module _ {A : Type 0} where
  filter-by : (b : Bool) (x : A) (xs : List A) → (if b then (x ∷ xs) else xs) ≡ cons_option (if b then Some x else None) xs
  filter-by true x xs = refl
  filter-by false x xs = refl

  pub filter-step : (p : A → Bool) (x : A) (xs : List A) → filter p (x ∷ xs) ≡ cons_option (if p x then Some x else None) (filter p xs)
  filter-step p x xs = filter-by (p x) x (filter p xs)

  -- x, where nothing is left to leave out
  abbrev pub keeps_after : ℕ → A → Option A
  keeps_after zero x = Some x
  keeps_after (suc n) x = None

  pub drop-none : (n : ℕ) → drop {A = A} n [] ≡ []
  drop-none zero = refl
  drop-none (suc n) = refl

  pub drop-step : (n : ℕ) (x : A) (xs : List A) → drop n (x ∷ xs) ≡ cons_option (keeps_after n x) (drop (n - 1) xs)
  drop-step zero x xs = refl
  drop-step (suc n) x xs = ap (λ (m : ℕ). drop m xs) (sym (sub-one (suc n)))

module _ {S A B : Type 0} (passes : S → List A → List B) (keeps : S → A → Option B) (after : S → A → S) where
  -- what passes of some values, and then what passes of the rest
  sift-grows : ((s : S) → passes s [] ≡ []) → ((s : S) (x : A) (xs : List A) → passes s (x ∷ xs) ≡ cons_option (keeps s x) (passes (after s x) xs))
      → (s : S) (xs rest : List A) → (more : List B) × (passes s xs ++ more ≡ passes s (xs ++ rest))
  sift-grows none step s [] rest = (passes s rest, ap (λ (ys : List B). ys ++ passes s rest) (none s))
  sift-grows none step s (x ∷ xs) rest =
      let grown = sift-grows none step (after s x) xs rest in (
        grown.0,
        ap (λ (ys : List B). ys ++ grown.0) (step s x xs) ∙ cons_option-append (keeps s x) (passes (after s x) xs) grown.0
            ∙ ap (cons_option (keeps s x)) grown.1 ∙ sym (step s x (xs ++ rest)),
      )

module _ {S A B E : Type 0} (passes : S → List A → List B) (keeps : S → A → Option B) (after : S → A → S) where
  pub sift-monotone : ((s : S) → passes s [] ≡ [])
      → ((s : S) (x : A) (xs : List A) → passes s (x ∷ xs) ≡ cons_option (keeps s x) (passes (after s x) xs))
      → (s : S) → Monotone {A = A} {B = B} {E = E} (on_values (passes s))
  sift-monotone none step s t u (inl e) = inl (ap (on_values (passes s)) e)
  sift-monotone none step s t u (inr h) =
      let grown = sift-grows passes keeps after none step s t.0 h.1.0 in inr (h.0, (grown.0, grown.1 ∙ ap (passes s) h.1.1))

  -- the next value is left out
  pub sift_skips : ((s : S) (x : A) (xs : List A) → passes s (x ∷ xs) ≡ cons_option (keeps s x) (passes (after s x) xs))
      → (s next : S) (x : A) (o : Option B) (old new : Traces A E) → o ≡ keeps s x → o ≡ None → next ≡ after s x → After old x new
      → Within (Through (on_values (passes s)) old) (Through (on_values (passes next)) new)
  sift_skips step s next x o old new kept none is came =
      Through-skip (on_values (passes s)) (on_values (passes next)) old new x
      (λ u. ap (λ (ys : List B). (ys, u.1)) (step s x u.0 ∙ rw (sym kept ∙ none, is) refl)) came

  -- the source ends
  pub sift_ends : ((s : S) → passes s [] ≡ []) → (s : S) (source : Traces A E) (k : Cause E) → source (ended_by [] k)
      → Through (on_values (passes s)) source (ended_by [] k)
  sift_ends none s source k came = Through-end (on_values (passes s)) source k k (ap (λ (ys : List B). ended_by ys k) (none s)) came

  -- the next value passes
  pub sift_gives : ((s : S) (x : A) (xs : List A) → passes s (x ∷ xs) ≡ cons_option (keeps s x) (passes (after s x) xs))
      → (s next : S) (x : A) (o : Option B) (y : B) (old new : Traces A E) → o ≡ keeps s x → o ≡ Some y → next ≡ after s x → After old x new
      → After (Through (on_values (passes s)) old) y (Through (on_values (passes next)) new)
  sift_gives step s next x o y old new kept some is came =
      Through-after (on_values (passes s)) (on_values (passes next)) old new x y
      (λ u. ap (λ (ys : List B). (ys, u.1)) (step s x u.0 ∙ rw (sym kept ∙ some, is) refl)) came
