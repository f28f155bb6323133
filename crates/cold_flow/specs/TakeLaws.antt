-- Laws of `take`.
use Rattle.std.specs.Prelude.{◌≡◌, ℕ, ◌+◌, ◌<◌, ◌≤◌, Bool, true, false, List, [], ◌∷◌, ◌++◌, Option, Some, None, refl}
use Rattle.std.specs.Prelude.{take, length, if◌then◌else◌}
use Rattle.std.proofs.Common.{zero, suc, ap, arith, sym, ◌∙◌, subst, inl, inr}
use Rattle.std.proofs.Math.Dec.{leb, leb-zero, leb-suc-suc, leb-suc-zero}
use Rattle.cold_flow.specs.declared.cause.Cause.{Cause}
use Rattle.cold_flow.specs.declared.cause.Cause.TheVariants.{Finished, Cancelled}
use Rattle.cold_flow.specs.Trace.{Trace, ◌⊑◌, so_far, ended_by, led_by, take_trace}
use Rattle.cold_flow.specs.Poll.{Traces, After, Through, Beginnings}
use Rattle.cold_flow.specs.Laws.{begins-any, Through-after, led-begins, Monotone}

take-none : {A : Type 0} (xs : List A) → take 0 xs ≡ []
take-none [] = refl
take-none (x ∷ xs) = refl

module _ {A E : Type 0} where
  -- one value of several
  pub take-led : (n : ℕ) (v : A) (u : Trace A E) → take_trace (suc n) (led_by v u) ≡ led_by v (take_trace n u)
  take-led n v u =
      ap (λ (b : Bool). (v ∷ take n u.0, (if b then Some Finished else u.1))) (leb-suc-suc n (length u.0))

  -- a trace without values
  pub take-empty : (n : ℕ) (e : Option (Cause E)) → 0 < n → take_trace {A = A} n ([], e) ≡ ([], e)
  take-empty zero e positive = absurd (omega arith)
  take-empty (suc n) e positive =
      ap (λ (b : Bool). ([], (if b then Some Finished else e))) (leb-suc-zero n)

  -- while more are to come
  pub take_more : (n m : ℕ) (old new : Traces A E) (v : A) → n ≡ m + 1 → After old v new
      → After (Through (take_trace n) old) v (Through (take_trace m) new)
  take_more n m old new v is after =
      let e : n ≡ suc m = omega arith in
      rw e (Through-after (take_trace (suc m)) (take_trace m) old new v v (take-led m v) after)

  -- the last
  pub take_last : (n : ℕ) (old new : Traces A E) (v : A) → 0 < n → n ≤ 1 → new (so_far []) → After old v new
      → After (Through (take_trace n) old) v (Beginnings (ended_by [] Finished))
  take_last n old new v positive le begun after t h =
      let e : n ≡ suc 0 = omega arith in
      rw e (record { given = led_by v (so_far []); came = after (so_far []) begun; begins = led-begins v t (ended_by [] Finished) h })

  -- the source ends first
  pub take_ends : (n : ℕ) (source : Traces A E) (k : Cause E) → 0 < n → source (ended_by [] k) → Through (take_trace n) source (ended_by [] k)
  take_ends n source k positive h = record { given = ended_by [] k; came = h; begins = inl (sym (take-empty n (Some k) positive)) }

  take-all : (t : Trace A E) → take_trace 0 t ≡ ended_by [] Finished
  take-all (xs, e) =
      ap (λ (b : Bool). (take 0 xs, (if b then Some Finished else e))) (leb-zero (length xs)) ∙ ap (λ (ys : List A). ended_by ys Finished) (take-none xs)

  take-grows : (n : ℕ) (xs ys rest : List A) (e : Option (Cause E)) → xs ++ rest ≡ ys → take_trace n (so_far xs) ⊑ take_trace n (ys, e)
  take-grows zero xs ys rest e is = inl (take-all (so_far xs) ∙ sym (take-all (ys, e)))
  take-grows (suc n) [] ys rest e is =
      let positive : 0 < suc n = omega arith in
      subst (λ (t : Trace A E). t ⊑ take_trace (suc n) (ys, e)) (sym (take-empty (suc n) None positive))
      (begins-any (take_trace (suc n) (ys, e)))
  take-grows (suc n) (x ∷ xs) [] rest e is = cc
  take-grows (suc n) (x ∷ xs) (y ∷ ys) rest e is =
      let same : x ≡ y = cc in
      let tail : xs ++ rest ≡ ys = cc in
      let grown : led_by y (take_trace n (so_far xs)) ⊑ led_by y (take_trace n (ys, e)) =
      led-begins y (take_trace n (so_far xs)) (take_trace n (ys, e)) (take-grows n xs ys rest e tail) in
      let first : take_trace (suc n) (so_far (x ∷ xs)) ≡ led_by y (take_trace n (so_far xs)) =
      take-led n x (so_far xs) ∙ ap (λ (z : A). led_by z (take_trace n (so_far xs))) same in
      subst (λ (t : Trace A E). t ⊑ take_trace (suc n) (y ∷ ys, e)) (sym first)
      (subst (λ (u : Trace A E). led_by y (take_trace n (so_far xs)) ⊑ u) (sym (take-led n y (ys, e))) grown)

  pub take-monotone : (n : ℕ) → Monotone (take_trace {A = A} {E = E} n)
  take-monotone n t u (inl e) = inl (ap (take_trace n) e)
  take-monotone n (xs, None) u (inr h) = take-grows n xs u.0 h.1.0 u.1 h.1.1
  take-monotone n (xs, Some k) u (inr h) = cc

cause-by : {E : Type 0} (b : Bool) (k : Option (Cause E)) → (if b then Some Finished else k) ≡ Some Cancelled → k ≡ Some Cancelled
cause-by true k e = cc
cause-by false k e = e

pub take-cause : {A E : Type 0} (n : ℕ) (t : Trace A E) (k : Option (Cause E)) → (take_trace n t).1 ≡ Some Cancelled → t.1 ≡ Some Cancelled
take-cause n t k e = cause-by (leb n (length t.0)) t.1 e
