-- Laws of operators that change how their source ends.
use Rattle.std.specs.Prelude.{◌≡◌, List, [], ◌++◌, Option, Some, None, refl}
use Rattle.std.proofs.Common.{ap, sym, ◌∙◌, inl, inr, append_assoc}
use Rattle.std.proofs.lemmas.List.{append-nil}
use Rattle.cold_flow.specs.declared.cause.Cause.{Cause}
use Rattle.cold_flow.specs.declared.cause.Cause.TheVariants.{Finished, Failed, Cancelled, Refused}
use Rattle.cold_flow.specs.declared.operators.catch_with.Caught.{Caught}
use Rattle.cold_flow.specs.declared.operators.catch_with.Caught.TheVariants.{End, Last, Fault}
use Rattle.cold_flow.specs.Trace.{Trace, ended_by}
use Rattle.cold_flow.specs.Poll.{Traces, After, Through, Beginnings}
use Rattle.cold_flow.specs.Finale.{Finale, added, with_finale, caught_by, catching, completing}
use Rattle.cold_flow.specs.Laws.{Monotone, Through-after, led-begins}

module _ {A E : Type 0} (finale : Cause E → Finale A E) where
  pub finale-monotone : Monotone (with_finale finale)
  finale-monotone t u (inl e) = inl (ap (with_finale finale) e)
  finale-monotone (xs, None) u (inr h) =
      inr (
        refl,
        (
          h.1.0 ++ added finale u.1,
          ap (λ (ys : List A). ys ++ (h.1.0 ++ added finale u.1)) (append-nil xs) ∙ sym (append_assoc xs h.1.0 (added finale u.1))
              ∙ ap (λ (ys : List A). ys ++ added finale u.1) h.1.1,
        ),
      )
  finale-monotone (xs, Some k) u (inr h) = cc

  -- a value passes
  pub finale_passes : (old new : Traces A E) (v : A) → After old v new
      → After (Through (with_finale finale) old) v (Through (with_finale finale) new)
  finale_passes old new v after =
      Through-after (with_finale finale) (with_finale finale) old new v v (λ u. refl) after

  -- the end of the source becomes a last value and an end
  pub finale_last : (source : Traces A E) (k : Cause E) (v : A) (j : Cause E) → finale k ≡ (Some v, j) → j ≡ Finished → source (ended_by [] k)
      → After (Through (with_finale finale) source) v (Beginnings (ended_by [] Finished))
  finale_last source k v j is finished came t h = record {
    given = ended_by [] k;
    came = came;
    begins = rw (is, finished) (led-begins v t (ended_by [] Finished) h);
  }

  -- the end of the source becomes an end
  pub finale_ends : (source : Traces A E) (k j : Cause E) → finale k ≡ (None, j) → source (ended_by [] k)
      → Through (with_finale finale) source (ended_by [] j)
  finale_ends source k j is came = record { given = ended_by [] k; came = came; begins = rw is (inl refl) }

module _ {A E : Type 0} where
  caught-last : (c : Caught A E) (v : A) (j : Cause E) → caught_by c ≡ (Some v, j) → j ≡ Finished
  caught-last End v j e = sym (ap (λ (f : Finale A E). f.1) e)
  caught-last (Last w) v j e = sym (ap (λ (f : Finale A E). f.1) e)
  caught-last (Fault f) v j e = let never : None ≡ Some v = ap (λ (f : Finale A E). f.0) e in absurd (cc)

  -- `Finished` comes after a last value
  pub catching_last : (g : E → Caught A E) (k : Cause E) (v : A) (j : Cause E) → catching g k ≡ (Some v, j) → j ≡ Finished
  catching_last g Finished v j e = sym (ap (λ (f : Finale A E). f.1) e)
  catching_last g (Failed f) v j e = caught-last (g f) v j e
  catching_last g Cancelled v j e = let never : None ≡ Some v = ap (λ (f : Finale A E). f.0) e in absurd (cc)
  catching_last g (Refused r) v j e = let never : None ≡ Some v = ap (λ (f : Finale A E). f.0) e in absurd (cc)

  pub completing_last : (g : Cause E → Option A) (k : Cause E) (v : A) (j : Cause E) → completing g k ≡ (Some v, j) → j ≡ Finished
  completing_last g Finished v j e = sym (ap (λ (f : Finale A E). f.1) e)
  completing_last g (Failed f) v j e = let never : None ≡ Some v = ap (λ (f : Finale A E). f.0) e in absurd (cc)
  completing_last g Cancelled v j e = let never : None ≡ Some v = ap (λ (f : Finale A E). f.0) e in absurd (cc)
  completing_last g (Refused r) v j e = let never : None ≡ Some v = ap (λ (f : Finale A E). f.0) e in absurd (cc)

  caught-cause : (c : Caught A E) → (caught_by c).1 ≡ Cancelled → ⊥
  caught-cause End e = cc
  caught-cause (Last v) e = cc
  caught-cause (Fault f) e = cc

  -- neither makes a cancellation of another end
  pub catching_cancels : (g : E → Caught A E) (k : Cause E) → (catching g k).1 ≡ Cancelled → k ≡ Cancelled
  catching_cancels g Finished e = cc
  catching_cancels g (Failed f) e = absurd (caught-cause (g f) e)
  catching_cancels g Cancelled e = refl
  catching_cancels g (Refused r) e = cc

  pub completing_cancels : (g : Cause E → Option A) (k : Cause E) → (completing g k).1 ≡ Cancelled → k ≡ Cancelled
  completing_cancels g Finished e = cc
  completing_cancels g (Failed f) e = cc
  completing_cancels g Cancelled e = refl
  completing_cancels g (Refused r) e = cc

module _ {A E : Type 0} (finale : Cause E → Finale A E) (cancels : (k : Cause E) → (finale k).1 ≡ Cancelled → k ≡ Cancelled) where
  -- where a finale makes a cancellation of no other end, the operator ends so only where its source does
  pub finale-cause : (t : Trace A E) (k : Option (Cause E)) → (with_finale finale t).1 ≡ Some Cancelled → t.1 ≡ Some Cancelled
  finale-cause (xs, None) k e = cc
  finale-cause (xs, Some j) k e = let same : (finale j).1 ≡ Cancelled = cc in ap Some (cancels j same)
