-- Laws of folding.
use Rattle.std.specs.Prelude.{◌≡◌, List, [], ◌∷◌, ◌++◌, refl}
use Rattle.std.proofs.Common.{ap, sym, ◌∙◌, subst, append_assoc}
use Rattle.std.proofs.lemmas.List.{append-nil}
use Rattle.cold_flow.specs.declared.cause.Cause.{Cause}
use Rattle.cold_flow.specs.Trace.{ended_by, led_by}
use Rattle.cold_flow.specs.Poll.{Traces, Within, After}
use Rattle.cold_flow.specs.Fold.{folded, Folds, FoldsWhole}

module _ {A S : Type 0} (g : S × A → S) where
  pub folded-last : (state : S) (values : List A) (v : A) → folded g state (values ++ v ∷ []) ≡ g (folded g state values, v)
  folded-last state [] v = refl
  folded-last state (x ∷ values) v = folded-last (g (state, x)) values v

module _ {A E S : Type 0} (g : S × A → S) where
  pub folds_none : (state : S) (old : Traces A E) → Folds g state old state old
  folds_none state old = record { values = []; made = refl; rest = λ t h. h }

  pub folds_value : (state s next : S) (old mid new : Traces A E) (v : A) → Folds g state old s mid → After mid v new → next ≡ g (s, v)
      → Folds g state old next new
  folds_value state s next old mid new v before after is = record {
    values = before.values ++ v ∷ [];
    made = is ∙ ap (λ (z : S). g (z, v)) before.made ∙ sym (folded-last g state before.values v);
    rest = λ t h. subst (λ (xs : List A). old (xs, t.1)) (sym (append_assoc before.values (v ∷ []) t.0)) (before.rest (led_by v t) (after t h));
  }

  pub folds_waits : (state s : S) (old mid new : Traces A E) → Folds g state old s mid → Within mid new → Folds g state old s new
  folds_waits state s old mid new before within =
      record { values = before.values; made = before.made; rest = λ t h. before.rest t (within t h) }

  pub folds_end : (state s : S) (old mid : Traces A E) (k : Cause E) → Folds g state old s mid → mid (ended_by [] k)
      → FoldsWhole g state old s k
  folds_end state s old mid k before came = record {
    values = before.values;
    made = before.made;
    came = subst (λ (xs : List A). old (ended_by xs k)) (append-nil before.values) (before.rest (ended_by [] k) came);
  }
