-- Laws of the polls that were made of a run.
use Rattle.std.specs.Prelude.{◌≡◌, ℕ, ◌+◌, List, [], ◌∷◌, ◌++◌, length, refl}
use Rattle.std.proofs.Common.{ap, sym, ◌∙◌, inl, inr, append_assoc, length-append}
use Rattle.std.proofs.lemmas.List.{append-nil}
use Rattle.futures.specs.declared.task.Poll.{Poll}
use Rattle.futures.specs.declared.task.Poll.TheVariants.{Ready, Pending}
use Rattle.cold_flow.specs.declared.cause.Cause.{Cause}
use Rattle.cold_flow.specs.declared.event.Event.{Event}
use Rattle.cold_flow.specs.declared.event.Event.TheVariants.{Value, End}
use Rattle.cold_flow.specs.Fold.{folded}
use Rattle.cold_flow.specs.FoldLaws.{folded-last}
use Rattle.cold_flow.specs.Polled.{Gave, Pauses, GaveAll, BreaksOff}
use Rattle.cold_flow.specs.Polled.Gave.{nothing, one_more}

-- so many values were given, and they stand behind the ones before
pub record Took {R A E : Type 0} (polled : R → Poll (Event A E) → R → Type 0)
    (values : List A) (old : R) (more : List A) (new : R) (n : ℕ) : Type 0 where
  pub xs : List A
  pub is : more ≡ values ++ xs
  pub gave : Gave polled old xs new
  pub many : length xs ≡ n

-- the same of a state that g makes of them
pub record TookInto {R A E S : Type 0} (polled : R → Poll (Event A E) → R → Type 0)
    (g : S × A → S) (state : S) (old : R) (next : S) (new : R) (n : ℕ) : Type 0 where
  pub xs : List A
  pub is : next ≡ folded g state xs
  pub gave : Gave polled old xs new
  pub many : length xs ≡ n

module _ {R A E : Type 0} (polled : R → Poll (Event A E) → R → Type 0) where
  pub took_none : (values : List A) (old : R) → Took polled values old values old 0
  took_none values old = record { xs = []; is = sym (append-nil values); gave = nothing; many = refl }

  pub took_one : (values more most : List A) (old mid new : R) (n : ℕ) (x : A) → Took polled values old more mid n → polled mid (Ready (Value x)) new
      → most ≡ more ++ x ∷ [] → Took polled values old most new (n + 1)
  took_one values more most old mid new n x t p is = record {
    xs = t.xs ++ x ∷ [];
    is = is ∙ ap (λ (l : List A). l ++ x ∷ []) t.is ∙ append_assoc values t.xs (x ∷ []);
    gave = one_more x t.gave p refl;
    many = length-append t.xs (x ∷ []) ∙ ap (λ (k : ℕ). k + 1) t.many;
  }

  pub took_pauses : (values more : List A) (old mid new : R) (n : ℕ) → Took polled values old more mid n → polled mid Pending new
      → (xs : List A) × (more ≡ values ++ xs) × Pauses polled old xs new
  took_pauses values more old mid new n t p = (t.xs, t.is, inl (mid, t.gave, p))

  pub took_many : (values more : List A) (old new : R) (n : ℕ) → Took polled values old more new n → n ≡ 64
      → (xs : List A) × (more ≡ values ++ xs) × Pauses polled old xs new
  took_many values more old new n t full = (t.xs, t.is, inr (t.gave, t.many ∙ full))

  pub took_all : (values more : List A) (old mid new : R) (n : ℕ) (k : Cause E) → Took polled values old more mid n → polled mid (Ready (End k)) new
      → (xs : List A) × (more ≡ values ++ xs) × GaveAll polled old xs k new
  took_all values more old mid new n k t p = (t.xs, t.is, (mid, t.gave, p))

  pub took_broken : (cancelled : R → R → Type 0) (values more : List A) (old mid after new : R) (n : ℕ) (x : A) → Took polled values old more mid n
      → polled mid (Ready (Value x)) after → cancelled after new → (xs : List A) × (more ≡ values ++ xs) × BreaksOff polled cancelled old xs new
  took_broken cancelled values more old mid after new n x t p q = (t.xs, t.is, (mid, after, x, t.gave, p, q))

module _ {R A E S : Type 0} (polled : R → Poll (Event A E) → R → Type 0) (g : S × A → S) where
  pub folds_nothing : (state : S) (old : R) → TookInto polled g state old state old 0
  folds_nothing state old = record { xs = []; is = refl; gave = nothing; many = refl }

  pub folds_one : (state s next : S) (old mid new : R) (n : ℕ) (x : A) → TookInto polled g state old s mid n → polled mid (Ready (Value x)) new
      → next ≡ g (s, x) → TookInto polled g state old next new (n + 1)
  folds_one state s next old mid new n x t p is = record {
    xs = t.xs ++ x ∷ [];
    is = is ∙ ap (λ (z : S). g (z, x)) t.is ∙ sym (folded-last g state t.xs x);
    gave = one_more x t.gave p refl;
    many = length-append t.xs (x ∷ []) ∙ ap (λ (k : ℕ). k + 1) t.many;
  }

  pub folds_pauses : (state s : S) (old mid new : R) (n : ℕ) → TookInto polled g state old s mid n → polled mid Pending new
      → (xs : List A) × (s ≡ folded g state xs) × Pauses polled old xs new
  folds_pauses state s old mid new n t p = (t.xs, t.is, inl (mid, t.gave, p))

  pub folds_many : (state s : S) (old new : R) (n : ℕ) → TookInto polled g state old s new n → n ≡ 64
      → (xs : List A) × (s ≡ folded g state xs) × Pauses polled old xs new
  folds_many state s old new n t full = (t.xs, t.is, inr (t.gave, t.many ∙ full))

  pub folds_all : (state s : S) (old mid new : R) (n : ℕ) (k : Cause E) → TookInto polled g state old s mid n → polled mid (Ready (End k)) new
      → (xs : List A) × (s ≡ folded g state xs) × GaveAll polled old xs k new
  folds_all state s old mid new n k t p = (t.xs, t.is, (mid, t.gave, p))
