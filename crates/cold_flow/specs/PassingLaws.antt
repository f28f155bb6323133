-- Laws of what an operator that sifts passes on.
use Rattle.std.specs.Prelude.{◌≡◌, ◌+◌, ℕ, List, [], ◌∷◌, ◌++◌, length, Option, Some, None, refl}
use Rattle.std.specs.List.{cons_option}
use Rattle.std.proofs.Common.{sym, ◌∙◌, ap, subst, inl, inr, append_assoc, length-append}
use Rattle.std.proofs.lemmas.List.{append-nil}
use Rattle.futures.specs.declared.task.Poll.{Poll}
use Rattle.futures.specs.declared.task.Poll.TheVariants.{Ready, Pending}
use Rattle.cold_flow.specs.declared.cause.Cause.{Cause}
use Rattle.cold_flow.specs.declared.event.Event.{Event}
use Rattle.cold_flow.specs.declared.event.Event.TheVariants.{Value, End}
use Rattle.cold_flow.specs.Polled.{Gave, Pauses}
use Rattle.cold_flow.specs.Polled.Gave.{nothing, one_more, waited}
use Rattle.cold_flow.specs.Passing.{PassesOn, PassesAll}

module _ {R A E : Type 0} (polled : R → Poll (Event A E) → R → Type 0) where
  -- polls, and then more polls
  pub gave_on : (r s t : R) (xs ys : List A) → Gave polled r xs s → Gave polled s ys t → Gave polled r (xs ++ ys) t
  gave_on r s t xs ys before nothing = subst (λ (l : List A). Gave polled r l s) (sym (append-nil xs)) before
  gave_on r s t xs ys before (one_more {s = m} {xs = zs} x more poll is) =
      one_more x (gave_on r s m xs zs before more) poll
      (ap (λ (l : List A). xs ++ l) is ∙ sym (append_assoc xs zs (x ∷ [])))
  gave_on r s t xs ys before (waited {s = m} more poll) = waited (gave_on r s m xs ys before more) poll

  -- polls, and then polls that gave nothing
  pub gave_still : (r s t : R) (xs : List A) → Gave polled r xs s → Gave polled s [] t → Gave polled r xs t
  gave_still r s t xs before more = subst (λ (l : List A). Gave polled r l t) (append-nil xs) (gave_on r s t xs [] before more)

  pub pauses_gave : (r s : R) (xs : List A) → Pauses polled r xs s → Gave polled r xs s
  pauses_gave r s xs (inl pended) = waited pended.1 pended.2
  pauses_gave r s xs (inr full) = full.0

module _ {A B M : Type 0} (passes : M → List A → List B) where
  pub passes_none : (m : M) → PassesAll passes m [] [] m
  passes_none m rest = refl

  -- what passes of values, and then of more
  pub passes_on : (m n o : M) (xs ys : List A) (zs ws : List B) → PassesAll passes m xs zs n → PassesAll passes n ys ws o
      → PassesAll passes m (xs ++ ys) (zs ++ ws) o
  passes_on m n o xs ys zs ws before more rest =
      ap (passes m) (append_assoc xs ys rest) ∙ before (ys ++ rest) ∙ ap (λ (l : List B). zs ++ l) (more rest)
      ∙ sym (append_assoc zs ws (passes o rest))

module _ {R A B E M : Type 0} (polled : R → Poll (Event A E) → R → Type 0) (passes : M → List A → List B) where
  -- the source gave so many values, of which none passed
  pub record LeftOut (m : M) (old : R) (n : M) (new : R) (count : ℕ) : Type 0 where
    pub xs : List A
    pub gave : Gave polled old xs new
    pub many : length xs ≡ count
    pub passed : PassesAll passes m xs [] n

  pub left_out_none : (m : M) (r : R) → LeftOut m r m r 0
  left_out_none m r = record { xs = []; gave = nothing; many = refl; passed = passes_none passes m }

  pub passes_end : (m n : M) (r s t : R) (count : ℕ) (k : Cause E) → LeftOut m r n s count → polled s (Ready (End k)) t
      → PassesOn polled passes m r (Ready (End k)) n t
  passes_end m n r s t count k before poll = record { xs = before.xs; gave = inl (s, before.gave, poll); passed = before.passed }

  pub passes_pending : (m n : M) (r s t : R) (count : ℕ) → LeftOut m r n s count → polled s Pending t → PassesOn polled passes m r Pending n t
  passes_pending m n r s t count before poll = record { xs = before.xs; gave = inl (s, before.gave, poll); passed = before.passed }

  pub passes_nothing : (m n : M) (r s : R) (count : ℕ) → LeftOut m r n s count → count ≡ 64 → PassesOn polled passes m r Pending n s
  passes_nothing m n r s count before full =
      record { xs = before.xs; gave = inr (before.gave, before.many ∙ full); passed = before.passed }

  -- a run that has ended asks nothing
  pub passes_again : (m : M) (r : R) (k : Cause E) → PassesOn polled passes m r (Ready (End k)) m r
  passes_again m r k = record { xs = []; gave = inr (refl, refl); passed = passes_none passes m }

module _ {R A B E M : Type 0} (polled : R → Poll (Event A E) → R → Type 0) (passes : M → List A → List B) (keeps : M → A → Option B) (after : M → A → M)
    (step : (m : M) (x : A) (xs : List A) → passes m (x ∷ xs) ≡ cons_option (keeps m x) (passes (after m x) xs)) where
  one_step : (m : M) (x : A) (o : Option B) (n : M) → o ≡ keeps m x → n ≡ after m x → (rest : List A)
      → passes m (x ∷ rest) ≡ cons_option o (passes n rest)
  one_step m x o n kept is rest =
      step m x rest ∙ ap (λ (p : Option B). cons_option p (passes (after m x) rest)) (sym kept)
      ∙ ap (λ (q : M). cons_option o (passes q rest)) (sym is)

  one_passes : (m : M) (x : A) (o : Option B) (y : B) (n : M) → o ≡ keeps m x → o ≡ Some y → n ≡ after m x → PassesAll passes m (x ∷ []) (y ∷ []) n
  one_passes m x o y n kept some is rest = one_step m x o n kept is rest ∙ ap (λ (p : Option B). cons_option p (passes n rest)) some

  one_is_left_out : (m : M) (x : A) (o : Option B) (n : M) → o ≡ keeps m x → o ≡ None → n ≡ after m x → PassesAll passes m (x ∷ []) [] n
  one_is_left_out m x o n kept none is rest = one_step m x o n kept is rest ∙ ap (λ (p : Option B). cons_option p (passes n rest)) none

  pub left_out_more : (m n p : M) (r s t : R) (count : ℕ) (x : A) (o : Option B) → LeftOut polled passes m r n s count
      → polled s (Ready (Value x)) t → o ≡ keeps n x → o ≡ None → p ≡ after n x → LeftOut polled passes m r p t (count + 1)
  left_out_more m n p r s t count x o before poll kept none is = record {
    xs = before.xs ++ x ∷ [];
    gave = one_more x before.gave poll refl;
    many = length-append before.xs (x ∷ []) ∙ ap (λ (k : ℕ). k + 1) before.many;
    passed = passes_on passes m n p before.xs (x ∷ []) [] [] before.passed (one_is_left_out n x o p kept none is);
  }

  pub passes_value : (m n p : M) (r s t : R) (count : ℕ) (x : A) (o : Option B) (y : B) → LeftOut polled passes m r n s count
      → polled s (Ready (Value x)) t → o ≡ keeps n x → o ≡ Some y → p ≡ after n x → PassesOn polled passes m r (Ready (Value y)) p t
  passes_value m n p r s t count x o y before poll kept some is = record {
    xs = before.xs ++ x ∷ [];
    gave = one_more x before.gave poll refl;
    passed = passes_on passes m n p before.xs (x ∷ []) [] (y ∷ []) before.passed (one_passes n x o y p kept some is);
  }

-- polls of an operator over a run gave what passes of the values that the run gave
module _ {Q R A B E M : Type 0} (outer : Q → Poll (Event B E) → Q → Type 0) (polled : R → Poll (Event A E) → R → Type 0) (passes : M → List A → List B)
    (sift : Q → M) (source : Q → R)
    (tells : (q : Q) (answer : Poll (Event B E)) (p : Q) → outer q answer p → PassesOn polled passes (sift q) (source q) answer (sift p) (source p)) where
  pub given_is_passed : (q : Q) (ys : List B) (p : Q) → Gave outer q ys p
      → (xs : List A) × Gave polled (source q) xs (source p) × PassesAll passes (sift q) xs ys (sift p)
  given_is_passed q ys p nothing = ([], nothing, passes_none passes (sift q))
  given_is_passed q ys p (one_more {s = m} {xs = zs} y before poll is) =
      let was = given_is_passed q zs m before in
      let came = tells m _ p poll in (
        was.0 ++ came.xs,
        gave_on polled (source q) (source m) (source p) was.0 came.xs was.1 came.gave,
        subst (λ (l : List B). PassesAll passes (sift q) (was.0 ++ came.xs) l (sift p)) (sym is)
            (passes_on passes (sift q) (sift m) (sift p) was.0 came.xs zs (y ∷ []) was.2 came.passed),
      )
  given_is_passed q ys p (waited {s = m} before poll) =
      let was = given_is_passed q ys m before in
      let came = tells m _ p poll in (
        was.0 ++ came.xs,
        gave_on polled (source q) (source m) (source p) was.0 came.xs was.1 (pauses_gave polled (source m) (source p) came.xs came.gave),
        subst (λ (l : List B). PassesAll passes (sift q) (was.0 ++ came.xs) l (sift p)) (append-nil ys)
            (passes_on passes (sift q) (sift m) (sift p) was.0 came.xs ys [] was.2 came.passed),
      )

-- the same, where the polls say which operator it is
pub passed_all : {Q R A B E M : Type 0} {outer : Q → Poll (Event B E) → Q → Type 0} {polled : R → Poll (Event A E) → R → Type 0} {passes : M → List A → List B}
    {q p : Q} {ys : List B} → Gave outer q ys p → (sift : Q → M) (source : Q → R)
    → ((r : Q) (answer : Poll (Event B E)) (s : Q) → outer r answer s → PassesOn polled passes (sift r) (source r) answer (sift s) (source s))
    → (xs : List A) × Gave polled (source q) xs (source p) × PassesAll passes (sift q) xs ys (sift p)
passed_all {outer = outer} {polled = polled} {passes = passes} {q = q} {p = p} {ys = ys} gave sift source tells =
    given_is_passed outer polled passes sift source tells q ys p gave
