-- The numbered entries of those that pass a test, against the list that they are taken from.
use Rattle.std.proofs.Common.{◌≡◌, ℕ, zero, suc, ◌+◌, ◌-◌, ◌<◌, ◌≤◌, Bool, true, false, ◌||◌, cond, eqb, List, [], ◌∷◌, ◌++◌, length, map, take, set, Some, slice_get, refl, sym, ap, ◌∙◌, ⊎_elim, arith}
use Rattle.std.proofs.lemmas.Bool.{eq-eqb, cases_lt}
use Rattle.std.proofs.lemmas.Option.{none-some, same_Some, some_pair_parts}
use Rattle.std.specs.List.{filter, list_any, remove}
use Rattle.shared_core.specs.Flow.{change}
use Rattle.shared_core.specs.Shown.{numbered}

-- Where an entry stands: it is that of x, at index k, and a change to x is a change to the entry.
pub record IsEntry {X Y : Type 0} (test : X → Bool) (shape : X → Y) (n : ℕ) (xs : List X) (at m : ℕ) (y : Y) : Type 0 where
  pub k : ℕ
  pub x : X
  pub gets : slice_get xs k ≡ Some x
  pub passes : test x ≡ true
  pub is_number : m ≡ n + k
  pub shows : y ≡ shape x
  pub before : numbered test shape n (take k xs) ≡ take at (numbered test shape n xs)
  pub kept : (f : X → X) → test (f x) ≡ true → numbered test shape n (change k f xs) ≡ set (numbered test shape n xs) at (m, shape (f x))
  pub removed : (f : X → X) → test (f x) ≡ false → numbered test shape n (change k f xs) ≡ remove (numbered test shape n xs) at

pub or_false_right : (a b : Bool) → (a || b) ≡ false → b ≡ false
or_false_right true b h = absurd (cc)
or_false_right false b h = h

module _ {X Y : Type 0} (test : X → Bool) (shape : X → Y) where
  pub passing : (n : ℕ) (x : X) (rest : List X) → test x ≡ true → numbered test shape n (x ∷ rest) ≡ (n, shape x) ∷ numbered test shape (n + 1) rest
  passing n x rest holds = ap (λ b. cond b ((n, shape x) ∷ numbered test shape (n + 1) rest) (numbered test shape (n + 1) rest)) holds

  pub failing : (n : ℕ) (x : X) (rest : List X) → test x ≡ false → numbered test shape n (x ∷ rest) ≡ numbered test shape (n + 1) rest
  failing n x rest fails = ap (λ b. cond b ((n, shape x) ∷ numbered test shape (n + 1) rest) (numbered test shape (n + 1) rest)) fails

  -- a step past the first
  past_passing : (n : ℕ) (x : X) (rest : List X) (at m : ℕ) (y : Y) → test x ≡ true → IsEntry test shape (n + 1) rest at m y → IsEntry test shape n (x ∷ rest) (suc at) m y
  past_passing n x rest at m y holds e = record {
    k = suc e.k;
    x = e.x;
    gets = e.gets;
    passes = e.passes;
    is_number = omega (arith, e.is_number);
    shows = e.shows;
    before =
        passing n x (take e.k rest) holds ∙ ap (λ xs. (n, shape x) ∷ xs) e.before ∙ ap (take (suc at)) (sym (passing n x rest holds));
    kept = λ f stays.
        passing n x (change e.k f rest) holds ∙ ap (λ xs. (n, shape x) ∷ xs) (e.kept f stays)
        ∙ ap (λ xs. set xs (suc at) (m, shape (f e.x))) (sym (passing n x rest holds));
    removed = λ f goes.
        passing n x (change e.k f rest) holds ∙ ap (λ xs. (n, shape x) ∷ xs) (e.removed f goes)
        ∙ ap (λ xs. remove xs (suc at)) (sym (passing n x rest holds));
  }

  past_failing : (n : ℕ) (x : X) (rest : List X) (at m : ℕ) (y : Y) → test x ≡ false → IsEntry test shape (n + 1) rest at m y → IsEntry test shape n (x ∷ rest) at m y
  past_failing n x rest at m y fails e = record {
    k = suc e.k;
    x = e.x;
    gets = e.gets;
    passes = e.passes;
    is_number = omega (arith, e.is_number);
    shows = e.shows;
    before = failing n x (take e.k rest) fails ∙ e.before ∙ ap (take at) (sym (failing n x rest fails));
    kept = λ f stays.
        failing n x (change e.k f rest) fails ∙ e.kept f stays ∙ ap (λ xs. set xs at (m, shape (f e.x))) (sym (failing n x rest fails));
    removed = λ f goes.
        failing n x (change e.k f rest) fails ∙ e.removed f goes ∙ ap (λ xs. remove xs at) (sym (failing n x rest fails));
  }

  first_entry : (n : ℕ) (x : X) (rest : List X) (m : ℕ) (y : Y) → test x ≡ true → n ≡ m → shape x ≡ y → IsEntry test shape n (x ∷ rest) 0 m y
  first_entry n x rest m y holds number shown = record {
    k = 0;
    x = x;
    gets = refl;
    passes = holds;
    is_number = omega (arith, number);
    shows = sym shown;
    before = refl;
    kept = λ f stays.
        passing n (f x) rest stays ∙ ap (λ i. (i, shape (f x)) ∷ numbered test shape (n + 1) rest) number
        ∙ ap (λ xs. set xs 0 (m, shape (f x))) (sym (passing n x rest holds));
    removed = λ f goes. failing n (f x) rest goes ∙ ap (λ xs. remove xs 0) (sym (passing n x rest holds));
  }

  -- each entry is that of one that passes
  pub entry_of : (n : ℕ) (xs : List X) (at m : ℕ) (y : Y) → slice_get (numbered test shape n xs) at ≡ Some (m, y) → IsEntry test shape n xs at m y
  entry_of n [] at m y found = absurd (none-some _ found)
  entry_of n (x ∷ rest) zero m y found =
      elim (test x) as (λ b. test x ≡ b → IsEntry test shape n (x ∷ rest) zero m y) [
        | true ↦ λ holds.
            let parts = some_pair_parts _ _ _ _ (ap (λ xs. slice_get xs 0) (sym (passing n x rest holds)) ∙ found) in
            first_entry n x rest m y holds parts.0 parts.1
        | false ↦ λ fails.
            past_failing n x rest zero m y fails (entry_of (n + 1) rest zero m y (ap (λ xs. slice_get xs 0) (sym (failing n x rest fails)) ∙ found))
      ] refl
  entry_of n (x ∷ rest) (suc at) m y found =
      elim (test x) as (λ b. test x ≡ b → IsEntry test shape n (x ∷ rest) (suc at) m y) [
        | true ↦ λ holds.
            past_passing n x rest at m y holds (entry_of (n + 1) rest at m y (ap (λ xs. slice_get xs (suc at)) (sym (passing n x rest holds)) ∙ found))
        | false ↦ λ fails.
            past_failing n x rest (suc at) m y fails (entry_of (n + 1) rest (suc at) m y (ap (λ xs. slice_get xs (suc at)) (sym (failing n x rest fails)) ∙ found))
      ] refl

  -- where no entry has the number, what has that number fails
  pub fails_without_entry : (n m : ℕ) (xs : List X) → n ≤ m → list_any (λ e. eqb e.0 m) (numbered test shape n xs) ≡ false → (t : X) → slice_get xs (m - n) ≡ Some t → test t ≡ false
  fails_without_entry n m [] low missing t gets = absurd (none-some _ gets)
  fails_without_entry n m (x ∷ rest) low missing t gets =
      let at_passing : test x ≡ true → (eqb n m || list_any (λ e. eqb e.0 m) (numbered test shape (n + 1) rest)) ≡ false =
      (λ (holds : test x ≡ true). ap (list_any (λ e. eqb e.0 m)) (sym (passing n x rest holds)) ∙ missing) in
      ⊎_elim
      (λ (more : n < m).
      let later : m - n ≡ suc (m - (n + 1)) = omega arith in
      let there : slice_get rest (m - (n + 1)) ≡ Some t = ap (slice_get (x ∷ rest)) (sym later) ∙ gets in
      let rest_missing : list_any (λ e. eqb e.0 m) (numbered test shape (n + 1) rest) ≡ false =
      elim (test x) as (λ b. test x ≡ b → list_any (λ e. eqb e.0 m) (numbered test shape (n + 1) rest) ≡ false) [
        | true ↦ λ holds. or_false_right _ _ (at_passing holds)
        | false ↦ λ fails. ap (list_any (λ e. eqb e.0 m)) (sym (failing n x rest fails)) ∙ missing
      ] refl in
      fails_without_entry (n + 1) m rest (omega arith) rest_missing t there)
      (λ (same : m ≤ n).
      let zero_apart : m - n ≡ 0 = omega arith in
      let this : x ≡ t = same_Some x t (ap (slice_get (x ∷ rest)) (sym zero_apart) ∙ gets) in
      elim (test x) as (λ b. test x ≡ b → test t ≡ false) [
        | true ↦ λ holds.
            let found = eq-eqb n m (omega arith) in
            absurd (let no = at_passing holds in let also = ap (λ b. b || list_any (λ e. eqb e.0 m) (numbered test shape (n + 1) rest)) found in cc)
        | false ↦ λ fails. ap test (sym this) ∙ fails
      ] refl)
      (cases_lt n m)

  -- one more that passes is the last entry
  pub numbered-push : (n : ℕ) (xs : List X) (x : X) → test x ≡ true → numbered test shape n (xs ++ x ∷ []) ≡ numbered test shape n xs ++ (n + length xs, shape x) ∷ []
  numbered-push n [] x holds = ap (λ b. cond b ((n, shape x) ∷ []) []) holds ∙ ap (λ (m : ℕ). (m, shape x) ∷ []) (omega arith)
  numbered-push n (first ∷ rest) x holds =
      let further : (n + 1) + length rest ≡ n + suc (length rest) = omega arith in
      let later = numbered-push (n + 1) rest x holds ∙ ap (λ m. numbered test shape (n + 1) rest ++ (m, shape x) ∷ []) further in
      elim (test first) as (λ b. cond b ((n, shape first) ∷ numbered test shape (n + 1) (rest ++ x ∷ [])) (numbered test shape (n + 1) (rest ++ x ∷ []))
      ≡ cond b ((n, shape first) ∷ numbered test shape (n + 1) rest) (numbered test shape (n + 1) rest) ++ (n + suc (length rest), shape x) ∷ []) [
        | true ↦ ap (λ xs. (n, shape first) ∷ xs) later
        | false ↦ later
      ]

  -- one more that fails is no entry
  pub numbered-push_failing : (n : ℕ) (xs : List X) (x : X) → test x ≡ false → numbered test shape n (xs ++ x ∷ []) ≡ numbered test shape n xs
  numbered-push_failing n [] x fails = failing n x [] fails
  numbered-push_failing n (first ∷ rest) x fails =
      let later = numbered-push_failing (n + 1) rest x fails in
      elim (test first) as (λ b. cond b ((n, shape first) ∷ numbered test shape (n + 1) (rest ++ x ∷ [])) (numbered test shape (n + 1) (rest ++ x ∷ []))
      ≡ cond b ((n, shape first) ∷ numbered test shape (n + 1) rest) (numbered test shape (n + 1) rest)) [
        | true ↦ ap (λ xs. (n, shape first) ∷ xs) later
        | false ↦ later
      ]

  -- what changes neither test nor shape of one changes no entry
  one_changed : (n : ℕ) (x y : X) (xs ys : List X) → test y ≡ test x → shape y ≡ shape x → numbered test shape (n + 1) ys ≡ numbered test shape (n + 1) xs → numbered test shape n (y ∷ ys) ≡ numbered test shape n (x ∷ xs)
  one_changed n x y xs ys same shown later =
      ap (λ b. cond b ((n, shape y) ∷ numbered test shape (n + 1) ys) (numbered test shape (n + 1) ys)) same
      ∙ ap (λ s. cond (test x) ((n, s) ∷ numbered test shape (n + 1) ys) (numbered test shape (n + 1) ys)) shown
      ∙ ap (λ es. cond (test x) ((n, shape x) ∷ es) es) later

  pub numbered-changed : (f : X → X) → ((x : X) → test (f x) ≡ test x) → ((x : X) → shape (f x) ≡ shape x) → (n k : ℕ) (xs : List X) → numbered test shape n (change k f xs) ≡ numbered test shape n xs
  numbered-changed f same shown n k [] = refl
  numbered-changed f same shown n zero (x ∷ xs) = one_changed n x (f x) xs xs (same x) (shown x) refl
  numbered-changed f same shown n (suc k) (x ∷ xs) = one_changed n x x xs (change k f xs) refl refl (numbered-changed f same shown (n + 1) k xs)

  pub numbered-mapped : (f : X → X) → ((x : X) → test (f x) ≡ test x) → ((x : X) → shape (f x) ≡ shape x) → (n : ℕ) (xs : List X) → numbered test shape n (map f xs) ≡ numbered test shape n xs
  numbered-mapped f same shown n [] = refl
  numbered-mapped f same shown n (x ∷ xs) = one_changed n x (f x) xs (map f xs) (same x) (shown x) (numbered-mapped f same shown (n + 1) xs)

  -- nor does what fails before and after
  pub numbered-failing : (f : X → X) (n k : ℕ) (xs : List X) (t : X) → slice_get xs k ≡ Some t → test t ≡ false → test (f t) ≡ false → numbered test shape n (change k f xs) ≡ numbered test shape n xs
  numbered-failing f n k [] t gets before after = refl
  numbered-failing f n zero (x ∷ xs) t gets before after =
      let this = same_Some x t gets in
      failing n (f x) xs (ap (λ y. test (f y)) this ∙ after) ∙ sym (failing n x xs (ap test this ∙ before))
  numbered-failing f n (suc k) (x ∷ xs) t gets before after = one_changed n x x xs (change k f xs) refl refl (numbered-failing f (n + 1) k xs t gets before after)

  -- as many entries as pass
  pub count_numbered : (n : ℕ) (xs : List X) → length (filter test xs) ≡ length (numbered test shape n xs)
  count_numbered n [] = refl
  count_numbered n (x ∷ rest) =
      elim (test x) as (λ b. length (cond b (x ∷ filter test rest) (filter test rest)) ≡ length (cond b ((n, shape x) ∷ numbered test shape (n + 1) rest) (numbered test shape (n + 1) rest))) [
        | true ↦ ap suc (count_numbered (n + 1) rest)
        | false ↦ count_numbered (n + 1) rest
      ]
