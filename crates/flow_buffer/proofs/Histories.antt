-- Lemmas on what became of each value.
use Rattle.std.proofs.Common.{◌≡◌, ◌≤◌, ℕ, ◌+◌, Bool, true, false, cond, List, [], ◌∷◌, ◌++◌, length, sym, refl, ap, ◌∙◌, append_assoc, append-nil, add-zero, zero-add, arith, length-append}
use Rattle.std.proofs.lemmas.List.{map-append}
use Rattle.flow_buffer.specs.declared.side.Fate.{Fate}
use Rattle.flow_buffer.specs.declared.side.Fate.TheVariants.{Taken, Stored, Dropped}
use Rattle.flow_buffer.specs.History.{is_stored, is_dropped, picked, marked, Rises}

pub append_left : {A : Type 0} (xs ys : List A) → xs ++ ys ≡ [] → xs ≡ []
append_left [] ys e = refl
append_left (x ∷ xs) ys e = cc

pub append_right : {A : Type 0} (xs ys : List A) → xs ++ ys ≡ [] → ys ≡ []
append_right [] ys e = e
append_right (x ∷ xs) ys e = cc

module _ {T : Type 0} where
  cond_append : (b : Bool) (y : ℕ × T) (xs ys : List (ℕ × T)) → cond b (y ∷ (xs ++ ys)) (xs ++ ys) ≡ cond b (y ∷ xs) xs ++ ys
  cond_append true y xs ys = refl
  cond_append false y xs ys = refl

  pub picked-append : (p : Fate → Bool) (n : ℕ) (l m : List (Fate × T)) → picked p n (l ++ m) ≡ picked p n l ++ picked p (n + length l) m
  picked-append p n [] m = rw add-zero refl
  picked-append p n (e ∷ l) m =
      let same : n + 1 + length l ≡ n + length (e ∷ l) = omega arith in
      rw (picked-append p (n + 1) l m, same, cond_append (p e.0) (n, e.1) (picked p (n + 1) l) (picked p (n + length (e ∷ l)) m)) refl

  rises_from : (m n : ℕ) (l : List (ℕ × T)) → n ≤ m → Rises m l → Rises n l
  rises_from m n [] h r = tt
  rises_from m n (e ∷ l) h r = let first : m ≤ e.0 = r.0 in (omega arith, r.1)

  rises_cond : (b : Bool) (n : ℕ) (x : T) (l : List (ℕ × T)) → Rises (n + 1) l → Rises n (cond b ((n, x) ∷ l) l)
  rises_cond true n x l r = (omega arith, r)
  rises_cond false n x l r = rises_from (n + 1) n l (omega arith) r

  pub picked-rises : (p : Fate → Bool) (n : ℕ) (l : List (Fate × T)) → Rises n (picked p n l)
  picked-rises p n [] = tt
  picked-rises p n (e ∷ l) = rises_cond (p e.0) n e.1 (picked p (n + 1) l) (picked-rises p (n + 1) l)

  -- the first held value of a list
  pub record Front (n : ℕ) (l : List (Fate × T)) (i : ℕ) (x : T) (rest : List (ℕ × T)) : Type 0 where
    pub before : List (Fate × T)
    pub after : List (Fate × T)
    pub parts : l ≡ before ++ (Stored, x) ∷ after
    pub at : i ≡ n + length before
    pub none : picked is_stored n before ≡ []
    pub others : picked is_stored (i + 1) after ≡ rest

  behind : (n : ℕ) (e : Fate × T) (l : List (Fate × T)) (i : ℕ) (x : T) (rest : List (ℕ × T)) → is_stored e.0 ≡ false → Front (n + 1) l i x rest → Front n (e ∷ l) i x rest
  behind n e l i x rest free f = record {
    before = e ∷ f.before;
    after = f.after;
    parts = ap (λ t. e ∷ t) f.parts;
    at = let at : i ≡ n + 1 + length f.before = f.at in omega arith;
    none = rw (free, f.none) refl;
    others = f.others;
  }

  pub first_held : (n : ℕ) (l : List (Fate × T)) (i : ℕ) (x : T) (rest : List (ℕ × T)) → picked is_stored n l ≡ (i, x) ∷ rest → Front n l i x rest
  first_held n [] i x rest is = cc
  first_held n ((Stored, y) ∷ l) i x rest is =
      let pair : ◌≡◌ {A = ℕ × T} (n, y) (i, x) = cc in
      let same : y ≡ x = ap (λ (p : ℕ × T). p.1) pair in
      let at : n ≡ i = ap (λ (p : ℕ × T). p.0) pair in
      let others : picked is_stored (n + 1) l ≡ rest = cc in record {
        before = [];
        after = l;
        parts = ap (λ z. (Stored, z) ∷ l) same;
        at = sym at ∙ sym (add-zero n);
        none = refl;
        others = ap (λ k. picked is_stored (k + 1) l) (sym at) ∙ others;
      }
  first_held n ((Taken, y) ∷ l) i x rest is = behind n (Taken, y) l i x rest refl (first_held (n + 1) l i x rest is)
  first_held n ((Dropped, y) ∷ l) i x rest is = behind n (Dropped, y) l i x rest refl (first_held (n + 1) l i x rest is)

  split_cond : (b : Bool) (y : ℕ × T) (l : List (ℕ × T)) → cond b (y ∷ l) l ≡ cond b (y ∷ []) [] ++ l
  split_cond true y l = refl
  split_cond false y l = refl

  -- a value in the middle of the list
  pub picked-middle : (p : Fate → Bool) (n : ℕ) (before : List (Fate × T)) (e : Fate × T) (after : List (Fate × T))
      → picked p n (before ++ e ∷ after) ≡ picked p n before ++ (cond (p e.0) ((n + length before, e.1) ∷ []) [] ++ picked p (n + length before + 1) after)
  picked-middle p n before e after = picked-append p n before (e ∷ after) ∙ ap (λ t. picked p n before ++ t) (split_cond (p e.0) (n + length before, e.1) (picked p (n + length before + 1) after))

  -- the first held value gets a fate, and is decided
  abbrev pub turned : List (Fate × T) → List (Fate × T) → Fate → T → List (Fate × T)
  turned decided before f x = decided ++ (before ++ (f, x) ∷ [])

  module _ (decided before : List (Fate × T)) (f : Fate) (x : T) where
    pub turned-length : length (turned decided before f x) ≡ length decided + length before + 1
    turned-length = omega (arith, length-append decided (before ++ (f, x) ∷ []), length-append before ((f, x) ∷ []))

    pub turned-parts : (after : List (Fate × T)) → turned decided before f x ++ after ≡ decided ++ (before ++ (f, x) ∷ after)
    turned-parts after = append_assoc decided (before ++ (f, x) ∷ []) after ∙ ap (λ t. decided ++ t) (append_assoc before ((f, x) ∷ []) after)

    picked-last : (p : Fate → Bool) (n : ℕ) → picked p n (before ++ (f, x) ∷ []) ≡ picked p n before ++ cond (p f) ((n + length before, x) ∷ []) []
    picked-last p n = picked-append p n before ((f, x) ∷ [])

    pub turned-picked : (p : Fate → Bool) → picked p 0 (turned decided before f x) ≡ picked p 0 decided ++ (picked p (length decided) before ++ cond (p f) ((length decided + length before, x) ∷ []) [])
    turned-picked p =
        picked-append p 0 decided (before ++ (f, x) ∷ [])
        ∙ ap (λ t. picked p 0 decided ++ t) (ap (λ n. picked p n (before ++ (f, x) ∷ [])) (zero-add (length decided)) ∙ picked-last p (length decided))

  -- one entry more that doesn't pass
  pub picked_same : (p : Fate → Bool) (n : ℕ) (l : List (Fate × T)) (e : Fate × T) → p e.0 ≡ false → picked p n (l ++ e ∷ []) ≡ picked p n l
  picked_same p n l e without = picked-append p n l (e ∷ []) ∙ (ap (λ b. picked p n l ++ cond b ((n + length l, e.1) ∷ []) []) without ∙ append-nil (picked p n l))

  -- which of two fates a value has changes nothing for a test that both pass or both fail
  pub picked-alike : (p : Fate → Bool) (f g : Fate) → p f ≡ p g → (n : ℕ) (l : List (Fate × T)) (x : T) (m : List (Fate × T)) → picked p n (l ++ (f, x) ∷ m) ≡ picked p n (l ++ (g, x) ∷ m)
  picked-alike p f g same n l x m =
      picked-middle p n l (f, x) m
      ∙ (ap (λ b. picked p n l ++ (cond b ((n + length l, x) ∷ []) [] ++ picked p (n + length l + 1) m)) same
      ∙ sym (picked-middle p n l (g, x) m))

  pub marked-middle : (l : List (Fate × T)) (e : Fate × T) (m : List (Fate × T)) → marked (l ++ e ∷ m) ≡ marked l ++ (is_dropped e.0, e.1) ∷ marked m
  marked-middle l e m = map-append (λ (y : Fate × T). (is_dropped y.0, y.1)) l (e ∷ m)
