-- The last values of a list.
use Rattle.std.proofs.Common.{◌≡◌, ℕ, zero, suc, ◌+◌, ◌-◌, ◌<◌, ◌≤◌, min, List, [], ◌∷◌, ◌++◌, length, drop, slice_get, refl, sym, ap, ◌∙◌, arith, length-append, length-drop}
use Rattle.std.proofs.lemmas.List.{drop-append-le, drop-drop}
use Rattle.circular_buffer.specs.Buffer.{keep_last}

-- a value of what is left of a list
pub got_dropped : {X : Type 0} (n i : ℕ) (xs : List X) → slice_get (drop n xs) i ≡ slice_get xs (n + i)
got_dropped zero i xs = ap (slice_get xs) (omega arith)
got_dropped (suc n) i [] = refl
got_dropped (suc n) i (x ∷ xs) =
    let next : suc (n + i) ≡ suc n + i = omega arith in
    got_dropped n i xs ∙ ap (slice_get (x ∷ xs)) next

module _ {X : Type 0} where
  pub length-kept : (n : ℕ) (xs : List X) → n ≤ length xs → length (keep_last n xs) ≡ n
  length-kept n xs within = omega (arith, length-drop (length xs - n) xs, within)

  -- no more than there are
  pub length-kept_min : (n : ℕ) (xs : List X) → length (keep_last n xs) ≡ min n (length xs)
  length-kept_min n xs = omega (arith, length-drop (length xs - n) xs)

  pub kept-min : (n m : ℕ) (xs : List X) → m ≡ min n (length xs) → keep_last m xs ≡ keep_last n xs
  kept-min n m xs is = let same : length xs - m ≡ length xs - n = omega (arith, is) in ap (λ k. drop k xs) same

  pub kept-all : (n : ℕ) (xs : List X) → length xs ≤ n → keep_last n xs ≡ xs
  kept-all n xs all = let none : length xs - n ≡ 0 = omega (arith, all) in ap (λ k. drop k xs) none

  -- one more value at the end of a list that keeps the last `c` ones, and has so many
  pub kept-pushed : (n c : ℕ) (xs : List X) (v : X) → 0 < c → length xs ≡ c → c ≤ n
      → keep_last (n + 1) (keep_last c (xs ++ v ∷ [])) ≡ drop 1 (keep_last n xs) ++ v ∷ []
  kept-pushed n c xs v some full over =
      let ys = xs ++ v ∷ [] in
      let more : length ys ≡ length xs + 1 = length-append xs (v ∷ []) in
      let one : length ys - c ≡ 1 = omega (arith, more, full) in
      kept-all (n + 1) (keep_last c ys) (omega (arith, length-kept_min c ys, over))
      ∙ ap (λ k. drop k ys) one
      ∙ drop-append-le 1 xs (v ∷ []) (omega (arith, full, some))
      ∙ ap (λ zs. drop 1 zs ++ v ∷ []) (sym (kept-all n xs (omega (arith, full, over))))

  -- the last ones of the last ones
  kept-kept : (n c : ℕ) (ys : List X) → n ≤ c → n ≤ length ys → keep_last n (keep_last c ys) ≡ keep_last n ys
  kept-kept n c ys few within =
      let count = length-drop (length ys - c) ys in
      let sum : (length ys - c) + (length (keep_last c ys) - n) ≡ length ys - n = omega (arith, count, few, within) in
      drop-drop (length (keep_last c ys) - n) (length ys - c) ys ∙ ap (λ k. drop k ys) sum

  -- one more value at the end
  pub kept-push : (n c : ℕ) (xs : List X) (v : X) → n < c → n ≤ length xs → keep_last (n + 1) (keep_last c (xs ++ v ∷ [])) ≡ keep_last n xs ++ v ∷ []
  kept-push n c xs v few within =
      let more : length (xs ++ v ∷ []) ≡ length xs + 1 = length-append xs (v ∷ []) in
      let from : length (xs ++ v ∷ []) - (n + 1) ≡ length xs - n = omega (arith, more) in
      kept-kept (n + 1) c (xs ++ v ∷ []) (omega (arith, few)) (omega (arith, more, within))
      ∙ ap (λ k. drop k (xs ++ v ∷ [])) from
      ∙ drop-append-le (length xs - n) xs (v ∷ []) (omega arith)

  -- one more value at the end of a list that keeps the last `limit` ones
  pub kept-latest : (m n limit c : ℕ) (xs : List X) (v : X) → m ≡ min (n + 1) limit → n ≤ length xs → limit ≤ c
      → keep_last m (keep_last c (xs ++ v ∷ [])) ≡ drop ((length (keep_last n xs) + 1) - limit) (keep_last n xs ++ v ∷ [])
  kept-latest m n limit c xs v is within fits =
      let ys = xs ++ v ∷ [] in
      let d = (length (keep_last n xs) + 1) - limit in
      let more : length ys ≡ length xs + 1 = length-append xs (v ∷ []) in
      let count : length (keep_last n xs) ≡ n = length-kept n xs within in
      let from : length ys - m ≡ (length xs - n) + d = omega (arith, more, count, is, within) in
      kept-kept m c ys (omega (arith, is, fits)) (omega (arith, is, within, more))
      ∙ ap (λ k. drop k ys) from
      ∙ sym (drop-drop d (length xs - n) ys)
      ∙ ap (drop d) (drop-append-le (length xs - n) xs (v ∷ []) (omega arith))

  -- without the first of them
  pub kept-fewer : (n : ℕ) (xs : List X) → 0 < n → n ≤ length xs → keep_last (n - 1) xs ≡ drop 1 (keep_last n xs)
  kept-fewer n xs some within =
      let further : length xs - (n - 1) ≡ (length xs - n) + 1 = omega (arith, some, within) in
      ap (λ k. drop k xs) further ∙ sym (drop-drop 1 (length xs - n) xs)

  get-drop : (k : ℕ) (xs : List X) → slice_get (drop k xs) 0 ≡ slice_get xs k
  get-drop zero xs = refl
  get-drop (suc k) [] = refl
  get-drop (suc k) (x ∷ xs) = get-drop k xs

  -- the first of them
  pub first-kept : (n : ℕ) (xs : List X) → slice_get (keep_last n xs) 0 ≡ slice_get xs (length xs - n)
  first-kept n xs = get-drop (length xs - n) xs
