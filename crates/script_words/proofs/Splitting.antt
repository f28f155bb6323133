-- Where the first newline stands the first line ends, and where the first space stands the first word ends.
use Rattle.std.proofs.Common.{◌≡◌, ℕ, zero, suc, ◌+◌, ◌-◌, ◌<◌, Bool, true, false, not, ◌&&◌, ◌==◌, ◌⊎◌, inl, inr, List, [], ◌∷◌, length, take, drop, get_or, Option, Some, None, nat_lt, refl, sym, ap, ◌∙◌, arith}
use Rattle.std.specs.List.{position_or_len, position}
use Rattle.std.proofs.lemmas.List.Sums.{prefix_len-le-length}
use borrow.Author.Tests.{ltb-true, ltb-false}
use Rattle.std.proofs.lemmas.Bool.{eqb-true}
use Rattle.script_words.specs.Lines.{is_newline, is_return, is_space, is_no_space, starts_with_newline, starts_with_word, onto_first, lines_of, words_of, without_return}

bool_cases : (b : Bool) → (b ≡ true) ⊎ (b ≡ false)
bool_cases true = inl refl
bool_cases false = inr refl

-- what a test for an empty slice says
pub nonempty : (n : ℕ) → false ≡ (n == 0) → 0 < n
nonempty zero e = cc
nonempty (suc n) e = omega arith

pub none_there : (xs : List ℕ) → true ≡ (length xs == 0) → xs ≡ []
none_there [] e = refl
none_there (x ∷ xs) e = absurd (let n : suc (length xs) ≡ 0 = eqb-true (suc (length xs)) 0 (sym e) in omega arith)

-- a newline ends the line
newline_first : (b : ℕ) (bs : List ℕ) → is_newline b ≡ true → lines_of (b ∷ bs) ≡ [] ∷ lines_of bs
newline_first b bs h = rw h refl

return_first : (b : ℕ) (bs : List ℕ) → is_newline b ≡ false → (is_return b && starts_with_newline bs) ≡ true → lines_of (b ∷ bs) ≡ lines_of bs
return_first b bs h k = rw (h, k) refl

plain_first : (b : ℕ) (bs : List ℕ) → is_newline b ≡ false → (is_return b && starts_with_newline bs) ≡ false → lines_of (b ∷ bs) ≡ onto_first b (lines_of bs)
plain_first b bs h k = rw (h, k) refl

and_false : (a b : Bool) → b ≡ false → (a && b) ≡ false
and_false true b h = h
and_false false b h = refl

-- the test passes at the front
here : (t : ℕ → Bool) (b : ℕ) (bs : List ℕ) → position_or_len t (b ∷ bs) ≡ zero → t b ≡ true
here t b bs p = elim (bool_cases (t b)) [ inl h ↦ h | inr h ↦ absurd (let one : 1 + position_or_len t bs ≡ 0 = rw h at p in omega arith) ]

-- the test fails at the front
later : (t : ℕ → Bool) (b : ℕ) (bs : List ℕ) (k : ℕ) → position_or_len t (b ∷ bs) ≡ suc k → (t b ≡ false) × (position_or_len t bs ≡ k)
later t b bs k p = elim (bool_cases (t b)) [ inl h ↦ absurd (let none : 0 ≡ suc k = rw h at p in omega arith) | inr h ↦ (h, (let more : 1 + position_or_len t bs ≡ suc k = rw h at p in omega arith)) ]

-- a line whose last byte is a carriage return, and any other line
pub last_return : (xs : List ℕ) (n : ℕ) → length xs ≡ suc n → get_or xs n 0 ≡ 13 → without_return xs ≡ take n xs
last_return [] n l h = absurd (omega arith)
last_return (b ∷ []) zero l h = rw h refl
last_return (b ∷ []) (suc n) l h = absurd (let e : 1 ≡ suc (suc n) = l in omega arith)
last_return (b ∷ c ∷ cs) zero l h = absurd (let e : suc (suc (length cs)) ≡ 1 = l in omega arith)
last_return (b ∷ c ∷ cs) (suc n) l h = ap (λ bs. b ∷ bs) (last_return (c ∷ cs) n (omega (arith, l)) h)

pub other_last : (xs : List ℕ) (n : ℕ) → length xs ≡ suc n → is_return (get_or xs n 0) ≡ false → without_return xs ≡ xs
other_last [] n l h = refl
other_last (b ∷ []) zero l h = rw h refl
other_last (b ∷ []) (suc n) l h = absurd (let e : 1 ≡ suc (suc n) = l in omega arith)
other_last (b ∷ c ∷ cs) zero l h = absurd (let e : suc (suc (length cs)) ≡ 1 = l in omega arith)
other_last (b ∷ c ∷ cs) (suc n) l h = ap (λ bs. b ∷ bs) (other_last (c ∷ cs) n (omega (arith, l)) h)

abbrev the_none : Option ℕ
the_none = None

not_return : (b : ℕ) → (b ≡ 13 → ⊥) → is_return b ≡ false
not_return b h = elim (bool_cases (is_return b)) [ inl e ↦ absurd (h (eqb-true b 13 e)) | inr e ↦ e ]

pub other_end : (xs : List ℕ) → 0 < length xs → (get_or xs (length xs - 1) 0 ≡ 13 → ⊥) → without_return xs ≡ xs
other_end xs some h = other_last xs (length xs - 1) (omega arith) (not_return (get_or xs (length xs - 1) 0) h)

-- what a place found says
pub found : (t : ℕ → Bool) (xs : List ℕ) (k : ℕ) → position t xs ≡ Some k → (position_or_len t xs ≡ k) × (k < length xs)
found t xs k e = elim (bool_cases (nat_lt (position_or_len t xs) (length xs))) [
  | inl h ↦ let same : Some (position_or_len t xs) ≡ Some k = rw h at e in let k_is : position_or_len t xs ≡ k = cc in (k_is, omega (arith, ltb-true, h))
  | inr h ↦ let none : the_none ≡ Some k = rw h at e in cc
]

pub not_found : (t : ℕ → Bool) (xs : List ℕ) → position t xs ≡ None → position_or_len t xs ≡ length xs
not_found t xs e = elim (bool_cases (nat_lt (position_or_len t xs) (length xs))) [
  | inl h ↦ let some : Some (position_or_len t xs) ≡ the_none = rw h at e in cc
  | inr h ↦ omega (arith, ltb-false, h, prefix_len-le-length (λ b. not (t b)) xs)
]

-- with the first newline at k, what is before it is the first line
abbrev SplitsAt : List ℕ → ℕ → Type 0
SplitsAt xs k = lines_of xs ≡ without_return (take k xs) ∷ lines_of (drop (suc k) xs)

-- the byte right before the newline
ended : (b c : ℕ) (cs : List ℕ) (r : Bool) → is_newline b ≡ false → is_newline c ≡ true → is_return b ≡ r → SplitsAt (b ∷ c ∷ cs) 1
ended b c cs true h k e = rw (h, k, e) refl
ended b c cs false h k e = rw (h, k, e) refl

pub newline_splits : (xs : List ℕ) (k : ℕ) → position_or_len is_newline xs ≡ k → k < length xs → SplitsAt xs k
newline_splits [] k p small = absurd (omega arith)
newline_splits (b ∷ bs) zero p small = newline_first b bs (here is_newline b bs p)
newline_splits (b ∷ []) (suc k) p small = absurd (let few : suc k < 1 = small in omega arith)
newline_splits (b ∷ c ∷ cs) (suc zero) p small =
    let l = later is_newline b (c ∷ cs) zero p in
    ended b c cs (is_return b) l.0 (here is_newline c cs l.1) refl
newline_splits (b ∷ c ∷ cs) (suc (suc k)) p small =
    let l = later is_newline b (c ∷ cs) (suc k) p in
    let n = later is_newline c cs k l.1 in
    plain_first b (c ∷ cs) l.0 (and_false (is_return b) (is_newline c) n.0)
    ∙ ap (onto_first b) (newline_splits (c ∷ cs) (suc k) l.1 (omega arith))

-- without a newline all is one line
pub no_newline : (xs : List ℕ) → position_or_len is_newline xs ≡ length xs → 0 < length xs → lines_of xs ≡ xs ∷ []
no_newline [] p some = absurd (omega arith)
no_newline (b ∷ []) p some = let l = later is_newline b [] zero p in plain_first b [] l.0 (and_false (is_return b) false refl)
no_newline (b ∷ c ∷ cs) p some =
    let l = later is_newline b (c ∷ cs) (length (c ∷ cs)) p in
    let n = later is_newline c cs (length cs) l.1 in
    plain_first b (c ∷ cs) l.0 (and_false (is_return b) (is_newline c) n.0)
    ∙ ap (onto_first b) (no_newline (c ∷ cs) l.1 (omega arith))

-- spaces in front belong to no word
space_first : (b : ℕ) (bs : List ℕ) → is_space b ≡ true → words_of (b ∷ bs) ≡ words_of bs
space_first b bs h = rw h refl

-- where spaces stand up to k, the words stand from k on
pub record StartsAt (xs : List ℕ) (k : ℕ) : Type 0 where
  pub word : starts_with_word (drop k xs) ≡ true
  pub words : words_of xs ≡ words_of (drop k xs)

not_not : (b : Bool) → not b ≡ true → b ≡ false
not_not true h = cc
not_not false h = refl

not_false : (b : Bool) → not b ≡ false → b ≡ true
not_false true h = refl
not_false false h = cc

pub spaces_skip : (xs : List ℕ) (k : ℕ) → position_or_len is_no_space xs ≡ k → k < length xs → StartsAt xs k
spaces_skip [] k p small = absurd (omega arith)
spaces_skip (b ∷ bs) zero p small = record { word = (let h = not_not (is_space b) (here is_no_space b bs p) in rw h refl); words = refl }
spaces_skip (b ∷ bs) (suc k) p small =
    let l = later is_no_space b bs k p in
    let rest = spaces_skip bs k l.1 (omega arith) in
    record { word = rest.word; words = space_first b bs (not_false (is_space b) l.0) ∙ rest.words }

pub only_spaces : (xs : List ℕ) → position_or_len is_no_space xs ≡ length xs → words_of xs ≡ []
only_spaces [] p = refl
only_spaces (b ∷ bs) p =
    let l = later is_no_space b bs (length bs) p in
    space_first b bs (not_false (is_space b) l.0) ∙ only_spaces bs l.1

word_ends : (b : ℕ) (bs : List ℕ) → is_space b ≡ false → starts_with_word bs ≡ false → words_of (b ∷ bs) ≡ (b ∷ []) ∷ words_of bs
word_ends b bs h k = rw (h, k) refl

word_grows : (b : ℕ) (bs : List ℕ) → is_space b ≡ false → starts_with_word bs ≡ true → words_of (b ∷ bs) ≡ onto_first b (words_of bs)
word_grows b bs h k = rw (h, k) refl

starts_not : (b : ℕ) (bs : List ℕ) → is_space b ≡ true → starts_with_word (b ∷ bs) ≡ false
starts_not b bs h = rw h refl

starts : (b : ℕ) (bs : List ℕ) → is_space b ≡ false → starts_with_word (b ∷ bs) ≡ true
starts b bs h = rw h refl

-- what is before the first space is the first word
grown_word : (b : ℕ) (bs : List ℕ) (k : ℕ) → is_space b ≡ false → position_or_len is_space bs ≡ k → words_of (b ∷ bs) ≡ (b ∷ take k bs) ∷ words_of (drop k bs)
grown_word b [] k h p = let none : 0 ≡ k = p in rw (← none) (word_ends b [] h refl)
grown_word b (c ∷ cs) zero h p = word_ends b (c ∷ cs) h (starts_not c cs (here is_space c cs p))
grown_word b (c ∷ cs) (suc k) h p =
    let l = later is_space c cs k p in
    word_grows b (c ∷ cs) h (starts c cs l.0) ∙ ap (onto_first b) (grown_word c cs k l.0 l.1)

pub word_splits : (xs : List ℕ) (k : ℕ) → starts_with_word xs ≡ true → position_or_len is_space xs ≡ k → words_of xs ≡ take k xs ∷ words_of (drop k xs)
word_splits [] k s p = cc
word_splits (b ∷ bs) zero s p = let h = here is_space b bs p in let e : false ≡ true = sym (starts_not b bs h) ∙ s in cc
word_splits (b ∷ bs) (suc k) s p = let l = later is_space b bs k p in grown_word b bs k l.0 l.1

pub word_last : (xs : List ℕ) → starts_with_word xs ≡ true → position_or_len is_space xs ≡ length xs → words_of xs ≡ xs ∷ []
word_last [] s p = cc
word_last (b ∷ []) s p = let l = later is_space b [] zero p in word_ends b [] l.0 refl
word_last (b ∷ c ∷ cs) s p =
    let l = later is_space b (c ∷ cs) (length (c ∷ cs)) p in
    let n = later is_space c cs (length cs) l.1 in
    word_grows b (c ∷ cs) l.0 (starts c cs n.0) ∙ ap (onto_first b) (word_last (c ∷ cs) (starts c cs n.0) l.1)

-- the word that stands between two places
pub next_word : (xs rest word left : List ℕ) (start end : ℕ) → Some start ≡ position is_no_space xs → rest ≡ drop start xs → Some end ≡ position is_space rest → word ≡ take end rest → left ≡ drop end rest → words_of xs ≡ word ∷ words_of left
next_word xs rest word left start end p r q w l =
    let f = found is_no_space xs start (sym p) in
    let s = spaces_skip xs start f.0 f.1 in
    let e = found is_space rest end (sym q) in
    let begins : starts_with_word rest ≡ true = ap starts_with_word r ∙ s.word in
    s.words ∙ ap words_of (sym r) ∙ word_splits rest end begins e.0 ∙ rw (w, l) refl

pub final_word : (xs rest : List ℕ) (start : ℕ) → Some start ≡ position is_no_space xs → rest ≡ drop start xs → None ≡ position is_space rest → words_of xs ≡ rest ∷ []
final_word xs rest start p r q =
    let f = found is_no_space xs start (sym p) in
    let s = spaces_skip xs start f.0 f.1 in
    let begins : starts_with_word rest ≡ true = ap starts_with_word r ∙ s.word in
    s.words ∙ ap words_of (sym r) ∙ word_last rest begins (not_found is_space rest (sym q))
