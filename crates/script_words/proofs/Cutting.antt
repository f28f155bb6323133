-- Words before and after a place between words.
use Rattle.std.proofs.Common.{◌≡◌, ℕ, ◌+◌, ◌-◌, ◌⊎◌, inl, inr, Bool, true, false, List, [], ◌∷◌, ◌++◌, length, take, drop, get_or, length-append, Some, refl, sym, ap, ◌∙◌, subst, append_assoc, append-nil, arith}
use Rattle.std.specs.List.{All, position}
use Rattle.std.proofs.lemmas.List.{append_cancel_right, take-append-drop, take-append-le, take_all}
use Rattle.std.proofs.lemmas.List.Elements.{All-nil, All-cons, All-append}
use Rattle.std.proofs.lemmas.List.Sums.{passes_at_first}
use Rattle.std.proofs.lemmas.List.Splits.{slice_split_none, slice_split_at}
use Rattle.script_words.specs.Lines.{is_space, starts_with_word, onto_first, words_of}
use Rattle.script_words.specs.Cuts.{LeavesEnd}
use Rattle.script_words.specs.Segments.{is_bar, segments_of}
use Rattle.script_words.proofs.Digits.{from_place}
use Rattle.script_words.proofs.Splitting.{found}

starts_not : (b : ℕ) (bs : List ℕ) → is_space b ≡ true → starts_with_word (b ∷ bs) ≡ false
starts_not b bs h = rw h refl

-- no word begins at a space
pub space_at : (xs : List ℕ) (k : ℕ) → Some k ≡ position is_space xs → starts_with_word (drop k xs) ≡ false
space_at xs k p =
    let f = found is_space xs k (sym p) in
    let passes : is_space (get_or xs k 0) ≡ true = subst (λ i. is_space (get_or xs i 0) ≡ true) f.0 (passes_at_first is_space xs 0 (omega (arith, f.0, f.1))) in
    rw (from_place xs k f.1) (starts_not (get_or xs k 0) (drop (k + 1) xs) passes)

-- after a word, a space
pub leaves_space : (old rest new : List ℕ) (start end : ℕ) → rest ≡ drop start old → Some end ≡ position is_space rest → new ≡ drop end rest → LeavesEnd old new
leaves_space old rest new start end r p n = record {
  front = take start old ++ take end rest;
  splits = sym (append_assoc (take start old) (take end rest) new ∙ ap (λ ys. take start old ++ (take end rest ++ ys)) n ∙ ap (λ ys. take start old ++ ys) (take-append-drop end rest) ∙ ap (λ ys. take start old ++ ys) r ∙ take-append-drop start old);
  between = ap starts_with_word n ∙ space_at rest end p;
}

-- after the last word, nothing
pub leaves_nothing : (old : List ℕ) → LeavesEnd old []
leaves_nothing old = record { front = old; splits = sym (append-nil old); between = refl }

starts : (b : ℕ) (bs : List ℕ) → is_space b ≡ false → starts_with_word (b ∷ bs) ≡ true
starts b bs h = rw h refl

words_alone : (b : ℕ) (bs : List ℕ) → is_space b ≡ false → starts_with_word bs ≡ false → words_of (b ∷ bs) ≡ (b ∷ []) ∷ words_of bs
words_alone b bs h k = rw (h, k) refl

words_grow : (b : ℕ) (bs : List ℕ) → is_space b ≡ false → starts_with_word bs ≡ true → words_of (b ∷ bs) ≡ onto_first b (words_of bs)
words_grow b bs h k = rw (h, k) refl

onto : (b : ℕ) (ps qs : List (List ℕ)) → (ps ≡ [] → ⊥) → onto_first b (ps ++ qs) ≡ onto_first b ps ++ qs
onto b [] qs some = absurd (some refl)
onto b (p ∷ ps) qs some = refl

onto_some : (b : ℕ) (ps : List (List ℕ)) → onto_first b ps ≡ [] → ⊥
onto_some b [] e = cc
onto_some b (p ∷ ps) e = cc

some_words : (b : ℕ) (bs : List ℕ) (s : Bool) → is_space b ≡ false → starts_with_word bs ≡ s → words_of (b ∷ bs) ≡ [] → ⊥
some_words b bs true h k e = onto_some b (words_of bs) (rw (h, k) at e)
some_words b bs false h k e = let none : (b ∷ []) ∷ words_of bs ≡ [] = rw (h, k) at e in cc

-- the words of bytes with one byte more in front
with_space : (b : ℕ) (bs ys : List ℕ) → is_space b ≡ true → words_of (bs ++ ys) ≡ words_of bs ++ words_of ys → words_of ((b ∷ bs) ++ ys) ≡ words_of (b ∷ bs) ++ words_of ys
with_space b bs ys h e = rw h e

with_word : (b c : ℕ) (cs ys : List ℕ) (s : Bool) → is_space b ≡ false → is_space c ≡ s → words_of ((c ∷ cs) ++ ys) ≡ words_of (c ∷ cs) ++ words_of ys → words_of ((b ∷ c ∷ cs) ++ ys) ≡ words_of (b ∷ c ∷ cs) ++ words_of ys
with_word b c cs ys true h k e =
    words_alone b ((c ∷ cs) ++ ys) h (starts_not c (cs ++ ys) k)
    ∙ ap (λ ws. (b ∷ []) ∷ ws) e
    ∙ ap (λ ws. ws ++ words_of ys) (sym (words_alone b (c ∷ cs) h (starts_not c cs k)))
with_word b c cs ys false h k e =
    words_grow b ((c ∷ cs) ++ ys) h (starts c (cs ++ ys) k)
    ∙ ap (onto_first b) e
    ∙ onto b (words_of (c ∷ cs)) (words_of ys) (some_words c cs (starts_with_word cs) k refl)
    ∙ ap (λ ws. ws ++ words_of ys) (sym (words_grow b (c ∷ cs) h (starts c cs k)))

last_byte : (b : ℕ) (ys : List ℕ) (s : Bool) → starts_with_word ys ≡ false → is_space b ≡ s → words_of (b ∷ ys) ≡ words_of (b ∷ []) ++ words_of ys
last_byte b ys true h k = rw k refl
last_byte b ys false h k = words_alone b ys k h ∙ ap (λ ws. ws ++ words_of ys) (sym (words_alone b [] k refl))

first_byte : (b c : ℕ) (cs ys : List ℕ) (s : Bool) → is_space b ≡ s → words_of ((c ∷ cs) ++ ys) ≡ words_of (c ∷ cs) ++ words_of ys → words_of ((b ∷ c ∷ cs) ++ ys) ≡ words_of (b ∷ c ∷ cs) ++ words_of ys
first_byte b c cs ys true h e = with_space b (c ∷ cs) ys h e
first_byte b c cs ys false h e = with_word b c cs ys (is_space c) h refl e

-- no word goes over a place where none begins
words_join : (xs ys : List ℕ) → starts_with_word ys ≡ false → words_of (xs ++ ys) ≡ words_of xs ++ words_of ys
words_join [] ys h = refl
words_join (b ∷ []) ys h = last_byte b ys (is_space b) h refl
words_join (b ∷ c ∷ cs) ys h = first_byte b c cs ys (is_space b) refl (words_join (c ∷ cs) ys h)

-- The words up to a place, none of them a bar: the words of the whole are those and the ones from there on.
pub record Scanned (whole left : List ℕ) : Type 0 where
  pub front : List ℕ
  pub splits : whole ≡ front ++ left
  pub between : (front ≡ []) ⊎ (starts_with_word left ≡ false)
  pub plain : All (λ word. is_bar word ≡ false) (words_of front)

pub scan_begins : (whole : List ℕ) → Scanned whole whole
scan_begins whole = record { front = []; splits = refl; between = inl refl; plain = All-nil (λ word. is_bar word ≡ false) }

words_at : (whole front left : List ℕ) → whole ≡ front ++ left → (front ≡ []) ⊎ (starts_with_word left ≡ false) → words_of whole ≡ words_of front ++ words_of left
words_at whole front left e (inl none) = ap words_of (e ∙ ap (λ xs. xs ++ left) none) ∙ ap (λ xs. words_of xs ++ words_of left) (sym none)
words_at whole front left e (inr between) = ap words_of e ∙ words_join front left between

-- one word more, which is no bar
pub scan_more : (whole left new word : List ℕ) → Scanned whole left → LeavesEnd left new → words_of left ≡ word ∷ words_of new → is_bar word ≡ false → Scanned whole new
scan_more whole left new word s l w plain =
    let front = s.front ++ l.front in
    let splits : whole ≡ front ++ new = s.splits ∙ ap (λ xs. s.front ++ xs) l.splits ∙ sym (append_assoc s.front l.front new) in
    let words : words_of front ≡ words_of s.front ++ (word ∷ []) =
    append_cancel_right _ _ (words_of new)
    (sym (words_at whole front new splits (inr l.between))
    ∙ words_at whole s.front left s.splits s.between
    ∙ ap (λ ws. words_of s.front ++ ws) w
    ∙ sym (append_assoc (words_of s.front) (word ∷ []) (words_of new))) in
    record {
      front = front;
      splits = splits;
      between = inr l.between;
      plain = subst (All (λ w. is_bar w ≡ false)) (sym words) (All-append (λ w. is_bar w ≡ false) (words_of s.front) (word ∷ []) s.plain (All-cons (λ w. is_bar w ≡ false) word [] plain (All-nil (λ w. is_bar w ≡ false))));
    }

-- at a bar
pub cut_there : (whole left front new word : List ℕ) → Scanned whole left → words_of left ≡ word ∷ words_of new → is_bar word ≡ true → front ≡ take (length whole - length left) whole → segments_of (words_of whole) ≡ words_of front ∷ segments_of (words_of new)
cut_there whole left front new word s w bar f =
    let sizes : length whole ≡ length s.front + length left = ap length s.splits ∙ length-append s.front left in
    let same : front ≡ s.front = f ∙ ap (λ n. take n whole) (let e : length whole - length left ≡ length s.front = omega (arith, sizes) in e) ∙ ap (take (length s.front)) s.splits ∙ take-append-le (length s.front) s.front left (omega arith) ∙ take_all (length s.front) s.front (omega arith) in
    ap segments_of (words_at whole s.front left s.splits s.between ∙ ap (λ ws. words_of s.front ++ ws) w)
    ∙ slice_split_at is_bar (words_of s.front) word (words_of new) s.plain bar
    ∙ ap (λ xs. words_of xs ∷ segments_of (words_of new)) (sym same)

-- past the last word
pub cut_nowhere : (whole left : List ℕ) → Scanned whole left → words_of left ≡ [] → segments_of (words_of whole) ≡ words_of whole ∷ []
cut_nowhere whole left s none =
    let words : words_of whole ≡ words_of s.front = words_at whole s.front left s.splits s.between ∙ ap (λ ws. words_of s.front ++ ws) none ∙ append-nil (words_of s.front) in
    slice_split_none is_bar (words_of whole) (subst (All (λ w. is_bar w ≡ false)) (sym words) s.plain)
