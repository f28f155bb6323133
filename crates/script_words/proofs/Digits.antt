-- Numbers, digit by digit.
use Rattle.std.proofs.Common.{◌≡◌, ℕ, ◌+◌, ◌*◌, ◌-◌, ◌^◌, ◌<◌, ◌≤◌, Bool, true, false, List, [], ◌∷◌, length, drop, get_or, Option, Some, None, nat_lt, refl, sym, ap, ◌∙◌, arith, add-one}
use Rattle.std.specs.Char.{is_ascii_digit}
use Rattle.std.proofs.lemmas.Bool.{le-ltb, lt-ltb, ltb-false}
use Rattle.std.proofs.Math.Seq.{drop-cons}
use Rattle.script_words.specs.Fields.{digits_from, below_limit, number_of}

abbrev the_none : Option ℕ
the_none = None

not_below : (n : ℕ) → 2 ^ 64 ≤ n → below_limit (Some n) ≡ None
not_below n h = rw (le-ltb n (2 ^ 64) h) refl

-- one more digit and those after it
pub one_digit : (n d : ℕ) (ds : List ℕ) → is_ascii_digit d ≡ true → digits_from n (d ∷ ds) ≡ digits_from (n * 10 + (d - 48)) ds
one_digit n d ds h = rw h refl

pub no_digit : (n d : ℕ) (ds : List ℕ) → is_ascii_digit d ≡ false → digits_from n (d ∷ ds) ≡ None
no_digit n d ds h = rw h refl

-- a number past the limit stays past it
pub past_limit : (n : ℕ) (ds : List ℕ) → 2 ^ 64 ≤ n → below_limit (digits_from n ds) ≡ None
past_limit n [] h = not_below n h
past_limit n (d ∷ ds) h =
    let more : below_limit (digits_from (n * 10 + (d - 48)) ds) ≡ None = past_limit (n * 10 + (d - 48)) ds (omega arith) in
    let digit : (b : Bool) → is_ascii_digit d ≡ b → below_limit (digits_from n (d ∷ ds)) ≡ None = λ b. elim b as (λ v. is_ascii_digit d ≡ v → below_limit (digits_from n (d ∷ ds)) ≡ None) [ true ↦ λ e. ap below_limit (one_digit n d ds e) ∙ more | false ↦ λ e. ap below_limit (no_digit n d ds e) ] in
    digit (is_ascii_digit d) refl

pub number_is : (word : List ℕ) → 0 < length word → length word ≤ 20 → number_of word ≡ below_limit (digits_from 0 word)
number_is [] some few = absurd (omega arith)
number_is (d ∷ ds) some few = rw (lt-ltb (length ds) 20 (omega arith)) refl

pub too_long : (word : List ℕ) → 20 < length word → number_of word ≡ None
too_long [] h = refl
too_long (d ∷ ds) h = rw (le-ltb (length ds) 20 (omega arith)) refl

-- what stands from a place on begins with what is at it
pub from_place : (word : List ℕ) (i : ℕ) → i < length word → drop i word ≡ get_or word i 0 ∷ drop (i + 1) word
from_place word i h = rw (add-one i) (drop-cons word i 0 h)

no_room : (m : ℕ) → below_limit (Some m) ≡ None → 2 ^ 64 ≤ m
no_room m e =
    let test : (b : Bool) → nat_lt m (2 ^ 64) ≡ b → 2 ^ 64 ≤ m = λ b. elim b as (λ v. nat_lt m (2 ^ 64) ≡ v → 2 ^ 64 ≤ m) [
      | true ↦ λ h. let some : Some m ≡ the_none = rw h at e in absurd (cc)
      | false ↦ λ h. ltb-false m (2 ^ 64) h
    ] in
    test (nat_lt m (2 ^ 64)) refl

-- a digit that passes the limit makes the word no number
pub overflows : (n : ℕ) (word : List ℕ) (i : ℕ) → i < length word → is_ascii_digit (get_or word i 0) ≡ true → below_limit (Some (n * 10 + (get_or word i 0 - 48))) ≡ None → digits_from n (drop i word) ≡ digits_from 0 word → below_limit (digits_from 0 word) ≡ None
overflows n word i small digit none said =
    ap below_limit (sym said ∙ ap (digits_from n) (from_place word i small) ∙ one_digit n (get_or word i 0) (drop (i + 1) word) digit)
    ∙ past_limit (n * 10 + (get_or word i 0 - 48)) (drop (i + 1) word) (no_room _ none)

pub is_number : (n : ℕ) (word : List ℕ) → n < 2 ^ 64 → 0 < length word → length word ≤ 20 → digits_from 0 word ≡ Some n → number_of word ≡ Some n
is_number n word small some few said = number_is word some few ∙ ap below_limit said ∙ rw (lt-ltb n (2 ^ 64) small) refl
