-- The values of a prelude as it is kept, four by four, and the preludes that are still being given.
use Rattle.std.proofs.Common.{◌≡◌, ℕ, zero, suc, ◌+◌, ◌-◌, ◌<◌, ◌≤◌, inr, Bool, true, false, cond, ◌||◌, eqb, List, [], ◌∷◌, ◌++◌, length, take, drop, map, set, get_or, Option, Some, None, IsSome, slice_get, refl, sym, ap, ◌∙◌, arith, length-append, length-drop}
use Rattle.std.proofs.Math.Seq.{take_all}
use Rattle.std.proofs.lemmas.Bool.{false≢true, eq-eqb}
use Rattle.std.proofs.lemmas.List.{take-append-drop, drop-drop, map-set}
use Rattle.std.proofs.lemmas.Option.{none-some, same_Some, slice_get-map, get_or_from_slice_get}
use Rattle.std.proofs.Math.ListN.{drop_of_length-le}
use Rattle.std.specs.Option.{option_map}
use Rattle.std.specs.List.{list_any, remove}
use Rattle.flow_terms.specs.Few.{values_of}
use Rattle.shared_core.specs.declared.prelude.Prelude.{Prelude}
use Rattle.shared_core.specs.declared.greetings.Greeting.{Greeting}
use Rattle.shared_core.specs.Greetings.{shown_greeting, IsLeft}
use Rattle.shared_core.specs.Preludes.{prelude_values, RestSeen, GivesFirst, left_at, begun_with, IsWithout, Greets, EndsGreeting}
use Rattle.shared_core.specs.Shown.{rest_of}
use Rattle.shared_core.proofs.Entries.{list_any-map, map-remove}
use Rattle.shared_core.proofs.Ticketing.{holds_there}

-- ---- a list from an index on

pub dropped_some : {X : Type 0} (n m : ℕ) (xs : List X) (x : X) → slice_get xs n ≡ Some x → n + 1 ≡ m → drop n xs ≡ x ∷ drop m xs
dropped_some n m [] x gets next = absurd (none-some _ gets)
dropped_some zero m (y ∷ xs) x gets next = ap (λ z. z ∷ xs) (same_Some y x gets) ∙ ap (λ k. x ∷ drop k (y ∷ xs)) next
dropped_some (suc n) m (y ∷ xs) x gets next =
    let further : suc (n + 1) ≡ m = omega (arith, next) in
    dropped_some n (n + 1) xs x gets refl ∙ ap (λ k. x ∷ drop k (y ∷ xs)) further

-- a list up to the next index
pub taken_next : {X : Type 0} (n m : ℕ) (xs : List X) (x : X) → slice_get xs n ≡ Some x → n + 1 ≡ m → take m xs ≡ take n xs ++ x ∷ []
taken_next n m [] x gets next = absurd (none-some _ gets)
taken_next zero m (y ∷ xs) x gets next = ap (λ k. take k (y ∷ xs)) (sym next) ∙ ap (λ z. z ∷ []) (same_Some y x gets)
taken_next (suc n) m (y ∷ xs) x gets next =
    let further : suc (n + 1) ≡ m = omega (arith, next) in
    ap (λ k. take k (y ∷ xs)) (sym further) ∙ ap (λ ys. y ∷ ys) (taken_next n (n + 1) xs x gets refl)

-- the first values from an index on
pub taken_none : {X : Type 0} (k n : ℕ) (xs : List X) → length xs ≤ n → take k (drop n xs) ≡ []
taken_none zero n xs past = refl
taken_none (suc k) n xs past = ap (take (suc k)) (drop_of_length-le xs past)

pub taken_some : {X : Type 0} (k n m : ℕ) (xs rest : List X) (x : X) → slice_get xs n ≡ Some x → n + 1 ≡ m → take k (drop m xs) ≡ rest → take (suc k) (drop n xs) ≡ x ∷ rest
taken_some k n m xs rest x gets next is = ap (take (suc k)) (dropped_some n m xs x gets next) ∙ ap (λ ys. x ∷ ys) is

-- 16 of them are four times four
pub in_fours : {X : Type 0} (xs : List X) → length xs ≤ 16 → take 4 (drop 0 xs) ++ (take 4 (drop 4 xs) ++ (take 4 (drop 8 xs) ++ take 4 (drop 12 xs))) ≡ xs
in_fours xs few =
    let last : take 4 (drop 12 xs) ≡ drop 4 (drop 8 xs) = take_all 4 (drop 12 xs) (omega (arith, length-drop 12 xs, few)) ∙ sym (drop-drop 4 8 xs) in
    let third = ap (λ ys. take 4 (drop 8 xs) ++ ys) last ∙ take-append-drop 4 (drop 8 xs) ∙ sym (drop-drop 4 4 xs) in
    let second = ap (λ ys. take 4 (drop 4 xs) ++ ys) third ∙ take-append-drop 4 (drop 4 xs) in
    ap (λ ys. take 4 (drop 0 xs) ++ ys) second ∙ take-append-drop 4 xs

pub length-prelude : {T : Type 0} (prelude : Prelude T) → length (prelude_values prelude) ≡ length (values_of prelude.first) + (length (values_of prelude.second) + (length (values_of prelude.third) + length (values_of prelude.fourth)))
length-prelude prelude =
    length-append (values_of prelude.first) _ ∙ ap (λ n. length (values_of prelude.first) + n) (length-append (values_of prelude.second) _
    ∙ ap (λ n. length (values_of prelude.second) + n) (length-append (values_of prelude.third) (values_of prelude.fourth)))

-- ---- a value of one list or of another after it

pub past_left : {X : Type 0} (xs : List X) (i : ℕ) → slice_get xs i ≡ None → length xs ≤ i
past_left [] i past = omega arith
past_left (x ∷ xs) zero past = absurd (cc)
past_left (x ∷ xs) (suc i) past = omega (arith, past_left xs i past)

pub in_left : {X : Type 0} (xs ys : List X) (i : ℕ) (x : X) → slice_get xs i ≡ Some x → slice_get (xs ++ ys) i ≡ Some x
in_left [] ys i x gets = absurd (none-some _ gets)
in_left (y ∷ xs) ys zero x gets = gets
in_left (y ∷ xs) ys (suc i) x gets = in_left xs ys i x gets

pub in_right : {X : Type 0} (xs ys : List X) (n i : ℕ) → n ≡ length xs → n ≤ i → slice_get (xs ++ ys) i ≡ slice_get ys (i - n)
in_right [] ys n i is past = let same : i ≡ i - n = omega (arith, is) in ap (slice_get ys) same
in_right (x ∷ xs) ys zero i is past = absurd (omega (arith, is))
in_right (x ∷ xs) ys (suc n) zero is past = absurd (omega (arith, past))
in_right (x ∷ xs) ys (suc n) (suc i) is past =
    let less : i - n ≡ suc i - suc n = omega arith in
    in_right xs ys n i (omega (arith, is)) (omega (arith, past)) ∙ ap (slice_get ys) less

pub some_within : {X : Type 0} (xs : List X) (i : ℕ) (r : Option X) → r ≡ slice_get xs i → i < length xs → IsSome r
some_within xs i None is within = absurd (omega (arith, past_left xs i (sym is), within))
some_within xs i (Some x) is within = refl

-- ---- entries

-- where a test for none says no, some is left
pub some_left : {X : Type 0} (xs : List X) (none : Bool) → (xs ≡ [] → none ≡ true) → none ≡ false → 0 < length xs
some_left [] none empty some = absurd (false≢true (sym some ∙ empty refl))
some_left (x ∷ xs) none empty some = omega arith

module _ {T : Type 0} where
  pub begun_some : (n : ℕ) (vs : List T) (entries : List (ℕ × List T)) → 0 < length vs → entries ++ (n, vs) ∷ [] ≡ begun_with n vs entries
  begun_some n [] entries some = absurd (omega arith)
  begun_some n (v ∷ vs) entries some = refl

  left_some : (at n : ℕ) (vs : List T) (entries : List (ℕ × List T)) → 0 < length vs → left_at at n vs entries ≡ set entries at (n, vs)
  left_some at n [] entries some = absurd (omega arith)
  left_some at n (v ∷ vs) entries some = refl

  -- the greeting that was read at an index
  module _ (greetings : List (Greeting T)) (at : ℕ) (read found : Greeting T) (is : read ≡ get_or greetings at read) (gets : slice_get greetings at ≡ Some found) where
    pub read_there : read ≡ found
    read_there = is ∙ get_or_from_slice_get greetings at found read gets

    pub left_there : ((k : ℕ) (d : Greeting T) → k < length greetings → IsLeft (get_or greetings k d)) → IsLeft read
    left_there all = holds_there IsLeft greetings at read all (gets ∙ ap Some (sym read_there))

  abbrev pub shown : List (Greeting T) → List (ℕ × List T)
  shown greetings = map shown_greeting greetings

  pub without_shown : (n : ℕ) (greetings : List (Greeting T)) → list_any (λ g. eqb g.number n) greetings ≡ false → IsWithout n (shown greetings)
  without_shown n greetings none = list_any-map (λ (e : ℕ × List T). eqb e.0 n) shown_greeting greetings ∙ none

  shown_at : (greetings : List (Greeting T)) (at : ℕ) (g : Greeting T) → slice_get greetings at ≡ Some g → slice_get (shown greetings) at ≡ Some (shown_greeting g)
  shown_at greetings at g gets = slice_get-map shown_greeting greetings at ∙ ap (option_map shown_greeting) gets

  module _ (n at : ℕ) (greetings : List (Greeting T)) (g : Greeting T) (gets : slice_get greetings at ≡ Some g) (named : g.number ≡ n) where
    -- the entry is given up
    pub ends_at : EndsGreeting n (shown greetings) (shown (remove greetings at))
    ends_at = inr (
      at,
      g.rest.left,
      shown_at greetings at g gets ∙ ap (λ m. Some (m, g.rest.left)) named,
      map-remove shown_greeting greetings at,
    )

    -- its first value is given, and these are left
    module _ (later : RestSeen T) where
      entry : (v : T) → g.rest.left ≡ v ∷ later.left → slice_get (shown greetings) at ≡ Some (n, v ∷ later.left)
      entry v first = shown_at greetings at g gets ∙ ap (λ vs. Some (g.number, vs)) first ∙ ap (λ m. Some (m, v ∷ later.left)) named

      pub greets_last : (value : Option T) → IsLeft g → GivesFirst g.rest.left value later.left → later.left ≡ [] → Greets n (shown greetings) value (shown (remove greetings at))
      greets_last None left gives last = absurd (omega (arith, left, ap length gives.0))
      greets_last (Some v) left gives last =
          (at, later.left, entry v gives, map-remove shown_greeting greetings at ∙ sym (ap (λ vs. left_at at n vs (shown greetings)) last))

      pub greets_one : (value : Option T) → IsLeft g → GivesFirst g.rest.left value later.left → 0 < length later.left → Greets n (shown greetings) value (shown (set greetings at (record g { rest = later })))
      greets_one None left gives more = absurd (omega (arith, left, ap length gives.0))
      greets_one (Some v) left gives more = (
        at,
        later.left,
        entry v gives,
        map-set shown_greeting greetings at (record g { rest = later }) ∙ ap (λ m. set (shown greetings) at (m, later.left)) named
            ∙ sym (left_some at n later.left (shown greetings) more),
      )

  -- what is left, by the first entry with the number
  pub rest_none : (n : ℕ) (entries : List (ℕ × List T)) → IsWithout n entries → rest_of n entries ≡ []
  rest_none n [] none = refl
  rest_none n (e ∷ entries) none =
      elim (eqb e.0 n) as (λ b. (b || list_any (λ x. eqb x.0 n) entries) ≡ false → cond b e.1 (rest_of n entries) ≡ []) [
        | true ↦ λ no. absurd (cc)
        | false ↦ λ later. rest_none n entries later
      ] none

  pub rest_found : (n at : ℕ) (greetings : List (Greeting T)) (g : Greeting T) → slice_get greetings at ≡ Some g → g.number ≡ n → list_any (λ g. eqb g.number n) (take at greetings) ≡ false
      → rest_of n (shown greetings) ≡ g.rest.left
  rest_found n at [] g gets named before = absurd (none-some _ gets)
  rest_found n zero (h ∷ greetings) g gets named before =
      let this = same_Some h g gets in
      ap (λ b. cond b h.rest.left (rest_of n (shown greetings))) (eq-eqb h.number n (ap (λ (x : Greeting T). x.number) this ∙ named))
      ∙ ap (λ (x : Greeting T). x.rest.left) this
  rest_found n (suc at) (h ∷ greetings) g gets named before =
      elim (eqb h.number n) as (λ b. (b || list_any (λ g. eqb g.number n) (take at greetings)) ≡ false → cond b h.rest.left (rest_of n (shown greetings)) ≡ g.rest.left) [
        | true ↦ λ no. absurd (cc)
        | false ↦ λ later. rest_found n at greetings g gets named later
      ] before
