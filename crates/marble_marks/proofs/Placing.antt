-- What comes to flows, by their rows.
use Rattle.std.proofs.Common.{◌≡◌, ◌≤◌, ◌<◌, ◌+◌, ◌==◌, ◌≢◌, ◌++◌, ◌∷◌, ◌∙◌, if◌then◌else◌, ℕ, zero, suc, Bool, true, false, List, [], map, drop, drop-cons, length, set, get_or, Vec, refl, sym, ap, subst, bytes_eq, arith, inl, inr, eq-eqb, le_refl, append_assoc, add-one}
use denote.Ref.{Bor}
use Rattle.std.specs.List.{flat_map}
use Rattle.std.proofs.lemmas.Bool.Decides.{eqb_tells}
use Rattle.std.proofs.lemmas.Slice.Eq.{bytes_eq-Decides}
use Rattle.marble_marks.specs.declared.moves.Move.{Move}
use Rattle.marble_marks.specs.declared.deed.Act.{Act}
use Rattle.marble_marks.specs.Deeds.{Doing, Done, doing_in, done_in}
use Rattle.marble_marks.specs.Deeds as deeds
use Rattle.marble_marks.specs.Marks.{Seen, row_after, row_of}
use Rattle.marble_marks.specs.Numbers.{moves_seen, numbered_on}
use Rattle.marble_marks.specs.Standings.{begun}
use Rattle.marble_marks.specs.Waiting.{waits_as, is_waiting, is_met}
use Rattle.marble_marks.specs.Moves.{row_moves, moves_on, on_row, put_at, has_row}

-- ---- rows and names

least_of : (is_its : Bool) (row rest : ℕ) → row + 1 ≤ rest → row ≤ (if is_its then row else rest)
least_of true row rest after = le_refl row
least_of false row rest after = omega arith

-- the row of a name is none of those before
after_least : (row : ℕ) (names : List (List ℕ)) (name : List ℕ) → row ≤ row_after row names name
after_least row [] name = le_refl row
after_least row (known ∷ names) name = least_of (bytes_eq known name) row (row_after (row + 1) names name) (after_least (row + 1) names name)

most_of : (is_its has : Bool) (row rest left : ℕ) → (has ≡ true → rest < (row + 1) + left) → (if is_its then true else has) ≡ true → (if is_its then row else rest) < row + suc left
most_of true has row rest left after told = omega arith
most_of false has row rest left after told = let last = after told in omega arith

-- the row of a name that has one is one of them
after_most : (row : ℕ) (names : List (List ℕ)) (name : List ℕ) → has_row names name ≡ true → row_after row names name < row + length names
after_most row [] name has = absurd (cc)
after_most row (known ∷ names) name has =
    most_of (bytes_eq known name) (has_row names name) row (row_after (row + 1) names name) (length names) (after_most (row + 1) names name) has

pub row_within : (names : List (List ℕ)) (name : List ℕ) → has_row names name ≡ true → row_of names name ≤ length names
row_within names name has = let last = after_most 1 names name has in omega arith

pub has_first : (name : List ℕ) (names : List (List ℕ)) → has_row (name ∷ names) name ≡ true
has_first name names = ap (λ is. if is then true else has_row names name) ((bytes_eq-Decides name name).1 refl)

-- what holds of one of those behind holds with one more before them
pub or_behind : (is_its behind : Bool) → behind ≡ true → (if is_its then true else behind) ≡ true
or_behind true behind told = refl
or_behind false behind told = told

-- ---- lists by rows

module _ {A : Type 0} where
  pub on_row_at : (by_row : List (Vec Move A)) (row : ℕ) (held : Vec Move A) → held ≡ get_or by_row row held → row < length by_row → held.items ≡ on_row by_row row
  on_row_at [] row held is within = absurd (omega arith)
  on_row_at (first ∷ rest) zero held is within = ap (λ (v : Vec Move A). v.items) is
  on_row_at (first ∷ rest) (suc row) held is within = on_row_at rest row held is (omega arith)

  pub on_row_past : (by_row : List (Vec Move A)) (row : ℕ) → length by_row ≤ row → [] ≡ on_row by_row row
  on_row_past [] row past = refl
  on_row_past (first ∷ rest) zero past = absurd (omega arith)
  on_row_past (first ∷ rest) (suc row) past = on_row_past rest row (omega arith)

  pub none_put : (by_row : List (Vec Move A)) (new : Vec Move A) → ((row : ℕ) → on_row by_row row ≡ []) → new.items ≡ [] → (row : ℕ) → on_row (by_row ++ new ∷ []) row ≡ []
  none_put [] new none is zero = is
  none_put [] new none is (suc row) = refl
  none_put (first ∷ rest) new none is zero = none 0
  none_put (first ∷ rest) new none is (suc row) = none_put rest new (λ at. none (suc at)) is row

  put_there : (by_row : List (Vec Move A)) (row : ℕ) (held new : Vec Move A) (it : Move) → held ≡ get_or by_row row held → row < length by_row → new.items ≡ held.items ++ it ∷ []
      → on_row (set by_row row new) row ≡ on_row by_row row ++ it ∷ []
  put_there [] row held new it is within made = absurd (omega arith)
  put_there (first ∷ rest) zero held new it is within made = made ∙ ap (λ (v : Vec Move A). v.items ++ it ∷ []) is
  put_there (first ∷ rest) (suc row) held new it is within made = put_there rest row held new it is (omega arith) made

  put_elsewhere : (by_row : List (Vec Move A)) (row other : ℕ) (new : Vec Move A) → row ≢ other → on_row (set by_row row new) other ≡ on_row by_row other
  put_elsewhere [] row other new apart = refl
  put_elsewhere (first ∷ rest) zero zero new apart = absurd (apart refl)
  put_elsewhere (first ∷ rest) zero (suc other) new apart = refl
  put_elsewhere (first ∷ rest) (suc row) zero new apart = refl
  put_elsewhere (first ∷ rest) (suc row) (suc other) new apart = put_elsewhere rest row other new (λ is. apart (ap suc is))

  -- what is added to the list of a row comes to it, and to no other
  pub put_one : (by_row : List (Vec Move A)) (row : ℕ) (held new : Vec Move A) (it : Move) → held ≡ get_or by_row row held → row < length by_row → new.items ≡ held.items ++ it ∷ []
      → (other : ℕ) → on_row (set by_row row new) other ≡ put_at (on_row by_row other) row it other
  put_one by_row row held new it is within made other = elim (eqb_tells row other) [
    | inl same ↦
        let here : (row == row) ≡ true = eq-eqb row row refl in
        subst (λ at. on_row (set by_row row new) at ≡ put_at (on_row by_row at) row it at) same.1 (rw here (put_there by_row row held new it is within made))
    | inr apart ↦ rw apart.0 (put_elsewhere by_row row other new apart.1)
  ]

-- ---- one step of a list

pub drop_step : {X : Type 0} (xs : List X) (i : ℕ) (d : X) → i < length xs → drop i xs ≡ get_or xs i d ∷ drop (i + 1) xs
drop_step xs i d within = drop-cons xs i d within ∙ ap (λ k. get_or xs i d ∷ drop k xs) (sym (add-one i))

one_more : {X Y : Type 0} (f : X → List Y) (x : X) (rest : List X) (before after whole : List Y) → after ≡ before ++ f x → before ++ flat_map f (x ∷ rest) ≡ whole → after ++ flat_map f rest ≡ whole
one_more f x rest before after whole made was = ap (λ ys. ys ++ flat_map f rest) made ∙ append_assoc before (f x) (flat_map f rest) ∙ was

pub put_more : (names : List (List ℕ)) (all : List Done) (row : ℕ) (acts : List Act) (i : ℕ) (d : Act) (before after whole : List Move) → i < length acts
    → after ≡ before ++ row_moves names all row (done_in (get_or acts i d)) → before ++ moves_on names all row (map done_in (drop i acts)) ≡ whole
    → after ++ moves_on names all row (map done_in (drop (i + 1) acts)) ≡ whole
put_more names all row acts i d before after whole within made was =
    one_more (row_moves names all row) (done_in (get_or acts i d)) (map done_in (drop (i + 1) acts)) before after whole made
    (ap (λ left. before ++ moves_on names all row (map done_in left)) (sym (drop_step acts i d within)) ∙ was)

met_one : (all : List Done) (doing : Doing) → ((ticket : List ℕ) → waits_as ticket doing ≡ true → is_waiting ticket all ≡ true) → is_met all doing ≡ true
met_one all (deeds.waits host ticket value) told = told ticket ((bytes_eq-Decides ticket ticket).1 refl)
met_one all _ told = refl

-- whoever waits in one of these lines is met among all
pub met_here : (all : List Done) (acts : List Act) (i : ℕ) (d : Act) → i < length acts → ((ticket : List ℕ) → is_waiting ticket (map done_in (drop i acts)) ≡ true → is_waiting ticket all ≡ true)
    → is_met all (doing_in (get_or acts i d).deed) ≡ true
met_here all acts i d within met = met_one all (doing_in (get_or acts i d).deed) (λ ticket waits. met ticket
    (ap (λ left. is_waiting ticket (map done_in left)) (drop_step acts i d within) ∙ ap (λ is. if is then true else is_waiting ticket (map done_in (drop (i + 1) acts))) waits))

met_behind : (all : List Done) (acts : List Act) (i : ℕ) (d : Act) → i < length acts → ((ticket : List ℕ) → is_waiting ticket (map done_in (drop i acts)) ≡ true → is_waiting ticket all ≡ true)
    → (ticket : List ℕ) → is_waiting ticket (map done_in (drop (i + 1) acts)) ≡ true → is_waiting ticket all ≡ true
met_behind all acts i d within met ticket waits = met ticket
    (ap (λ left. is_waiting ticket (map done_in left)) (drop_step acts i d within) ∙ or_behind (waits_as ticket (doing_in (get_or acts i d).deed)) (is_waiting ticket (map done_in (drop (i + 1) acts))) waits)

pub met_later : (all : List Done) (acts : List Act) (i : ℕ) → i < length acts → ((ticket : List ℕ) → is_waiting ticket (map done_in (drop i acts)) ≡ true → is_waiting ticket all ≡ true)
    → (ticket : List ℕ) → is_waiting ticket (map done_in (drop (i + 1) acts)) ≡ true → is_waiting ticket all ≡ true
met_later all [] i within met = absurd (omega arith)
met_later all (first ∷ acts) i within met = met_behind all (first ∷ acts) i first within met

abbrev texts : List (Bor (List ℕ)) → List (List ℕ)
texts names = map (λ name. name.now) names

as_many : (names : List (Bor (List ℕ))) → length (texts names) ≡ length names
as_many [] = refl
as_many (name ∷ names) = ap suc (as_many names)

row_behind : (known : List (Bor (List ℕ))) (i : ℕ) (d : Bor (List ℕ)) → i < length known → ((name : List ℕ) → has_row (texts (drop i known)) name ≡ true → has_row (texts known) name ≡ true)
    → (name : List ℕ) → has_row (texts (drop (i + 1) known)) name ≡ true → has_row (texts known) name ≡ true
row_behind known i d within has name told = has name
    (ap (λ left. has_row (texts left) name) (drop_step known i d within) ∙ or_behind (bytes_eq (get_or known i d).now name) (has_row (texts (drop (i + 1) known)) name) told)

pub row_later : (known : List (Bor (List ℕ))) (i : ℕ) → i < length known → ((name : List ℕ) → has_row (texts (drop i known)) name ≡ true → has_row (texts known) name ≡ true)
    → (name : List ℕ) → has_row (texts (drop (i + 1) known)) name ≡ true → has_row (texts known) name ≡ true
row_later [] i within has = absurd (omega arith)
row_later (first ∷ known) i within has = row_behind (first ∷ known) i first within has

row_here : (known : List (Bor (List ℕ))) (i : ℕ) (d : Bor (List ℕ)) → i < length known → ((name : List ℕ) → has_row (texts (drop i known)) name ≡ true → has_row (texts known) name ≡ true)
    → has_row (texts known) (get_or known i d).now ≡ true
row_here known i d within has =
    let name = (get_or known i d).now in
    has name (ap (λ left. has_row (texts left) name) (drop_step known i d within) ∙ has_first name (texts (drop (i + 1) known)))

pub numbers_more : (known : List (Bor (List ℕ))) (i : ℕ) (d : Bor (List ℕ)) (all : List Done) (held : ℕ → List Move) (before after whole : List Seen) → i < length known
    → ((name : List ℕ) → has_row (texts (drop i known)) name ≡ true → has_row (texts known) name ≡ true)
    → ((row : ℕ) → row ≤ length known → held row ≡ moves_on (texts known) all row all)
    → after ≡ before ++ moves_seen (row_of (texts known) (get_or known i d).now) begun (held (row_of (texts known) (get_or known i d).now))
    → before ++ flat_map (numbered_on (texts known) all) (texts (drop i known)) ≡ whole
    → after ++ flat_map (numbered_on (texts known) all) (texts (drop (i + 1) known)) ≡ whole
numbers_more known i d all held before after whole within has placed made was =
    let name = (get_or known i d).now in
    let names = texts known in
    let row = row_of names name in
    let its = row_here known i d within has in
    let low : row ≤ length known = subst (λ n. row ≤ n) (as_many known) (row_within names name its) in
    one_more (numbered_on names all) name (texts (drop (i + 1) known)) before after whole
    (made ∙ ap (λ ys. before ++ ys) (ap (moves_seen row begun) (placed row low)))
    (ap (λ left. before ++ flat_map (numbered_on names all) (texts left)) (sym (drop_step known i d within)) ∙ was)
