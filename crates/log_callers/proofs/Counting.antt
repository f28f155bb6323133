-- A count of no words, of one, and of more of them.
use Rattle.std.proofs.Common.{◌≡◌, cond, ℕ, ◌+◌, ◌≤◌, ◌<◌, Bool, true, false, Result, Ok, Err, IfErr, List, [], ◌∷◌, ◌++◌, length, map, take, drop, get_or, sum, refl, sym, ap, subst, ◌∙◌, arith}
use Rattle.std.proofs.lemmas.List.{map-append, take_more, take_all, drop_more, take-append-drop}
use Rattle.std.proofs.lemmas.List.Sums.{sum_by-append, sum_by-cons, sum_by-take-le}
use Rattle.flow_terms.specs.declared.refusal.Refusal.TheVariants.{Spent}
use Rattle.shared_flow.specs.Parties.{Emitting}
use Rattle.shared_flow.specs.Emitted.{Emissions, Outcome, accepted_words, refused, emitted, was_accepted}
use Rattle.shared_flow.proofs.Growing.{accepted_words-append, appends_more, appends_nothing}
use Rattle.log_callers.specs.Counts.{Counts, StopsAt}

-- the words of these
abbrev words_of : Emissions → List ℕ
words_of xs = map (λ (x : ℕ × Outcome). x.0) xs

pub counts_nothing : (e : Emitting) → Counts e [] e 0
counts_nothing e = record { meanwhile = []; has = appends_nothing (emitted e); words_are = refl; total_is = refl }

one_word : (accepted : Bool) (word : ℕ) → cond accepted word 0 ≡ sum (cond accepted (word ∷ []) [])
one_word true word = omega arith
one_word false word = refl

-- after one try, by what became of its word
pub counts_one : (e f : Emitting) (word : ℕ) (outcome : Outcome) (taken : ℕ) → emitted f ≡ emitted e ++ (word, outcome) ∷ []
    → taken ≡ cond (was_accepted outcome) word 0 → Counts e (word ∷ []) f taken
counts_one e f word outcome taken has is = record {
  meanwhile = (word, outcome) ∷ [];
  has = has;
  words_are = refl;
  total_is = is ∙ one_word (was_accepted outcome) word;
}

pub counts_more : (e f g : Emitting) (words more : List ℕ) (m n : ℕ) → Counts e words f m → Counts f more g n → Counts e (words ++ more) g (m + n)
counts_more e f g words more m n was now = record {
  meanwhile = was.meanwhile ++ now.meanwhile;
  has = appends_more (emitted e) (emitted f) (emitted g) was.meanwhile now.meanwhile was.has now.has;
  words_are = map-append (λ (x : ℕ × Outcome). x.0) was.meanwhile now.meanwhile ∙ (λ i. was.words_are i ++ now.words_are i);
  total_is = (λ i. was.total_is i + now.total_is i) ∙ sym (sum_by-append (λ x. x) (accepted_words was.meanwhile) (accepted_words now.meanwhile))
      ∙ ap sum (sym (accepted_words-append was.meanwhile now.meanwhile));
}

pub stops_at : (e f g : Emitting) (words : List ℕ) (i total : ℕ) → i < length words → Counts e (take i words) f total
    → emitted g ≡ emitted f ++ (get_or words i 0, refused Spent) ∷ [] → StopsAt e words g
stops_at e f g words i total within was now =
    let word = get_or words i 0 in
    record {
      meanwhile = was.meanwhile;
      word = word;
      later = drop (i + 1) words;
      has = appends_more (emitted e) (emitted f) (emitted g) was.meanwhile ((word, refused Spent) ∷ []) was.has now;
      words_are = (λ k. was.words_are k ++ word ∷ drop (i + 1) words) ∙ ap (λ (l : List ℕ). take i words ++ l) (sym (drop_more words i 0 within)) ∙ take-append-drop i words;
    }

-- a fact that holds of whatever was refused
pub of_refusal : {A B : Type 0} (answer : Result A B) {P : Type 0} → P → IfErr answer (λ _. P)
of_refusal (Ok value) fact = tt
of_refusal (Err refusal) fact = fact

-- ---- a count is at most the sum of its words

at_most : (accepted : Bool) (x m : ℕ) (xs : List ℕ) → sum xs ≤ m → sum (cond accepted (x ∷ xs) xs) ≤ x + m
at_most true x m xs less = let is = sum_by-cons (λ y. y) x xs in omega (arith, is, less)
at_most false x m xs less = omega (arith, less)

accepted_at_most : (xs : Emissions) → sum (accepted_words xs) ≤ sum (words_of xs)
accepted_at_most [] = omega arith
accepted_at_most (x ∷ xs) =
    let is = sum_by-cons (λ y. y) x.0 (words_of xs) in
    subst (λ n. sum (accepted_words (x ∷ xs)) ≤ n) (sym is) (at_most (was_accepted x.1) x.0 (sum (words_of xs)) (accepted_words xs) (accepted_at_most xs))

pub counts_at_most : (e f : Emitting) (words : List ℕ) (total : ℕ) → Counts e words f total → total ≤ sum words
counts_at_most e f words total counts =
    subst (λ n. total ≤ n) (ap sum counts.words_are) (subst (λ n. n ≤ sum (words_of counts.meanwhile)) (sym counts.total_is) (accepted_at_most counts.meanwhile))

pub fits : (e f g : Emitting) (words : List ℕ) (i m n most : ℕ) → i < length words → sum words < most → Counts e (take i words) f m
    → Counts f (get_or words i 0 ∷ []) g n → m + n < most
fits e f g words i m n most within small was now =
    let whole = counts_at_most e g (take i words ++ get_or words i 0 ∷ []) (m + n) (counts_more e f g (take i words) (get_or words i 0 ∷ []) m n was now) in
    let more = ap sum (take_more words i 0 within) in
    let less = sum_by-take-le (λ (x : ℕ). x) words (i + 1) in
    omega (arith, whole, more, less, small)

pub counts_next : (e f g : Emitting) (words : List ℕ) (i m n : ℕ) → i < length words → Counts e (take i words) f m
    → Counts f (get_or words i 0 ∷ []) g n → Counts e (take (i + 1) words) g (m + n)
counts_next e f g words i m n within was now =
    subst (λ (l : List ℕ). Counts e l g (m + n)) (sym (take_more words i 0 within))
    (counts_more e f g (take i words) (get_or words i 0 ∷ []) m n was now)

pub counts_all : (e f : Emitting) (words : List ℕ) (i total : ℕ) → length words ≤ i → Counts e (take i words) f total → Counts e words f total
counts_all e f words i total all counts = subst (λ (l : List ℕ). Counts e l f total) (take_all i words all) counts
