-- A list that grows, as a clause `has` says it: it is what it was, and then some values. For an invariant of a caller's loop.
use Rattle.std.proofs.Common.{◌≡◌, ℕ, Bool, true, false, cond, List, [], ◌∷◌, ◌++◌, refl, sym, ap, ◌∙◌, append_assoc}
use Rattle.std.proofs.lemmas.List.{append-nil}
use Rattle.shared_flow.specs.Emitted.{Emissions, accepted_words, was_accepted}

module _ {A : Type 0} where
  -- nothing was appended
  pub appends_nothing : (xs : List A) → xs ≡ xs ++ []
  appends_nothing xs = sym (append-nil xs)

  -- what was appended is none
  pub appends_none : (old new values : List A) → new ≡ old ++ values → values ≡ [] → new ≡ old
  appends_none old new values is none = is ∙ ap (λ (l : List A). old ++ l) none ∙ append-nil old

  -- some values were appended, and then more
  pub appends_more : (old mid new values more : List A) → mid ≡ old ++ values → new ≡ mid ++ more → new ≡ old ++ (values ++ more)
  appends_more old mid new values more is then = then ∙ ap (λ (l : List A). l ++ more) is ∙ append_assoc old values more

pick : (b : Bool) (word : ℕ) (xs ys : List ℕ) → cond b (word ∷ (xs ++ ys)) (xs ++ ys) ≡ cond b (word ∷ xs) xs ++ ys
pick true word xs ys = refl
pick false word xs ys = refl

-- the words that were accepted of these, and then of those
pub accepted_words-append : (xs ys : Emissions) → accepted_words (xs ++ ys) ≡ accepted_words xs ++ accepted_words ys
accepted_words-append [] ys = refl
accepted_words-append (x ∷ xs) ys =
    ap (λ (l : List ℕ). cond (was_accepted x.1) (x.0 ∷ l) l) (accepted_words-append xs ys) ∙ pick (was_accepted x.1) x.0 (accepted_words xs) (accepted_words ys)

-- of an emitter's list that grew, they grew by those that were accepted of what was appended
pub accepted_words_grow : (old new more : Emissions) → new ≡ old ++ more → accepted_words new ≡ accepted_words old ++ accepted_words more
accepted_words_grow old new more is = ap accepted_words is ∙ accepted_words-append old more
