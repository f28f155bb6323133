-- What combined values come to, behind which none came yet.
use Rattle.std.proofs.Common.{◌≡◌, ◌⊎◌, ℕ, List, [], ◌++◌, Option, Some, None, MatchOption, inl, inr, sym, ◌∙◌, ap}
use Rattle.std.proofs.lemmas.List.{append-nil}
use Rattle.hot_sources.specs.Combining.{combined_after}
use Rattle.source_callers.specs.Costs.{cost}

-- it began with no value of either
pub costed : (first second first2 second2 : Option ℕ) (came : List (Option ℕ × Option ℕ)) (gave : List ℕ) → first ≡ None → second ≡ None
    → ((rest : List (Option ℕ × Option ℕ)) → combined_after cost first second (came ++ rest) ≡ gave ++ combined_after cost first2 second2 rest)
    → combined_after cost None None came ≡ gave
costed first second first2 second2 came gave none none2 passed =
    ap (λ (x : Option ℕ). combined_after cost x None came) (sym none) ∙ ap (λ (y : Option ℕ). combined_after cost first y came) (sym none2)
    ∙ ap (combined_after cost first second) (sym (append-nil came)) ∙ passed [] ∙ append-nil gave

-- the list that they were added to
pub costs_added : (before after gave : List ℕ) (came : List (Option ℕ × Option ℕ)) → after ≡ before ++ gave → combined_after cost None None came ≡ gave
    → after ≡ before ++ combined_after cost None None came
costs_added before after gave came is same = is ∙ ap (λ (l : List ℕ). before ++ l) (sym same)

-- what is so of an answer, in either case
pub either_way : {X : Type 0} (o : Option X) (P : Type 0) (Q : X → Type 0) → MatchOption o P Q → P ⊎ ((x : X) × Q x)
either_way None P Q h = inl h
either_way (Some x) P Q h = inr (x, h)

-- what grew, seen from outside
pub grew : (old seen new after more : List ℕ) → after ≡ new → new ≡ seen ++ more → seen ≡ old → after ≡ old ++ more
grew old seen new after more is grown was = is ∙ grown ∙ ap (λ (l : List ℕ). l ++ more) was
