-- What a list of calls leaves: the last value of the history, with the number of those before it as its version.
use Rattle.std.proofs.Common.{◌≡◌, ℕ, ◌+◌, ◌≤◌, Option, Some, List, [], ◌∷◌, ◌++◌, length, refl, sym, ap, ◌∙◌, subst, append_assoc, append-nil, length-append, arith}
use Rattle.round_lock.specs.History.{After, IsPrefix}
use Rattle.round_lock.specs.History.After.{new, more}
use Rattle.value_states.specs.declared.round.Round.{Round}
use Rattle.value_states.specs.declared.round.Round.TheVariants as round
use Rattle.value_states.specs.declared.versioned.Versioned.{Versioned}
use Rattle.value_states.specs.Does.{IsFirst, Does}
use Rattle.value_states.specs.History.{written, written_by, first_of, history_after, IsLast}

module _ {T : Type 0} where
  -- one call more
  written_more : (calls : List (ℕ × Round × Versioned T)) (t : ℕ × Round × Versioned T) → written (calls ++ t ∷ []) ≡ written calls ++ written_by t.1 t.2.value
  written_more [] t = append-nil (written_by t.1 t.2.value)
  written_more (u ∷ calls) t = ap (λ (l : List T). written_by u.1 u.2.value ++ l) (written_more calls t) ∙ sym (append_assoc (written_by u.1 u.2.value) (written calls) (written_by t.1 t.2.value))

  pub history_more : (made : Option (Versioned T)) (calls : List (ℕ × Round × Versioned T)) (t : ℕ × Round × Versioned T) → history_after made (calls ++ t ∷ []) ≡ history_after made calls ++ written_by t.1 t.2.value
  history_more made calls t = ap (λ (l : List T). first_of made ++ l) (written_more calls t) ∙ sym (append_assoc (first_of made) (written calls) (written_by t.1 t.2.value))

  -- more calls
  written_on : (calls later : List (ℕ × Round × Versioned T)) → written (calls ++ later) ≡ written calls ++ written later
  written_on [] later = refl
  written_on (u ∷ calls) later = ap (λ (l : List T). written_by u.1 u.2.value ++ l) (written_on calls later) ∙ sym (append_assoc (written_by u.1 u.2.value) (written calls) (written later))

  -- the history only grows
  pub history_prefix : (made : Option (Versioned T)) (calls start : List (ℕ × Round × Versioned T)) → IsPrefix start calls → length (history_after made start) ≤ length (history_after made calls)
  history_prefix made calls start begins =
      let grown = ap (history_after made) begins.1 ∙ ap (λ (l : List T). first_of made ++ l) (written_on start begins.0) ∙ sym (append_assoc (first_of made) (written start) (written begins.0)) in
      let count = ap length grown ∙ length-append (history_after made start) (written begins.0) in
      omega arith

  -- a call that wrote nothing leaves the history as it was
  pub history_stays : (made : Option (Versioned T)) (calls : List (ℕ × Round × Versioned T)) (t : ℕ × Round × Versioned T) → written_by t.1 t.2.value ≡ [] → history_after made (calls ++ t ∷ []) ≡ history_after made calls
  history_stays made calls t none = history_more made calls t ∙ ap (λ (l : List T). history_after made calls ++ l) none ∙ append-nil (history_after made calls)

  -- what was written is last, and counts one more
  last_written : (history : List T) (s t : Versioned T) → IsLast history s → t.version ≡ s.version + 1 → IsLast (history ++ t.value ∷ []) t
  last_written history s t last one_more = record {
    earlier = history;
    last = refl;
    version =
        let count = ap length last.last ∙ length-append last.earlier (s.value ∷ []) in
        let before = last.version in
        omega (arith, one_more, count, before);
  }

  last_more : (made : Option (Versioned T)) (calls : List (ℕ × Round × Versioned T)) (s : Versioned T) (pass : ℕ) (r : Round) (t : Versioned T) → IsLast (history_after made calls) s → Does s r t → IsLast (history_after made (calls ++ (pass, r, t) ∷ [])) t
  last_more made calls s pass round.Read t last does = subst (λ l. IsLast l t) (sym (history_stays made calls (pass, round.Read, t) refl)) (subst (IsLast (history_after made calls)) (sym does) last)
  last_more made calls s pass round.Write t last does = subst (λ l. IsLast l t) (sym (history_more made calls (pass, round.Write, t))) (last_written (history_after made calls) s t last does)
  last_more made calls s pass (round.Give version) t last does = subst (λ l. IsLast l t) (sym (history_stays made calls (pass, round.Give version, t) refl)) (subst (IsLast (history_after made calls)) (sym does.0) last)

  -- the state that these calls left
  pub left_last : (made : Versioned T) (calls : List (ℕ × Round × Versioned T)) (state : Versioned T) → After IsFirst Does made calls state → IsLast (history_after (Some made) calls) state
  left_last _ _ _ (new s first) = record { earlier = []; last = refl; version = first }
  left_last _ _ _ (more made calls s pass r t after does) = last_more (Some made) calls s pass r t (left_last made calls s after) does
