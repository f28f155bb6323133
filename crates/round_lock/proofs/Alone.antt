-- An owner that has the whole lock, where nobody that it took in made a call: then the list has exactly its own calls.
use Rattle.std.proofs.Common.{◌≡◌, ◌==◌, ℕ, Bool, true, false, cond, zero, suc, List, [], ◌∷◌, map, sym, refl, ap, ◌∙◌, subst, ⊎_elim, eq-eqb}
use mathlib.Core.Option.{some}
use lib.ListN.{get_elem?}
use Rattle.round_lock.specs.declared.log.TakenOwner.{TakenOwner}
use Rattle.round_lock.specs.History.{TakenIn, Parts, MadeEach, own_of}
use Rattle.round_lock.proofs.Shares.{has_calls}

module _ {E : Type 0} where
  -- none of them made a call
  abbrev pub MadeNone : List (TakenOwner E) → Type 0
  MadeNone [] = Unit {0}
  MadeNone (p ∷ parts) = (p.own ≡ []) × MadeNone parts

module _ {S E : Type 0} where
  -- where each call is of one seat, the list has exactly that one's calls
  pub all_own : (pass : ℕ) (log : List (ℕ × E × S)) → ((i : ℕ) (t : ℕ × E × S) → get_elem? log i ≡ some t → pass ≡ t.0) → map (λ (t : ℕ × E × S). t.1) log ≡ own_of pass log
  all_own pass [] callers = refl
  all_own pass (t ∷ log) callers = ap (λ (l : List E). t.1 ∷ l) (all_own pass log (λ i u at. callers (suc i) u at))
      ∙ sym (ap (λ b. cond b (t.1 ∷ own_of pass log) (own_of pass log)) (eq-eqb t.0 pass (sym (callers 0 t refl))))

  -- who made no call is no caller
  no_caller : (log : List (ℕ × E × S)) (parts : List (TakenOwner E)) (i : ℕ) (t : ℕ × E × S) → Parts log parts → MadeNone parts → get_elem? log i ≡ some t → ¬ TakenIn parts t.0
  no_caller log [] i t are none here is = is
  no_caller log (p ∷ parts) i t are none here is = ⊎_elim
      (λ (e : p.pass ≡ t.0). has_calls log i t here (ap (λ n. own_of n log) (sym e) ∙ sym are.0 ∙ none.0))
      (λ more. no_caller log parts i t are.1 none.1 here more)
      is

  pub made_alone : (pass : ℕ) (own : List E) (parts : List (TakenOwner E)) (log : List (ℕ × E × S)) → own ≡ own_of pass log → Parts log parts → MadeNone parts → MadeEach pass own parts log → map (λ (t : ℕ × E × S). t.1) log ≡ own
  made_alone pass own parts log mine are none each = all_own pass log (λ i t here. ⊎_elim (λ is. is) (λ is. absurd (no_caller log parts i t are none here is)) (each.callers i t here)) ∙ sym mine
