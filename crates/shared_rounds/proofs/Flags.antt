-- Each step on the flag keeps its law.
use Rattle.std.proofs.Common.{◌≡◌, ◌≢◌, ℕ, zero, suc, true, true≢false, List, [], ◌∷◌, get_or, set, sym, refl, ap, ◌∙◌, ⊎_elim}
use mathlib.Core.Option.{some, some-injective, some-ne-none}
use lib.ListN.{get_elem?}
use Rattle.atomic_table.specs.Table.{State, Me, keeps, Allows, Splits, opening}
use Rattle.atomic_table.proofs.Lists.{at_set, at_snoc}
use Rattle.shared_rounds.specs.declared.flag.view.FlagView.{FlagView}
use Rattle.shared_rounds.specs.Flags.{FlagLaw, keeper_first, looker_first, flagged, raised_after, seen_there}

module _ {S : Type 0} where
  pub starts : (xs : List S) → FlagLaw (opening (0 ∷ []) xs keeper_first)
  starts xs = record { flag = 0; keeper = 0; words_are = refl; each = first_alone }
    where
      first_alone : (id : ℕ) (v : FlagView) → get_elem? (keeper_first ∷ []) id ≡ some v → v.keeps ≡ true → (id ≡ 0) × (v.flag ≡ 0)
      first_alone zero v e _ = (refl, ap (λ (u : FlagView). u.flag) (sym (some-injective keeper_first v e)))
      first_alone (suc id) v e _ = absurd (some-ne-none v (sym e))

  -- its keeper writes the flag, and knows that
  writes : (slots id : ℕ) (me : Me S FlagView) (n : ℕ) (w : FlagView) → w.flag ≡ n → me.0.keeps ≡ true → Allows FlagLaw slots id me 0 (λ _. n) (λ _ now. now ≡ (w, me.1))
  writes slots id me n w flag kept s r count at wide = (
    w,
    keeps,
    tt,
    record {
      flag = n;
      keeper = r.keeper;
      words_are = ap (λ (l : List ℕ). set l 0 n) r.words_are;
      each = λ j v here keeping. ⊎_elim
          (λ (t : (j ≡ id) × (w ≡ v)). (t.0 ∙ (r.each id me.0 at kept).0, ap (λ (u : FlagView). u.flag) (sym t.1) ∙ flag))
          (λ (t : (j ≢ id) × (get_elem? s.views j ≡ some v)). absurd (t.0 ((r.each j v t.1 keeping).0 ∙ sym (r.each id me.0 at kept).0)))
          (at_set s.views id j w v here);
    },
    refl,
  )

  pub sets : (slots id : ℕ) (me : Me S FlagView) (n : ℕ) → me.0.keeps ≡ true → Allows FlagLaw slots id me 0 (λ _. n) (λ _ now. now ≡ (flagged me.0 n, me.1))
  sets slots id me n kept = writes slots id me n (flagged me.0 n) refl kept

  pub raises : (slots id : ℕ) (me : Me S FlagView) (loads n : ℕ) → me.0.keeps ≡ true → Allows FlagLaw slots id me 0 (λ _. n) (λ _ now. now ≡ (raised_after loads me.0 n, me.1))
  raises slots id me loads n kept = writes slots id me n (raised_after loads me.0 n) refl kept

  -- a look changes the looker's own view, and no flag
  others_stay : (s : State S FlagView) (r : FlagLaw s) (id : ℕ) (me w : FlagView) → get_elem? s.views id ≡ some me → w.keeps ≡ me.keeps → w.flag ≡ me.flag
      → (j : ℕ) (v : FlagView) → get_elem? (set s.views id w) j ≡ some v → v.keeps ≡ true → (j ≡ r.keeper) × (v.flag ≡ r.flag)
  others_stay s r id me w at same flag j v here keeping = ⊎_elim
      (λ (t : (j ≡ id) × (w ≡ v)). let mine = r.each id me at (sym same ∙ ap (λ (u : FlagView). u.keeps) t.1 ∙ keeping) in (t.0 ∙ mine.0, ap (λ (u : FlagView). u.flag) (sym t.1) ∙ flag ∙ mine.1))
      (λ (t : (j ≢ id) × (get_elem? s.views j ≡ some v)). r.each j v t.1 keeping)
      (at_set s.views id j w v here)

  pub looks : (slots id position rounds : ℕ) (me : Me S FlagView) → Allows FlagLaw slots id me 0 (λ n. n) (λ n now. now ≡ (seen_there position rounds me.0 n, me.1))
  looks slots id position rounds me s r many at wide = let n = get_or s.words 0 0 in (
    seen_there position rounds me.0 n,
    keeps,
    tt,
    record {
      flag = r.flag;
      keeper = r.keeper;
      words_are = ap (λ (l : List ℕ). set l 0 (get_or l 0 0)) r.words_are;
      each = others_stay s r id me.0 (seen_there position rounds me.0 n) at refl refl;
    },
    refl,
  )

  pub splits : (id : ℕ) (v : FlagView) → Splits {S = S} FlagLaw id v v looker_first
  splits id v s r at = record {
    flag = r.flag;
    keeper = r.keeper;
    words_are = r.words_are;
    each = λ j u here keeping. ⊎_elim
        (λ (was : get_elem? (set s.views id v) j ≡ some u). others_stay s r id v v at refl refl j u was keeping)
        (λ (is : looker_first ≡ u). absurd (true≢false (sym keeping ∙ ap (λ (w : FlagView). w.keeps) (sym is))))
        (at_snoc (set s.views id v) looker_first u j here);
  }
