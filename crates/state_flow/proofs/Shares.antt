-- Who has all seats between them made all steps.
use Rattle.std.proofs.Common.{◌≡◌, ◌≢◌, ℕ, zero, suc, ◌+◌, ◌<◌, List, [], ◌∷◌, set, sym, refl, ap, ◌∙◌, ⊎_elim, inl, inr, arith}
use Rattle.std.specs.Prelude.{slice_index, sum_by}
use Rattle.std.proofs.lemmas.List.Sums.{sum_by-cons}
use mathlib.Core.Logic.{dite}
use mathlib.Core.Option.{some, some-injective, some-ne-none}
use native.Mathlib.Decide.{ℕ_discrete}
use lib.ListN.{get_elem?}
use Rattle.atomic_table.proofs.Lists.{at_set, set_else}
use Rattle.state_flow.specs.declared.view.View.{View}
use Rattle.state_flow.specs.Views.{spent, running, HasAll}
use Rattle.state_flow.specs.Calls.{KnewAll}
use Rattle.state_flow.specs.Law.{StateLaw, shares_in, Among, Seated, AreAll, MadeAll}
use Rattle.state_flow.proofs.Lists.{same_at}
use Rattle.state_flow.proofs.Sums.{sum_by-changed, le-sum_by}

module _ {T : Type 0} where
  abbrev Gone : List (View T) → Type 0
  Gone vs = (i : ℕ) (v : View T) → get_elem? vs i ≡ some v → v.share ≡ 0 → v ≡ spent

  gone_set : (vs : List (View T)) (id : ℕ) → Gone vs → Gone (set vs id spent)
  gone_set vs id gone i v e none = ⊎_elim (λ (k : (i ≡ id) × (spent ≡ v)). sym k.1) (λ (k : (i ≢ id) × (get_elem? vs i ≡ some v)). gone i v k.1 none) (at_set vs id i spent v e)

  sum_none : (f : View T → ℕ) → f spent ≡ 0 → (vs : List (View T)) → Gone vs → shares_in vs ≡ 0 → sum_by f vs ≡ 0
  sum_none f zero_of [] gone none = refl
  sum_none f zero_of (x ∷ xs) gone none =
      let a = sum_by-cons (λ (v : View T). v.share) x xs in
      let no_share : x.share ≡ 0 = omega arith in
      let is : f x ≡ 0 = ap f (gone 0 x refl no_share) ∙ zero_of in
      let rest = sum_none f zero_of xs (λ i v e. gone (suc i) v e) (omega arith) in
      let b = sum_by-cons f x xs in
      omega arith

  seated_set : (vs : List (View T)) (held : List (ℕ × View T)) (id : ℕ) (w : View T) → Seated vs held → ¬ Among held id → Seated (set vs id w) held
  seated_set vs [] id w seated not = tt
  seated_set vs (t ∷ held) id w seated not = (set_else vs id t.0 w (λ e. not (inl e)) ∙ seated.0, seated.1, seated_set vs held id w seated.2 (λ a. not (inr a)))

  -- a sum over all seats is one over those that have all
  pub sum_held : (f : View T → ℕ) → f spent ≡ 0 → (vs : List (View T)) (held : List (ℕ × View T)) → Gone vs → Seated vs held → sum_by (λ (t : ℕ × View T). t.1.share) held ≡ shares_in vs → sum_by f vs ≡ sum_by (λ (t : ℕ × View T). f t.1) held
  sum_held f zero_of vs [] gone seated all = sum_none f zero_of vs gone (sym all)
  sum_held f zero_of vs (t ∷ held) gone seated all =
      let a = sum_by-changed (λ (v : View T). v.share) vs t.0 t.1 spent seated.0 in
      let b = sum_by-cons (λ (u : ℕ × View T). u.1.share) t held in
      let rest = sum_held f zero_of (set vs t.0 spent) held (gone_set vs t.0 gone) (seated_set vs held t.0 spent seated.2 seated.1) (omega arith) in
      let c = sum_by-changed f vs t.0 t.1 spent seated.0 in
      let d = sum_by-cons (λ (u : ℕ × View T). f u.1) t held in
      omega arith

  -- a seat with a share is one of those that have all
  pub holder : (vs : List (View T)) (held : List (ℕ × View T)) (i : ℕ) (u : View T) → get_elem? vs i ≡ some u → 0 < u.share → Seated vs held → sum_by (λ (t : ℕ × View T). t.1.share) held ≡ shares_in vs
      → (place : ℕ) × (get_elem? held place ≡ some (i, u))
  holder vs [] i u at more seated all = absurd (let a = le-sum_by (λ (v : View T). v.share) vs i u at in omega arith)
  holder vs (t ∷ held) i u at more seated all = dite (ℕ_discrete i t.0)
      (λ e. let same : t.1 ≡ u = same_at vs t.0 t.1 u seated.0 (ap (λ (k : ℕ). get_elem? vs k) (sym e) ∙ at) in (0, (λ k. some (sym e k, same k))))
      (λ n.
      let a = sum_by-changed (λ (v : View T). v.share) vs t.0 t.1 spent seated.0 in
      let b = sum_by-cons (λ (w : ℕ × View T). w.1.share) t held in
      let r = holder (set vs t.0 spent) held i u (set_else vs t.0 i spent n ∙ at) more (seated_set vs held t.0 spent seated.2 seated.1) (omega arith) in (suc r.0, r.1))

  only : (t x : ℕ × View T) (place : ℕ) → get_elem? (t ∷ []) place ≡ some x → t ≡ x
  only t x zero e = some-injective t x e
  only t x (suc place) e = absurd (some-ne-none x (sym e))

module _ {T : Type 0} (word : T → ℕ) (fits : T → Type 0) (key : T × ℕ) (ws : List ℕ) (vs : List (View T)) (r : StateLaw word fits key.0 key.1 ws vs) where
  abbrev W : Type 0
  W = View T

  gone : (i : ℕ) (v : W) → get_elem? vs i ≡ some v → v.share ≡ 0 → v ≡ spent
  gone i v e none = (r.each i v e).gone none

  -- the seat with the latest step has a share
  latest_has : 0 < r.latest.1.0.share
  latest_has = dite (ℕ_discrete r.latest.1.0.share 0)
      (λ none. let is = gone r.latest.0 r.latest.1.0 r.latest.1.1.0 none in let turns = r.turns_is in absurd (⊎_elim
      (λ (h : r.latest.1.0.turn ≡ r.turns). let a : r.latest.1.0.turn ≡ 0 = ap (λ (v : W). v.turn) is in let no : ⊥ = omega arith in no)
      (λ (h : r.latest.1.0.told_turn ≡ r.turns). let a : r.latest.1.0.told_turn ≡ 0 = ap (λ (v : W). v.told_turn) is in let no : ⊥ = omega arith in no)
      r.latest.1.1.1))
      (λ n. omega arith)

  pub made_all : (held : List (ℕ × W)) → AreAll key.1 vs held → MadeAll (r.history_at r.turns) r.turns (slice_index ws 1) held
  made_all held all =
      let shares = all.shares ∙ sym r.whole in
      let steps = sum_held (λ (v : W). v.steps) refl vs held gone all.seated shares in
      let writes = sum_held (λ (v : W). v.writes) refl vs held gone all.seated shares in
      let written = r.written in
      let collect = sum_held (λ (v : W). running v) refl vs held gone all.seated shares in
      let at = holder vs held r.latest.0 r.latest.1.0 r.latest.1.1.0 latest_has all.seated shares in
      let mine = r.each r.latest.0 r.latest.1.0 r.latest.1.1.0 in
      let turns = r.turns_is in record {
        steps = omega arith;
        writes = omega arith;
        place = at.0;
        latest = (r.latest.0, r.latest.1.0);
        among = at.1;
        saw_all = ⊎_elim (λ e. inl (mine.seen_is ∙ ap r.history_at e)) (λ e. inr (mine.told_is ∙ ap r.history_at e)) r.latest.1.1.1;
        collecting = r.collecting ∙ collect;
      }

  module _ (id : ℕ) (v : W) (at : get_elem? vs id ≡ some v) (some_share : 0 < v.share) (all : HasAll v) where
    abbrev alone : List (ℕ × W)
    alone = (id, v) ∷ []

    has_all : AreAll key.1 vs alone
    has_all = record { seated = (at, (λ a. a), tt); shares = let a = sum_by-cons (λ (t : ℕ × W). t.1.share) (id, v) [] in let b = (r.each id v at).seats_is some_share in omega arith }

    pub knew_all : KnewAll v (r.history_at r.turns) (r.turns + 1)
    knew_all =
        let made = made_all alone has_all in
        let one = sum_by-cons (λ (t : ℕ × W). t.1.steps) (id, v) [] in
        let steps = made.steps in
        let writer = sum_by-cons (λ (t : ℕ × W). t.1.writes) (id, v) [] in
        let writes = made.writes in
        let place = holder vs alone r.latest.0 r.latest.1.0 r.latest.1.1.0 latest_has has_all.seated (has_all.shares ∙ sym r.whole) in
        let same : v ≡ r.latest.1.0 = ap (λ (t : ℕ × W). t.1) (only (id, v) (r.latest.0, r.latest.1.0) place.0 place.1) in
        let mine = r.each id v at in record {
          all_its_own = omega arith;
          all_written = omega arith;
          latest = ⊎_elim
              (λ (h : r.latest.1.0.turn ≡ r.turns). let is : v.turn ≡ r.turns = ap (λ (u : W). u.turn) same ∙ h in inl (ap (λ n. n + 1) is, ap r.history_at (sym is) ∙ sym mine.seen_is))
              (λ (h : r.latest.1.0.told_turn ≡ r.turns). let is : v.told_turn ≡ r.turns = ap (λ (u : W). u.told_turn) same ∙ h in inr (ap (λ n. n + 1) is, ap r.history_at (sym is) ∙ sym mine.told_is))
              r.latest.1.1.1;
        }

    -- there are no other collectors
    pub collects_alone : slice_index ws 1 ≡ running v
    collects_alone = let made = (made_all alone has_all).collecting in let one = sum_by-cons (λ (t : ℕ × W). running t.1) (id, v) [] in made ∙ omega arith
