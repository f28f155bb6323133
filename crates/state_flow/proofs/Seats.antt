-- The making of a flow meets the law, and a seat that is split, or joined to another, keeps it.
use Rattle.std.proofs.Common.{◌≡◌, ◌≢◌, ◌⊎◌, ℕ, zero, suc, ◌+◌, ◌<◌, ◌≤◌, Bool, false, cond, List, [], ◌∷◌, ◌++◌, set, sym, refl, ap, ◌∙◌, subst, ⊎_elim, inl, inr, arith}
use Rattle.std.specs.Prelude.{sum_by}
use Rattle.std.proofs.lemmas.List.Sums.{sum_by_push}
use mathlib.Core.Logic.{dite}
use mathlib.Core.Option.{some, some-injective, some-ne-none}
use native.Mathlib.Decide.{ℕ_discrete}
use lib.ListN.{get_elem?}
use Rattle.atomic_table.specs.Table.{Splits, Joins, opening as table_opening}
use Rattle.atomic_table.proofs.Lists.{at_set, set_here, set_else, at_snoc, at_longer}
use Rattle.state_flow.specs.declared.view.View.{View}
use Rattle.flow_terms.specs.Lists.{IsPrefix}
use Rattle.state_flow.specs.History.{IsHistory}
use Rattle.state_flow.specs.History.IsHistory.{made}
use Rattle.state_flow.specs.Views.{opening, spent, running, giver, taker, keeper}
use Rattle.state_flow.specs.Law.{Fits, StateLaw, Rule, collectors_in, shares_in, steps_in, count_steps_in, writes_in}
use Rattle.state_flow.proofs.Lists.{at_inside, prefix_self, prefix_none, picks_none}
use Rattle.state_flow.proofs.Sums.{sum_by-changed}

-- a seat that neither collects nor runs a collector
none_of : (b : Bool) (n : ℕ) → b ≡ false → n ≡ 0 → cond b 1 0 + n ≡ 0
none_of b n idle none = ap (λ c. cond c 1 0 + n) idle ∙ (let is : 0 + n ≡ 0 = omega arith in is)

-- these seats add up to what those did: no step was made, no value written, no collector came or went, and no share is lost
record AddUp {T : Type 0} (those these : List (View T)) : Type 0 where
  steps : steps_in these ≡ steps_in those
  writes : writes_in these ≡ writes_in those
  count_steps : count_steps_in these ≡ count_steps_in those
  collectors : collectors_in these ≡ collectors_in those
  shares : shares_in these ≡ shares_in those

module _ {T : Type 0} (word : T → ℕ) (fits : T → Type 0) (key : T × ℕ) where
  abbrev V : Type 0
  V = View T

  abbrev K : List ℕ → List V → Type 0
  K ws vs = StateLaw word fits key.0 key.1 ws vs

  abbrev weight : V → ℕ
  weight v = running v

  -- a sum over all seats after one of them, v, became l and a new one, t, was made of it
  split_sum : (f : V → ℕ) (vs : List V) (id : ℕ) (v l t : V) → get_elem? vs id ≡ some v → f l + f t ≡ f v → sum_by f (set vs id l ++ t ∷ []) ≡ sum_by f vs
  split_sum f vs id v l t at is = let a = sum_by-changed f vs id v l at in let b = sum_by_push f (set vs id l) t in omega arith

  -- a sum over all seats after one of them, v, became b, and another, w, is spent
  join_sum : (f : V → ℕ) (vs : List V) (id : ℕ) (v b : V) (other : ℕ) (w : V) → get_elem? vs id ≡ some v → get_elem? (set vs id b) other ≡ some w → f b + f spent ≡ f v + f w → sum_by f (set (set vs id b) other spent) ≡ sum_by f vs
  join_sum f vs id v b other w at at' is = let one = sum_by-changed f vs id v b at in let two = sum_by-changed f (set vs id b) other w spent at' in omega arith

  -- Where these seats add up to what those did, what the law says of the words and the histories stays. What is left to say is who
  -- knows all, and what each of them knows
  reseated : (ws : List ℕ) (those these : List V) (r : K ws those) → AddUp those these
      → (i : ℕ) × ((v : V) × ((get_elem? these i ≡ some v) × ((v.turn ≡ r.turns) ⊎ (v.told_turn ≡ r.turns))))
      → ((i : ℕ) (v : V) → get_elem? these i ≡ some v → Fits key.1 r.history_at r.turns r.count_at r.counts v) → K ws these
  reseated ws those these r same latest each = record {
    two_words = r.two_words;
    turns = r.turns;
    turns_is = r.turns_is ∙ ap (λ (n : ℕ). n + 1) (sym same.steps);
    history_at = r.history_at;
    before_making = r.before_making;
    at_making = r.at_making;
    grows = r.grows;
    is_history = r.is_history;
    written = r.written ∙ ap (λ (n : ℕ). n + 1) (sym same.writes);
    value = r.value;
    last = r.last;
    value_word = r.value_word;
    proper = r.proper;
    latest = latest;
    counts = r.counts;
    counts_is = r.counts_is ∙ ap (λ (n : ℕ). n + 1) (sym same.count_steps);
    count_at = r.count_at;
    none_before = r.none_before;
    count_word = r.count_word;
    collecting = r.collecting ∙ sym same.collectors;
    each = each;
    whole = same.shares ∙ r.whole;
    bounded = r.bounded;
  }

  pub splits : (id part : ℕ) (v : V) → 0 < part → part < v.share → v.collects ≡ false → v.runs ≡ 0 → Splits (Rule word fits key) id v (giver part v) (taker part v)
  splits id part v some_part enough idle runs_none s r at =
      let l : V = giver part v in
      let t : V = taker part v in
      let vs : List V = set s.views id l in
      let inside = at_inside s.views id v at in
      let mine = r.each id v at in
      let none_collects : weight v ≡ 0 = none_of v.collects v.runs idle runs_none in
      let add_up : AddUp s.views (vs ++ t ∷ []) = record {
        steps = split_sum (λ (u : V). u.steps) s.views id v l t at (omega arith);
        writes = split_sum (λ (u : V). u.writes) s.views id v l t at (omega arith);
        count_steps = split_sum (λ (u : V). u.count_steps) s.views id v l t at (omega arith);
        collectors = split_sum weight s.views id v l t at (omega arith);
        shares = split_sum (λ (u : V). u.share) s.views id v l t at (omega arith);
      } in reseated s.words s.views (vs ++ t ∷ []) r add_up
      (dite (ℕ_discrete r.latest.0 id)
      (λ e. let same : v ≡ r.latest.1.0 = some-injective v r.latest.1.0 (sym at ∙ (ap (λ (k : ℕ). get_elem? s.views k) (sym e) ∙ r.latest.1.1.0)) in (
        id,
        (
          l,
          (
            at_longer vs (t ∷ []) id l (set_here s.views id l inside),
            ⊎_elim (λ h. inl (ap (λ (u : V). u.turn) same ∙ h)) (λ h. inr (ap (λ (u : V). u.told_turn) same ∙ h)) r.latest.1.1.1,
          ),
        ),
      ))
      (λ other. (r.latest.0, (r.latest.1.0, (at_longer vs (t ∷ []) r.latest.0 r.latest.1.0 (set_else s.views id r.latest.0 l other ∙ r.latest.1.1.0), r.latest.1.1.1)))))
      (λ i u e. ⊎_elim
      (λ (h : get_elem? vs i ≡ some u). ⊎_elim
      (λ (k : (i ≡ id) × (l ≡ u)). subst (Fits key.1 r.history_at r.turns r.count_at r.counts) k.1 record {
        seen_is = mine.seen_is;
        turn_by = mine.turn_by;
        told_is = mine.told_is;
        told_by = mine.told_by;
        counted_is = mine.counted_is;
        counted_by = mine.counted_by;
        picks = mine.picks;
        within = omega arith;
        gone = λ none. absurd (omega arith);
        seats_is = λ _. mine.seats_is (omega arith);
      })
      (λ (k : (i ≢ id) × (get_elem? s.views i ≡ some u)). r.each i u k.1)
      (at_set s.views id i l u h))
      (λ (h : t ≡ u). subst (Fits key.1 r.history_at r.turns r.count_at r.counts) h record {
        seen_is = mine.seen_is;
        turn_by = mine.turn_by;
        told_is = sym r.before_making;
        told_by = omega arith;
        counted_is = mine.counted_is;
        counted_by = mine.counted_by;
        picks = picks_none v.seen;
        within = let none : weight t ≡ 0 = refl in omega arith;
        gone = λ none. absurd (omega arith);
        seats_is = λ _. mine.seats_is (omega arith);
      })
      (at_snoc vs t u i e))

  pub joins : (id : ℕ) (v : V) (other : ℕ) (w : V) → 0 < v.share → v.told_turn ≡ 0 → w.told_turn ≡ 0 → w.collects ≡ false → w.runs ≡ 0 → Joins (Rule word fits key) id v other w (keeper v w) spent
  joins id v other w some_share untold untold' idle runs_none s r at apart_seats at' =
      let b : V = keeper v w in
      let one : List V = set s.views id b in
      let vs : List V = set one other spent in
      let inside = at_inside s.views id v at in
      let was : get_elem? s.views other ≡ some w = sym (set_else s.views id other b apart_seats) ∙ at' in
      let mine = r.each id v at in
      let theirs = r.each other w was in
      let still : get_elem? vs id ≡ some b = set_else one other id spent (λ e. apart_seats (sym e)) ∙ set_here s.views id b inside in
      let none_collects : weight w ≡ 0 = none_of w.collects w.runs idle runs_none in
      let add_up : AddUp s.views vs = record {
        steps = join_sum (λ (u : V). u.steps) s.views id v b other w at at' (omega arith);
        writes = join_sum (λ (u : V). u.writes) s.views id v b other w at at' (omega arith);
        count_steps = join_sum (λ (u : V). u.count_steps) s.views id v b other w at at' (omega arith);
        collectors = join_sum weight s.views id v b other w at at' (omega arith);
        shares = join_sum (λ (u : V). u.share) s.views id v b other w at at' (omega arith);
      } in reseated s.words s.views vs r add_up
      (dite (ℕ_discrete r.latest.0 id)
      (λ e. let same : v ≡ r.latest.1.0 = some-injective v r.latest.1.0 (sym at ∙ (ap (λ (k : ℕ). get_elem? s.views k) (sym e) ∙ r.latest.1.1.0)) in
      (id, (b, (still, ⊎_elim (λ h. inl (ap (λ (u : V). u.turn) same ∙ h)) (λ h. absurd (let z = ap (λ (u : V). u.told_turn) same in omega arith)) r.latest.1.1.1))))
      (λ ne. dite (ℕ_discrete r.latest.0 other)
      (λ e. let same : w ≡ r.latest.1.0 = some-injective w r.latest.1.0 (sym was ∙ (ap (λ (k : ℕ). get_elem? s.views k) (sym e) ∙ r.latest.1.1.0)) in
      (id, (b, (still, ⊎_elim (λ h. inr (ap (λ (u : V). u.turn) same ∙ h)) (λ h. absurd (let z = ap (λ (u : V). u.told_turn) same in omega arith)) r.latest.1.1.1))))
      (λ ne'. (r.latest.0, (r.latest.1.0, (set_else one other r.latest.0 spent ne' ∙ (set_else s.views id r.latest.0 b ne ∙ r.latest.1.1.0), r.latest.1.1.1))))))
      (λ i u e. ⊎_elim
      (λ (h : (i ≡ other) × (spent ≡ u)). subst (Fits key.1 r.history_at r.turns r.count_at r.counts) h.1 record {
        seen_is = sym r.before_making;
        turn_by = omega arith;
        told_is = sym r.before_making;
        told_by = omega arith;
        counted_is = sym r.none_before;
        counted_by = omega arith;
        picks = picks_none [];
        within = omega arith;
        gone = λ _. refl;
        seats_is = λ more. absurd (omega arith);
      })
      (λ (h : (i ≢ other) × (get_elem? one i ≡ some u)). ⊎_elim
      (λ (k : (i ≡ id) × (b ≡ u)). subst (Fits key.1 r.history_at r.turns r.count_at r.counts) k.1 record {
        seen_is = mine.seen_is;
        turn_by = mine.turn_by;
        told_is = theirs.seen_is;
        told_by = theirs.turn_by;
        counted_is = mine.counted_is;
        counted_by = mine.counted_by;
        picks = mine.picks;
        within = let old = mine.within in omega arith;
        gone = λ none. absurd (omega arith);
        seats_is = λ _. mine.seats_is some_share;
      })
      (λ (k : (i ≢ id) × (get_elem? s.views i ≡ some u)). r.each i u k.1)
      (at_set s.views id i b u h.1))
      (at_set one other i spent u e))

  -- nothing before the making, and then the first value
  since : T → ℕ → List T
  since x zero = []
  since x (suc _) = x ∷ []

  since_grows : (x : T) (m n : ℕ) → m ≤ n → IsPrefix (since x m) (since x n)
  unfolding since
  since_grows x zero n le = prefix_none (since x n)
  since_grows x (suc m) zero le = absurd (omega arith)
  since_grows x (suc m) (suc n) le = prefix_self (x ∷ [])

  since_history : (x : T) (n : ℕ) → 0 < n → IsHistory (since x n)
  unfolding since
  since_history x zero later = absurd (omega arith)
  since_history x (suc n) later = made x

  pub opens : (n : ℕ) → 0 < key.1 → key.1 ≤ 1024 → n ≡ word key.0 → fits key.0 → Rule word fits key (table_opening (n ∷ 0 ∷ []) [] (opening key.0 key.1))
  unfolding since
  opens n some_seats few is f = record {
    two_words = refl;
    turns = 1;
    turns_is = refl;
    history_at = since key.0;
    before_making = refl;
    at_making = refl;
    grows = λ j k le _. since_grows key.0 j k le;
    is_history = λ k some _. since_history key.0 k some;
    written = refl;
    value = key.0;
    last = refl;
    value_word = is;
    proper = λ i x e. only i x e;
    latest = (0, (opening key.0 key.1, (refl, inl refl)));
    counts = 1;
    counts_is = refl;
    count_at = λ _. 0;
    none_before = refl;
    count_word = refl;
    collecting = refl;
    each = λ i v e. first_fits i v e;
    whole = omega arith;
    bounded = few;
  }
    where
      only : (i : ℕ) (x : T) → get_elem? (key.0 ∷ []) i ≡ some x → fits x
      only zero x e = subst fits (some-injective key.0 x e) f
      only (suc i) x e = absurd (some-ne-none x (sym e))

      first_fits : (i : ℕ) (v : V) → get_elem? (opening key.0 key.1 ∷ []) i ≡ some v → Fits key.1 (since key.0) 1 (λ _. 0) 1 v
      first_fits zero v e = subst (Fits key.1 (since key.0) 1 (λ _. 0) 1) (some-injective (opening key.0 key.1) v e) record {
        seen_is = refl;
        turn_by = omega arith;
        told_is = refl;
        told_by = omega arith;
        counted_is = refl;
        counted_by = omega arith;
        picks = picks_none (key.0 ∷ []);
        within = let none : weight (opening key.0 key.1) ≡ 0 = refl in omega arith;
        gone = λ none. absurd (omega arith);
        seats_is = λ _. refl;
      }
      first_fits (suc i) v e = absurd (some-ne-none v (sym e))
