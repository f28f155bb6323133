-- Each kind of step on the number of collectors keeps the law.
use Rattle.std.proofs.Common.{◌≡◌, ◌≢◌, ℕ, ◌+◌, ◌-◌, ◌%◌, ◌^◌, ◌<◌, ◌≤◌, Bool, true, false, cond, List, [], get_or, set, sym, refl, ap, ◌∙◌, subst, ⊎_elim, inl, inr, arith, length-set, get_or-set_same, get_or-set_other}
use mathlib.Core.Logic.{dite}
use mathlib.Core.Option.{none, some, some-injective}
use native.Mathlib.Decide.{ℕ_discrete}
use lib.ListN.{get_elem?}
use Rattle.atomic_table.specs.Table.{Me, step, keeps, Allows}
use Rattle.atomic_table.proofs.Lists.{at_set, set_here, set_else}
use Rattle.state_flow.specs.declared.view.View.{View}
use Rattle.state_flow.specs.History.{Picks}
use Rattle.state_flow.specs.Views.{running, starting, stopping, counting, hosting}
use Rattle.state_flow.specs.Law.{Fits, StateLaw, Rule, collectors_in, shares_in}
use Rattle.state_flow.specs.Steps.{began, ended, tallied, launched, cancelled}
use Rattle.state_flow.proofs.Lists.{put, put_here, put_else, at_inside, picks_none}
use Rattle.state_flow.proofs.Sums.{sum_by-changed, le-sum_by, collectors_in-le-shares_in}
use Rattle.state_flow.proofs.Shares.{collects_alone}

module _ {T : Type 0} (word : T → ℕ) (fits : T → Type 0) (key : T × ℕ) where
  abbrev V : Type 0
  V = View T

  abbrev K : List ℕ → List V → Type 0
  K ws vs = StateLaw word fits key.0 key.1 ws vs

  abbrev M : Type 0
  M = Me (Unit {0}) V

  abbrev weight : V → ℕ
  weight v = running v

  module _ (ws : List ℕ) (vs : List V) (r : K ws vs) where
    all_within : collectors_in vs ≤ shares_in vs
    all_within = collectors_in-le-shares_in vs (λ i v e. (r.each i v e).within)

    few_collect : collectors_in vs ≤ 1024
    few_collect = let a = all_within in let b = r.whole in let c = r.bounded in omega arith

    -- what the seat that made the step knows of it
    abbrev after_count : V → ℕ → Bool → ℕ → List T → V
    after_count v n collects runs xs = record v { counted = n; count_turn = r.counts + 1; count_steps = v.count_steps + 1; collects = collects; runs = runs; collected = xs }

    -- the number after each step on it, with this one
    abbrev counted : ℕ → ℕ → ℕ
    counted n = put r.count_at (r.counts + 1) n

    -- a step on the number of collectors, which leaves the number n
    count_step : (id n : ℕ) (v : V) (collects : Bool) (runs : ℕ) (xs : List T) → get_elem? vs id ≡ some v → 0 < v.share → Picks xs v.seen → running (after_count v n collects runs xs) ≤ v.share
        → n ≡ collectors_in (set vs id (after_count v n collects runs xs)) → K (set ws 1 n) (set vs id (after_count v n collects runs xs))
    count_step id n v collects runs xs at more picks within is =
        let t : ℕ = r.counts + 1 in
        let w : V = after_count v n collects runs xs in
        let at_end : counted n t ≡ n = put_here r.count_at t n t refl in
        let steps = sum_by-changed (λ (u : V). u.steps) vs id v w at in
        let writes = sum_by-changed (λ (u : V). u.writes) vs id v w at in
        let written = r.written in
        let count_steps = sum_by-changed (λ (u : V). u.count_steps) vs id v w at in
        let shares = sum_by-changed (λ (u : V). u.share) vs id v w at in
        let turns_is = r.turns_is in
        let counts_is = r.counts_is in
        let whole = r.whole in record {
          two_words = length-set ws 1 n ∙ r.two_words;
          turns = r.turns;
          turns_is = omega arith;
          history_at = r.history_at;
          before_making = r.before_making;
          at_making = r.at_making;
          grows = r.grows;
          is_history = r.is_history;
          written = omega arith;
          value = r.value;
          last = r.last;
          value_word = get_or-set_other ws 1 0 n 0 (λ e. omega arith) ∙ r.value_word;
          proper = r.proper;
          latest = dite (ℕ_discrete r.latest.0 id)
              (λ e. let same : v ≡ r.latest.1.0 = some-injective v r.latest.1.0 (sym at ∙ (ap (λ (k : ℕ). get_elem? vs k) (sym e) ∙ r.latest.1.1.0)) in (
                id,
                (
                  w,
                  (
                    set_here vs id w (at_inside vs id v at),
                    ⊎_elim (λ s. inl (ap (λ (u : V). u.turn) same ∙ s)) (λ s. inr (ap (λ (u : V). u.told_turn) same ∙ s)) r.latest.1.1.1,
                  ),
                ),
              ))
              (λ other. (r.latest.0, (r.latest.1.0, (set_else vs id r.latest.0 w other ∙ r.latest.1.1.0, r.latest.1.1.1))));
          counts = t;
          counts_is = omega arith;
          count_at = counted n;
          none_before = still 0 (omega arith) ∙ r.none_before;
          count_word = get_or-set_same ws 1 n 0 (let two = r.two_words in omega arith) ∙ sym at_end;
          collecting = get_or-set_same ws 1 n 0 (let two = r.two_words in omega arith) ∙ is;
          each = λ i u e. ⊎_elim
              (λ (k : (i ≡ id) × (w ≡ u)). subst (Fits key.1 r.history_at r.turns (counted n) t) k.1 (let mine = r.each id v at in record {
                seen_is = mine.seen_is;
                turn_by = mine.turn_by;
                told_is = mine.told_is;
                told_by = mine.told_by;
                counted_is = sym at_end;
                counted_by = omega arith;
                picks = picks;
                within = within;
                gone = λ none. absurd (omega arith);
                seats_is = mine.seats_is;
              }))
              (λ (k : (i ≢ id) × (get_elem? vs i ≡ some u)). let old = r.each i u k.1 in let a = old.counted_by in record {
                seen_is = old.seen_is;
                turn_by = old.turn_by;
                told_is = old.told_is;
                told_by = old.told_by;
                counted_is = old.counted_is ∙ sym (still u.count_turn (omega arith));
                counted_by = omega arith;
                picks = old.picks;
                within = old.within;
                gone = old.gone;
                seats_is = old.seats_is;
              })
              (at_set vs id i w u e);
          whole = omega arith;
          bounded = r.bounded;
        }
      where
        still : (k : ℕ) → k < r.counts + 1 → counted n k ≡ r.count_at k
        still k less = put_else r.count_at (r.counts + 1) n k (λ e. omega arith)

    later : (id : ℕ) (v : V) → get_elem? vs id ≡ some v → v.count_turn < r.counts + 1
    later id v at = let a = (r.each id v at).counted_by in omega arith

  -- one more collector, which is of the seat
  more_collect : (id : ℕ) (s : List V) (v w : V) → get_elem? s id ≡ some v → collectors_in s ≤ shares_in s → ((i : ℕ) (u : V) → get_elem? s i ≡ some u → running u ≤ u.share) → w.share ≡ v.share → running w ≡ running v + 1 → running w ≤ w.share
      → (collectors_in (set s id w) ≡ collectors_in s + 1) × (collectors_in (set s id w) ≤ shares_in s)
  more_collect id s v w at few each same one within =
      let sum = sum_by-changed weight s id v w at in
      let share = sum_by-changed (λ (u : V). u.share) s id v w at in
      let all : collectors_in (set s id w) ≤ shares_in (set s id w) = collectors_in-le-shares_in (set s id w) (λ i u e. ⊎_elim
      (λ (k : (i ≡ id) × (w ≡ u)). subst (λ (x : V). running x ≤ x.share) k.1 within)
      (λ (k : (i ≢ id) × (get_elem? s i ≡ some u)). each i u k.1)
      (at_set s id i w u e)) in
      (omega arith, omega arith)

  pub begins : (slots id : ℕ) (me : M) → me.0.collects ≡ false → me.0.runs ≡ 0 → 0 < me.0.share → Allows (Rule word fits key) slots id me 1 (λ n. (n + 1) % 2 ^ 64) (began (step slots 1 1 0 none) me)
  begins slots id me out runs_none some_share s r _ at _ =
      let n : ℕ = get_or s.words 1 0 in
      let w : V = starting (n + 1) (r.counts + 1) me.0 in
      let is : n ≡ collectors_in s.views = r.collecting in
      let none_yet : weight me.0 ≡ 0 + me.0.runs = ap (λ (b : Bool). cond b 1 0 + me.0.runs) out in
      let now : weight w ≡ 1 + me.0.runs = refl in
      let within : weight w ≤ w.share = omega arith in
      let whole = r.whole in
      let bounded = r.bounded in
      let all = more_collect id s.views me.0 w at (all_within s.words s.views r) (λ i v e. (r.each i v e).within) refl (omega arith) within in
      let sum = all.0 in
      let few = all.1 in
      let more : n + 1 ≡ collectors_in (set s.views id w) = omega arith in
      let small : n < 1024 = omega arith in
      let no_wrap : n + 1 ≡ (n + 1) % 18446744073709551616 = omega arith in (
        w,
        keeps,
        tt,
        subst (λ (k : ℕ). K (set s.words 1 k) (set s.views id w)) no_wrap (count_step s.words s.views r id (n + 1) me.0 true me.0.runs [] at some_share (picks_none me.0.seen) within more),
        (r.counts + 1, (later s.words s.views r id me.0 at, small, refl, collects_alone word fits key s.words s.views r id me.0 at some_share)),
      )

  pub launches : (slots id : ℕ) (me : M) → running me.0 < me.0.share → Allows (Rule word fits key) slots id me 1 (λ n. (n + 1) % 2 ^ 64) (launched (step slots 1 1 0 none) me)
  launches slots id me room s r _ at _ =
      let n : ℕ = get_or s.words 1 0 in
      let w : V = hosting (me.0.runs + 1) (n + 1) (r.counts + 1) me.0 in
      let is : n ≡ collectors_in s.views = r.collecting in
      let some_share : 0 < me.0.share = omega arith in
      let one : weight w ≡ weight me.0 + 1 = omega arith in
      let within : weight w ≤ w.share = omega arith in
      let whole = r.whole in
      let bounded = r.bounded in
      let all = more_collect id s.views me.0 w at (all_within s.words s.views r) (λ i v e. (r.each i v e).within) refl one within in
      let sum = all.0 in
      let few = all.1 in
      let more : n + 1 ≡ collectors_in (set s.views id w) = omega arith in
      let small : n < 1024 = omega arith in
      let no_wrap : n + 1 ≡ (n + 1) % 18446744073709551616 = omega arith in (
        w,
        keeps,
        tt,
        subst (λ (k : ℕ). K (set s.words 1 k) (set s.views id w)) no_wrap
            (count_step s.words s.views r id (n + 1) me.0 me.0.collects (me.0.runs + 1) me.0.collected at some_share (r.each id me.0 at).picks within more),
        (r.counts + 1, (later s.words s.views r id me.0 at, small, refl, collects_alone word fits key s.words s.views r id me.0 at some_share)),
      )

  -- one collector fewer, which was of the seat
  fewer : (id n : ℕ) (s : List V) (v w : V) → get_elem? s id ≡ some v → n ≡ collectors_in s → running v ≡ running w + 1 → n - 1 ≡ collectors_in (set s id w)
  fewer id n s v w at is one = let sum = sum_by-changed weight s id v w at in let own = le-sum_by weight s id v at in omega arith

  pub ends : (slots id : ℕ) (me : M) → me.0.collects ≡ true → 0 < me.0.share → Allows (Rule word fits key) slots id me 1 (λ n. (n + (2 ^ 64 - 1)) % 2 ^ 64) (ended (step slots 1 1 0 none) me)
  ends slots id me inside more s r _ at small =
      let n : ℕ = get_or s.words 1 0 in
      let w : V = stopping (n - 1) (r.counts + 1) me.0 in
      let is : n ≡ collectors_in s.views = r.collecting in
      let one : weight me.0 ≡ 1 + me.0.runs = ap (λ (b : Bool). cond b 1 0 + me.0.runs) inside in
      let now : weight w ≡ 0 + me.0.runs = refl in
      let own = le-sum_by weight s.views id me.0 at in
      let within : weight w ≤ w.share = let old = (r.each id me.0 at).within in omega arith in
      let fits_word : n < 18446744073709551616 = small in
      let few = few_collect s.words s.views r in
      let less : n - 1 ≡ collectors_in (set s.views id w) = fewer id n s.views me.0 w at is (omega arith) in
      let some_collect : 0 < n = omega arith in
      let at_most : n ≤ 1024 = omega arith in
      let no_wrap : n - 1 ≡ (n + 18446744073709551615) % 18446744073709551616 = omega arith in (
        w,
        keeps,
        tt,
        subst (λ (k : ℕ). K (set s.words 1 k) (set s.views id w)) no_wrap (count_step s.words s.views r id (n - 1) me.0 false me.0.runs me.0.collected at more (r.each id me.0 at).picks within less),
        (r.counts + 1, (later s.words s.views r id me.0 at, at_most, some_collect, refl, collects_alone word fits key s.words s.views r id me.0 at more)),
      )

  pub cancels : (slots id : ℕ) (me : M) → 0 < me.0.runs → 0 < me.0.share → Allows (Rule word fits key) slots id me 1 (λ n. (n + (2 ^ 64 - 1)) % 2 ^ 64) (cancelled (step slots 1 1 0 none) me)
  cancels slots id me runs_one more s r _ at small =
      let n : ℕ = get_or s.words 1 0 in
      let w : V = hosting (me.0.runs - 1) (n - 1) (r.counts + 1) me.0 in
      let is : n ≡ collectors_in s.views = r.collecting in
      let one : weight me.0 ≡ weight w + 1 = omega arith in
      let own = le-sum_by weight s.views id me.0 at in
      let within : weight w ≤ w.share = let old = (r.each id me.0 at).within in omega arith in
      let fits_word : n < 18446744073709551616 = small in
      let few = few_collect s.words s.views r in
      let less : n - 1 ≡ collectors_in (set s.views id w) = fewer id n s.views me.0 w at is one in
      let some_collect : 0 < n = omega arith in
      let at_most : n ≤ 1024 = omega arith in
      let no_wrap : n - 1 ≡ (n + 18446744073709551615) % 18446744073709551616 = omega arith in (
        w,
        keeps,
        tt,
        subst (λ (k : ℕ). K (set s.words 1 k) (set s.views id w)) no_wrap
            (count_step s.words s.views r id (n - 1) me.0 me.0.collects (me.0.runs - 1) me.0.collected at more (r.each id me.0 at).picks within less),
        (r.counts + 1, (later s.words s.views r id me.0 at, at_most, some_collect, refl, collects_alone word fits key s.words s.views r id me.0 at more)),
      )

  pub tallies : (slots id : ℕ) (me : M) → 0 < me.0.share → Allows (Rule word fits key) slots id me 1 (λ n. n) (tallied (step slots 1 0 0 none) me)
  tallies slots id me more s r _ at _ =
      let n : ℕ = get_or s.words 1 0 in
      let w : V = counting n (r.counts + 1) me.0 in
      let is : n ≡ collectors_in s.views = r.collecting in
      let sum = sum_by-changed weight s.views id me.0 w at in
      let few = few_collect s.words s.views r in
      let same : n ≡ collectors_in (set s.views id w) = omega arith in
      let at_most : n ≤ 1024 = omega arith in (
        w,
        keeps,
        tt,
        count_step s.words s.views r id n me.0 me.0.collects me.0.runs me.0.collected at more (r.each id me.0 at).picks (r.each id me.0 at).within same,
        (r.counts + 1, (later s.words s.views r id me.0 at, at_most, refl, collects_alone word fits key s.words s.views r id me.0 at more)),
      )
