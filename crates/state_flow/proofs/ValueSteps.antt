-- Each kind of step on the value keeps the law.
use Rattle.std.proofs.Common.{◌≡◌, ◌≢◌, ℕ, ◌+◌, ◌<◌, ◌≤◌, eqb, List, get_or, set, Option, Some, None, sym, refl, ap, ◌∙◌, subst, ⊎_elim, inl, arith, length, length-append, length-set, get_or-set_same, get_or-set_other, eq-eqb, ne_eqb}
use mathlib.Core.Logic.{dite}
use mathlib.Core.Option.{none, some}
use native.Mathlib.Decide.{ℕ_discrete}
use lib.ListN.{get_elem?}
use prog.Atomic.{either}
use Rattle.atomic_table.specs.Table.{Me, step, keeps, stepped, Allows}
use Rattle.atomic_table.proofs.Lists.{at_set, set_here}
use Rattle.state_flow.specs.declared.view.View.{View}
use Rattle.flow_terms.specs.Lists.{IsPrefix}
use Rattle.state_flow.specs.History.{last_of, Writes, IsHistory, Picks}
use Rattle.state_flow.specs.History.IsHistory.{written}
use Rattle.state_flow.specs.Views.{stepped_to, writing, running}
use Rattle.state_flow.specs.Calls.{Extends}
use Rattle.state_flow.specs.Law.{Fits, StateLaw, Rule}
use Rattle.state_flow.specs.Steps.{Moment, looked, gathered, put as was_put, compared}
use Rattle.state_flow.proofs.Lists.{put, put_here, put_else, at_inside, last_at, prefix_self, prefix_then, prefix_at, write, writes_last, writes_on, writes_all, picks_on, picks_last}
use Rattle.state_flow.proofs.Sums.{sum_by-changed, le-sum_by}
use Rattle.state_flow.proofs.Shares.{knew_all}

-- two values with one word are one value
pub apart_by : {T : Type 0} (word : T → ℕ) (read_as : ℕ → T) (fits : T → Type 0) → ((x : T) → fits x → read_as (word x) ≡ x) → (x y : T) → fits x → fits y → word x ≡ word y → x ≡ y
apart_by word read_as fits undoes x y f g e = sym (undoes x f) ∙ (ap read_as e ∙ undoes y g)

module _ {T : Type 0} (word : T → ℕ) (fits : T → Type 0) (apart : (x y : T) → fits x → fits y → word x ≡ word y → x ≡ y) (key : T × ℕ) where
  abbrev V : Type 0
  V = View T

  abbrev K : List ℕ → List V → Type 0
  K ws vs = StateLaw word fits key.0 key.1 ws vs

  abbrev M : Type 0
  M = Me (Unit {0}) V

  dec_some : (o : Option T) (x : T) → ((y : T) → o ≡ Some y → fits y) → fits x → Dec (o ≡ Some x)
  dec_some None x h f = no (λ e. cc)
  dec_some (Some y) x h f = dite (ℕ_discrete (word y) (word x)) (λ e. yes (ap (λ (z : T). Some z) (apart y x (h y refl) f e)))
      (λ n. no (λ e. let same : y ≡ x = cc in n (ap word same)))

  module _ (ws : List ℕ) (vs : List V) (r : K ws vs) where
    -- the whole history, before the step
    abbrev history : List T
    history = r.history_at r.turns

    fits_last : (x : T) → last_of history ≡ Some x → fits x
    fits_last x e = let t = last_at history x e in r.proper t.0 x t.1.1

    dec_value : (x : T) → fits x → Dec (last_of history ≡ Some x)
    dec_value x f = dec_some (last_of history) x fits_last f

    knows : (id : ℕ) (v : V) → get_elem? vs id ≡ some v → Extends v history
    knows id v at = let mine = r.each id v at in record {
      seen = subst (λ (l : List T). IsPrefix l history) (sym mine.seen_is) (r.grows v.turn r.turns mine.turn_by (omega arith));
      told = subst (λ (l : List T). IsPrefix l history) (sym mine.told_is) (r.grows v.told_turn r.turns mine.told_by (omega arith));
    }

    fits_collected : (id : ℕ) (v : V) → get_elem? vs id ≡ some v → (y : T) → last_of v.collected ≡ Some y → fits y
    fits_collected id v at y e = let picks = (r.each id v at).picks in let t = last_at v.collected y e in
        r.proper (picks.index_of t.0) y (prefix_at history v.seen (knows id v at).seen (picks.index_of t.0) y (picks.stands t.0 y t.1.1))

    dec_collected : (id : ℕ) (v : V) → get_elem? vs id ≡ some v → (x : T) → fits x → Dec (last_of v.collected ≡ Some x)
    dec_collected id v at x f = dec_some (last_of v.collected) x (fits_collected id v at) f

    moment : (id : ℕ) (v : V) → get_elem? vs id ≡ some v → 0 < v.share → Moment word fits v history (r.turns + 1) (get_or ws 0 0)
    moment id v at more = let mine = r.each id v at in let a = mine.turn_by in let b = mine.told_by in let share = le-sum_by (λ (u : V). u.share) vs id v at in let c = r.whole in let d = r.bounded in record {
      later = omega arith;
      later_than_told = omega arith;
      extends = knows id v at;
      is_history = r.is_history r.turns (let is = r.turns_is in omega arith) (omega arith);
      value = r.value;
      last = r.last;
      proper = fits_last r.value r.last;
      found_is = r.value_word;
      bounded = omega arith;
      knew_all = knew_all word fits key ws vs r id v at more;
    }

    -- what the seat that made the step knows of it
    abbrev after_value : V → List T → List T → ℕ → V
    after_value v h xs k = record (stepped_to h (r.turns + 1) v) { collected = xs; writes = k }

    -- the history after each step, with this one
    abbrev grown : List T → ℕ → List T
    grown h = put r.history_at (r.turns + 1) h

    -- a step on the value, which leaves the history h with the last value x, and the seat with xs collected and k values written
    value_step : (id n : ℕ) (v : V) (h : List T) (x : T) (xs : List T) (k : ℕ) → k + length history ≡ v.writes + length h → get_elem? vs id ≡ some v → 0 < v.share → Picks xs h → IsPrefix history h → IsHistory h → last_of h ≡ Some x
        → ((i : ℕ) (y : T) → get_elem? h i ≡ some y → fits y) → n ≡ word x → K (set ws 0 n) (set vs id (after_value v h xs k))
    value_step id n v h x xs k wrote at more picks on is_history last proper is =
        let t : ℕ = r.turns + 1 in
        let w : V = after_value v h xs k in
        let at_end : grown h t ≡ h = put_here r.history_at t h t refl in
        let steps = sum_by-changed (λ (u : V). u.steps) vs id v w at in
        let writes = sum_by-changed (λ (u : V). u.writes) vs id v w at in
        let written = r.written in
        let count_steps = sum_by-changed (λ (u : V). u.count_steps) vs id v w at in
        let collecting = sum_by-changed (λ (u : V). running u) vs id v w at in
        let shares = sum_by-changed (λ (u : V). u.share) vs id v w at in
        let turns_is = r.turns_is in
        let counts_is = r.counts_is in
        let whole = r.whole in record {
          two_words = length-set ws 0 n ∙ r.two_words;
          turns = t;
          turns_is = omega arith;
          history_at = grown h;
          before_making = still 0 (omega arith) ∙ r.before_making;
          at_making = still 1 (omega arith) ∙ r.at_making;
          grows = λ j k le by. grows_at j k le by (ℕ_discrete k t) (ℕ_discrete j t);
          written = ap length at_end ∙ omega arith;
          is_history = λ k some by. dite (ℕ_discrete k t)
              (λ e. subst IsHistory (sym (put_here r.history_at t h k e)) is_history)
              (λ e. subst IsHistory (sym (put_else r.history_at t h k e)) (r.is_history k some (omega arith)));
          value = x;
          last = ap last_of at_end ∙ last;
          value_word = get_or-set_same ws 0 n 0 (let two = r.two_words in omega arith) ∙ is;
          proper = λ i y e. proper i y (ap (λ (l : List T). get_elem? l i) (sym at_end) ∙ e);
          latest = (id, (w, (set_here vs id w (at_inside vs id v at), inl refl)));
          counts = r.counts;
          counts_is = omega arith;
          count_at = r.count_at;
          none_before = r.none_before;
          count_word = get_or-set_other ws 0 1 n 0 (λ e. omega arith) ∙ r.count_word;
          collecting = get_or-set_other ws 0 1 n 0 (λ e. omega arith) ∙ (r.collecting ∙ omega arith);
          each = λ i u e. ⊎_elim
              (λ (k : (i ≡ id) × (w ≡ u)). subst (Fits key.1 (grown h) t r.count_at r.counts) k.1 (let mine = r.each id v at in record {
                seen_is = sym at_end;
                turn_by = omega arith;
                told_is = sym (still 0 (omega arith) ∙ r.before_making);
                told_by = omega arith;
                counted_is = mine.counted_is;
                counted_by = mine.counted_by;
                picks = picks;
                within = mine.within;
                gone = λ none. absurd (omega arith);
                seats_is = mine.seats_is;
              }))
              (λ (k : (i ≢ id) × (get_elem? vs i ≡ some u)). let old = r.each i u k.1 in let a = old.turn_by in let b = old.told_by in record {
                seen_is = old.seen_is ∙ sym (still u.turn (omega arith));
                turn_by = omega arith;
                told_is = old.told_is ∙ sym (still u.told_turn (omega arith));
                told_by = omega arith;
                counted_is = old.counted_is;
                counted_by = old.counted_by;
                picks = old.picks;
                within = old.within;
                gone = old.gone;
                seats_is = old.seats_is;
              })
              (at_set vs id i w u e);
          whole = omega arith;
          bounded = r.bounded;
        }
      where
        still : (k : ℕ) → k < r.turns + 1 → grown h k ≡ r.history_at k
        still k less = put_else r.history_at (r.turns + 1) h k (λ e. omega arith)

        grows_at : (j k : ℕ) → j ≤ k → k ≤ r.turns + 1 → Dec (k ≡ r.turns + 1) → Dec (j ≡ r.turns + 1) → IsPrefix (grown h j) (grown h k)
        grows_at j k le by (yes e) (yes f) = subst (λ (l : List T). IsPrefix (grown h j) l) (put_here r.history_at (r.turns + 1) h j f ∙ sym (put_here r.history_at (r.turns + 1) h k e)) (prefix_self (grown h j))
        grows_at j k le by (yes e) (no f) = subst (λ (l : List T). IsPrefix (grown h j) l) (sym (put_here r.history_at (r.turns + 1) h k e))
            (subst (λ (l : List T). IsPrefix l h) (sym (put_else r.history_at (r.turns + 1) h j f)) (prefix_then h history (r.history_at j) on (r.grows j r.turns (omega arith) (omega arith))))
        grows_at j k le by (no e) (yes f) = absurd (omega arith)
        grows_at j k le by (no e) (no f) = subst (λ (l : List T). IsPrefix (grown h j) l) (sym (put_else r.history_at (r.turns + 1) h k e))
            (subst (λ (l : List T). IsPrefix l (r.history_at k)) (sym (put_else r.history_at (r.turns + 1) h j f)) (r.grows j k le (omega arith)))

    -- a step that leaves the value as it is
    same_value : (id : ℕ) (v : V) (xs : List T) → get_elem? vs id ≡ some v → 0 < v.share → Picks xs history → K (set ws 0 (get_or ws 0 0)) (set vs id (after_value v history xs v.writes))
    same_value id v xs at more picks = value_step id (get_or ws 0 0) v history r.value xs v.writes refl at more picks (prefix_self history) (moment id v at more).is_history r.last r.proper r.value_word

    -- what the seat collected is picked from the whole history too
    picks_now : (id : ℕ) (v : V) → get_elem? vs id ≡ some v → Picks v.collected history
    picks_now id v at = picks_on v.collected v.seen history (knows id v at).seen (r.each id v at).picks

    -- how many values were written by a step that writes x
    abbrev wrote : V → (x : T) (h : List T) → Dec (last_of history ≡ Some x) → Writes history x h → ℕ
    wrote v x h d w = v.writes + length (writes_on history x h d w).0

    wrote_is : (v : V) (x : T) (h : List T) (d : Dec (last_of history ≡ Some x)) (w : Writes history x h) → wrote v x h d w + length history ≡ v.writes + length h
    wrote_is v x h d w = let on = writes_on history x h d w in let a = ap length on.1 ∙ length-append history on.0 in omega arith

    -- a step that writes x
    writes_step : (id n : ℕ) (v : V) (x : T) (h : List T) → get_elem? vs id ≡ some v → 0 < v.share → n ≡ word x → (f : fits x) (w : Writes history x h) → K (set ws 0 n) (set vs id (stepped_to h (r.turns + 1) (writing (wrote v x h (dec_value x f) w) v)))
    writes_step id n v x h at more is f w =
        let d = dec_value x f in
        let on = writes_on history x h d w in
        value_step id n v h x v.collected (wrote v x h d w) (wrote_is v x h d w) at more (picks_on v.collected history h on (picks_now id v at)) on (written history x h (moment id v at more).is_history w) (writes_last history x h d w) (writes_all fits history x h d w f r.proper) is

  pub loads : (slots id : ℕ) (me : M) → 0 < me.0.share → Allows (Rule word fits key) slots id me 0 (λ n. n) (looked word fits (step slots 0 0 0 none) me)
  loads slots id me more s r _ at _ = (
    stepped_to (r.history_at r.turns) (r.turns + 1) me.0,
    keeps,
    tt,
    same_value s.words s.views r id me.0 me.0.collected at more (picks_now s.words s.views r id me.0 at),
    (r.history_at r.turns, (r.turns + 1, (moment s.words s.views r id me.0 at more, refl))),
  )

  pub gathers : (slots id : ℕ) (me : M) → 0 < me.0.share → Allows (Rule word fits key) slots id me 0 (λ n. n) (gathered word fits (step slots 0 0 0 none) me)
  unfolding moment
  gathers slots id me more s r _ at _ =
      let h : List T = r.history_at r.turns in
      let now = moment s.words s.views r id me.0 at more in
      let d = dec_collected s.words s.views r id me.0 at r.value now.proper in
      let got = write me.0.collected r.value d in
      let picks = picks_last me.0.collected h r.value got.0 d r.last got.1 (picks_now s.words s.views r id me.0 at) in (
        record (stepped_to h (r.turns + 1) me.0) { collected = got.0 },
        keeps,
        tt,
        same_value s.words s.views r id me.0 got.0 at more picks,
        (h, (r.turns + 1, (now, (got.1, picks, fits_collected s.words s.views r id me.0 at, refl)))),
      )

  pub puts : (slots id n : ℕ) (me : M) (x : T) → 0 < me.0.share → n ≡ word x → fits x → Allows (Rule word fits key) slots id me 0 (λ _. n) (was_put word fits (step slots 0 n 0 none) me)
  puts slots id n me x more is f s r _ at _ =
      let h : List T = r.history_at r.turns in
      let d = dec_value s.words s.views r x f in
      let new = write h x d in
      let k : ℕ = wrote s.words s.views r me.0 x new.0 d new.1 in (
        stepped_to new.0 (r.turns + 1) (writing k me.0),
        keeps,
        tt,
        writes_step s.words s.views r id n me.0 x new.0 at more is f new.1,
        λ y g same. (h, (new.0, (r.turns + 1, (moment s.words s.views r id me.0 at more, subst (λ (z : T). Writes h z new.0) (apart x y f g (sym is ∙ same)) new.1, refl, wrote_is s.words s.views r me.0 x new.0 d new.1)))),
      )

  pub compares : (slots id old new : ℕ) (me : M) (e u : T) → 0 < me.0.share → old ≡ word e → new ≡ word u → fits e → fits u
      → Allows (Rule word fits key) slots id me 0 (λ n. either (eqb n old) new n) (compared word fits (step slots 0 old new none) me)
  compares slots id old new me e u more is_old is_new fe fu s r _ at _ =
      let n : ℕ = get_or s.words 0 0 in
      let h : List T = r.history_at r.turns in
      let now = moment s.words s.views r id me.0 at more in
      dite (ℕ_discrete n old)
      (λ hit.
      let d = dec_value s.words s.views r u fu in
      let after = write h u d in
      let k : ℕ = wrote s.words s.views r me.0 u after.0 d after.1 in
      let is : r.value ≡ e = apart r.value e (fits_last s.words s.views r r.value r.last) fe (sym r.value_word ∙ (hit ∙ is_old)) in
      let last : last_of h ≡ Some e = r.last ∙ ap (λ (z : T). Some z) is in (
        stepped_to after.0 (r.turns + 1) (writing k me.0),
        keeps,
        tt,
        subst (λ b. Rule word fits key (stepped s 0 (either b new n) id me.1 (stepped_to after.0 (r.turns + 1) (writing k me.0)) keeps)) (sym (eq-eqb n old hit))
            (writes_step s.words s.views r id new me.0 u after.0 at more is_new fu after.1),
        λ e' u' fe' fu' se su. (
          h,
          (
            after.0,
            (
              r.turns + 1,
              (
                now,
                refl,
                (λ _. subst (λ (z : T). Writes h z after.0) (apart u u' fu fu' (sym is_new ∙ su)) after.1),
                (λ not. absurd (not (last ∙ ap (λ (z : T). Some z) (apart e e' fe fe' (sym is_old ∙ se))))),
                wrote_is s.words s.views r me.0 u after.0 d after.1,
              ),
            ),
          ),
        ),
      ))
      (λ miss.
      let other : last_of h ≢ Some e = λ l. let same : r.value ≡ e = same_some r.value e (sym r.last ∙ l) in miss (r.value_word ∙ (ap word same ∙ sym is_old)) in (
        stepped_to h (r.turns + 1) me.0,
        keeps,
        tt,
        subst (λ b. Rule word fits key (stepped s 0 (either b new n) id me.1 (stepped_to h (r.turns + 1) me.0) keeps)) (sym (ne_eqb n old miss))
            (same_value s.words s.views r id me.0 me.0.collected at more (picks_now s.words s.views r id me.0 at)),
        λ e' u' fe' fu' se su. (h, (h, (r.turns + 1, (now, refl, (λ l. absurd (other (l ∙ ap (λ (z : T). Some z) (sym (apart e e' fe fe' (sym is_old ∙ se)))))), (λ _. refl), refl)))),
      ))
    where
      same_some : (x y : T) → Some x ≡ Some y → x ≡ y
      same_some x y e = cc
