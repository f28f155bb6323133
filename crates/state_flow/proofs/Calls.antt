-- What a step tells its caller, in the words of the call.
use Rattle.std.proofs.Common.{◌≡◌, ◌≢◌, ℕ, ◌+◌, ◌<◌, Bool, true, false, eqb, List, [], ◌∷◌, ◌++◌, length, Option, Some, None, MatchBool, sym, refl, ap, ◌∙◌, subst, ⊎_elim, inl, inr, eq-eqb, ne_eqb, arith}
use Rattle.std.specs.Prelude.{◌↔◌, MatchOption}
use Rattle.std.specs.Option.{option_eq}
use mathlib.Core.Logic.{dite}
use mathlib.Core.Option.{none}
use native.Mathlib.Decide.{ℕ_discrete}
use Rattle.atomic_table.specs.Table.{Me, step}
use Rattle.atomic_table.specs.Seated.{TableId}
use Rattle.atomic_table.specs.declared.shared.Seat.{Seat}
use Rattle.state_flow.specs.declared.view.View.{View}
use Rattle.state_flow.specs.History.{last_of, Writes, IsHistory, written, Picks}
use Rattle.state_flow.proofs.Lists.{last_snoc, not_last_of_none}
use Rattle.state_flow.specs.Views.{HasAll, stepped_to, writing, keeper, IsSeated}
use Rattle.state_flow.specs.Calls.{Extends, StepsOnce, Reads, Compares, Collects, KnewAll, StepsNext, ReadsAlone, SetsAlone, ComparesAlone, CollectsAlone, TakesBackLast}
use Rattle.state_flow.specs.Steps.{Moment, gathered, put as was_put, compared}

module _ {T : Type 0} (word : T → ℕ) (fits : T → Type 0) (apart : (x y : T) → fits x → fits y → word x ≡ word y → x ≡ y) where
  abbrev V : Type 0
  V = View T

  abbrev M : Type 0
  M = Me (Unit {0}) V

  same_some : (x y : T) → Some x ≡ Some y → x ≡ y
  same_some x y e = cc

  once : (v w : V) (h : List T) (n : ℕ) → w ≡ stepped_to h n v → v.turn < n → v.told_turn < n → StepsOnce v w
  once v w h n is later later_than_told = subst (StepsOnce v) (sym is) record { later = later; later_than_told = later_than_told; only = refl }

  -- what a compare_exchange answers, by the history that it found
  answered : (old new : ℕ) (m m' : M) (found : ℕ) (e u : T) → fits e → (is_first : old ≡ word e) → (before after : List T) (turn : ℕ) (now : Moment word fits m.0 before turn found) → m'.0.seen ≡ after
      → (last_of before ≡ Some e → Writes before u after) → (last_of before ≢ Some e → after ≡ before)
      → MatchBool (eqb found old) ((last_of before ≡ Some e) × Writes before u m'.0.seen) ((last_of before ≢ Some e) × (m'.0.seen ≡ before))
  answered old new m m' found e u fe is_first before after turn now seen hits misses =
      let P : Bool → Type 0 = λ b. MatchBool b ((last_of before ≡ Some e) × Writes before u m'.0.seen) ((last_of before ≢ Some e) × (m'.0.seen ≡ before)) in
      dite (ℕ_discrete found old)
      (λ hit. let last : last_of before ≡ Some e = now.last ∙ ap (λ (z : T). Some z) (apart now.value e now.proper fe (sym now.found_is ∙ (hit ∙ is_first))) in
      subst P (sym (eq-eqb found old hit)) (last, subst (Writes before u) (sym seen) (hits last)))
      (λ miss. let other : last_of before ≢ Some e = λ h. let same : now.value ≡ e = same_some now.value e (sym now.last ∙ h) in miss (now.found_is ∙ (ap word same ∙ sym is_first)) in
      subst P (sym (ne_eqb found old miss)) (other, seen ∙ misses other))

  pub compared_says : (old new : ℕ) (m m' : M) (found : ℕ) (e u : T) → fits e → fits u → old ≡ word e → new ≡ word u → compared word fits (step 0 0 old new none) m found m' → Compares m.0 e u (eqb found old) m'.0
  compared_says old new m m' found e u fe fu is_first is_second told =
      let t = told e u fe fu is_first is_second in
      let before : List T = t.0 in
      let is = t.1.1.1.1 in
      let now : Moment word fits m.0 before t.1.1.0 found = t.1.1.1.0 in
      let seen : m'.0.seen ≡ t.1.0 = ap (λ (z : M). z.0.seen) is in
      record {
        one_step = once (writing m'.0.writes m.0) m'.0 t.1.0 t.1.1.0 (ap (λ (z : M). z.0) is) now.later now.later_than_told;
        found = before;
        extends = now.extends;
        is_history = now.is_history;
        answers = answered old new m m' found e u fe is_first before t.1.0 t.1.1.0 now seen t.1.1.1.2 t.1.1.1.3;
        wrote = t.1.1.1.4;
      }

  -- what the two steps that write leave is a history
  pub put_history : (n : ℕ) (m m' : M) (found : ℕ) (x : T) → fits x → n ≡ word x → was_put word fits (step 0 0 n 0 none) m found m' → IsHistory m'.0.seen
  put_history n m m' found x f is told = let t = told x f is in
      subst IsHistory (sym (ap (λ (z : M). z.0.seen) t.1.1.1.2)) (written t.0 x t.1.0 t.1.1.1.0.is_history t.1.1.1.1)

  pub compared_history : (v w : V) (e u : T) (b : Bool) → Compares v e u b w → IsHistory w.seen
  compared_history v w e u true compared = written compared.found u w.seen compared.is_history compared.answers.1
  compared_history v w e u false compared = subst IsHistory (sym compared.answers.1) compared.is_history

  -- ---- who has all seats

  -- what was found is what the seat had seen, where nothing was told to it
  at_once : (v : V) (h : List T) (n : ℕ) (x : T) → v.told ≡ [] → last_of h ≡ Some x → KnewAll v h n → (v.turn + 1 ≡ n) × (h ≡ v.seen)
  at_once v h n x untold last knew = ⊎_elim (λ t. t) (λ t. absurd (not_last_of_none x (ap last_of (sym (t.1 ∙ untold)) ∙ last))) knew.latest

  steps_next : (v w : V) (n size : ℕ) → w.turn ≡ n → w.steps ≡ v.steps + 1 → v.turn + 1 ≡ n → n ≡ v.steps + 2 → size ≡ v.writes + 1 → w.writes + size ≡ v.writes + length w.seen → StepsNext v w
  steps_next v w n size turn steps next own all wrote = record { next = omega arith; all_its_own = record { steps = omega arith; writes = omega arith } }

  -- a load writes nothing
  loaded : (v w : V) → w.writes ≡ v.writes → w.writes + length w.seen ≡ v.writes + length w.seen
  loaded v w is = omega arith

  pub put_alone : (n : ℕ) (m m' : M) (found : ℕ) (x : T) → fits x → n ≡ word x → was_put word fits (step 0 0 n 0 none) m found m' → m.0.told ≡ [] → SetsAlone m.0 x m'.0
  put_alone n m m' found x f is told untold all =
      let t = told x f is in
      let now : Moment word fits m.0 t.0 t.1.1.0 found = t.1.1.1.0 in
      let knew = now.knew_all all in
      let once = at_once m.0 t.0 t.1.1.0 now.value untold now.last knew in
      let after = t.1.1.1.2 in (
        steps_next m.0 m'.0 t.1.1.0 (length t.0) (ap (λ (z : M). z.0.turn) after) (ap (λ (z : M). z.0.steps) after) once.0 knew.all_its_own knew.all_written t.1.1.1.3,
        subst (λ (l : List T). Writes l x m'.0.seen) once.1 (subst (Writes t.0 x) (sym (ap (λ (z : M). z.0.seen) after)) t.1.1.1.1),
      )

  pub compared_alone : (old new : ℕ) (m m' : M) (found : ℕ) (e u : T) → fits e → fits u → old ≡ word e → new ≡ word u → compared word fits (step 0 0 old new none) m found m' → m.0.told ≡ [] → ComparesAlone m.0 e u (eqb found old) m'.0
  compared_alone old new m m' found e u fe fu is_first is_second told untold all =
      let t = told e u fe fu is_first is_second in
      let now : Moment word fits m.0 t.0 t.1.1.0 found = t.1.1.1.0 in
      let knew = now.knew_all all in
      let once = at_once m.0 t.0 t.1.1.0 now.value untold now.last knew in
      let after = t.1.1.1.1 in (
        steps_next m.0 m'.0 t.1.1.0 (length t.0) (ap (λ (z : M). z.0.turn) after) (ap (λ (z : M). z.0.steps) after) once.0 knew.all_its_own knew.all_written t.1.1.1.4,
        subst (λ (l : List T). MatchBool (eqb found old) ((last_of l ≡ Some e) × Writes l u m'.0.seen) ((last_of l ≢ Some e) × (m'.0.seen ≡ l))) once.1
            (answered old new m m' found e u fe is_first t.0 t.1.0 t.1.1.0 now (ap (λ (z : M). z.0.seen) after) t.1.1.1.2 t.1.1.1.3),
      )

  module _ (eq : T → T → Bool) (tells_apart : (x y : T) → fits x → fits y → (eq x y ≡ true) ↔ (word x ≡ word y)) (m m' : M) (found : ℕ) (told : gathered word fits (step 0 0 0 0 none) m found m') where
    abbrev history : List T
    history = told.0

    abbrev now : Moment word fits m.0 told.0 told.1.0 found
    now = told.1.1.0

    abbrev is_after : m' ≡ (record (stepped_to told.0 told.1.0 m.0) { collected = m'.0.collected }, m.1)
    is_after = told.1.1.1.3

    seen : m'.0.seen ≡ told.0
    seen = ap (λ (z : M). z.0.seen) is_after

    turn : m'.0.turn ≡ told.1.0
    turn = ap (λ (z : M). z.0.turn) is_after

    view : m'.0 ≡ record (stepped_to m'.0.seen m'.0.turn m.0) { collected = m'.0.collected }
    view = ap (λ (z : M). z.0) is_after ∙ (ap (λ (h : List T). record (stepped_to h told.1.0 m.0) { collected = m'.0.collected }) (sym seen)
        ∙ ap (λ (n : ℕ). record (stepped_to m'.0.seen n m.0) { collected = m'.0.collected }) (sym turn))

    later : m.0.turn < m'.0.turn
    later = subst (λ (n : ℕ). m.0.turn < n) (sym turn) now.later

    -- the value that was given last is the one found exactly where they are equal by the comparison
    same_last : (o : Option T) → last_of m.0.collected ≡ o → option_eq eq o (Some now.value) ≡ true → last_of m.0.collected ≡ Some now.value
    same_last None e h = cc
    same_last (Some y) e h = let f = told.1.1.1.2 y e in e ∙ ap (λ (z : T). Some z) (apart y now.value f now.proper ((tells_apart y now.value f now.proper).0 h))

    other_last : (o : Option T) → last_of m.0.collected ≡ o → option_eq eq o (Some now.value) ≡ false → last_of m.0.collected ≢ Some now.value
    other_last o e h is = no_both (eq now.value now.value) ((tells_apart now.value now.value now.proper now.proper).1 refl) (subst (λ (p : Option T). option_eq eq p (Some now.value) ≡ false) (sym e ∙ is) h)
      where
        no_both : (b : Bool) → b ≡ true → b ≢ false
        no_both b p q = cc

    pub gathered_none : (o : Option T) (x : T) → x ≡ now.value → last_of m.0.collected ≡ o → option_eq eq o (Some x) ≡ true → Collects m.0 None m'.0
    gathered_none o x is e h =
        let same = same_last o e (subst (λ (z : T). option_eq eq o (Some z) ≡ true) is h) in record {
          later = later;
          only = view;
          extends = subst (Extends m.0) (sym seen) now.extends;
          is_history = subst IsHistory (sym seen) now.is_history;
          value = now.value;
          current = ap last_of seen ∙ now.last;
          answers = same;
          received = told.1.1.1.0.0 same;
          subsequence = subst (Picks m'.0.collected) (sym seen) told.1.1.1.1;
        }

    pub gathered_some : (o : Option T) (x : T) → x ≡ now.value → last_of m.0.collected ≡ o → option_eq eq o (Some x) ≡ false → Collects m.0 (Some x) m'.0
    gathered_some o x is e h =
        let other = other_last o e (subst (λ (z : T). option_eq eq o (Some z) ≡ false) is h) in record {
          later = later;
          only = view;
          extends = subst (Extends m.0) (sym seen) now.extends;
          is_history = subst IsHistory (sym seen) now.is_history;
          value = now.value;
          current = ap last_of seen ∙ now.last;
          answers = (is, other);
          received = told.1.1.1.0.1 other ∙ ap (λ (z : T). m.0.collected ++ z ∷ []) (sym is);
          subsequence = subst (Picks m'.0.collected) (sym seen) told.1.1.1.1;
        }

    -- the value that code reads in the word
    pub value_is : (read_as : ℕ → T) → ((x : T) → fits x → read_as (word x) ≡ x) → (x : T) → x ≡ read_as found → x ≡ now.value
    value_is read_as undoes x is = is ∙ (ap read_as now.found_is ∙ undoes now.value now.proper)

  -- the seat is still at its flow, with its share, and there is nothing left to be told
  pub seated_after : (was is : Seat (Unit {0}) V) (flow : TableId) (share found : ℕ) → gathered word fits (step 0 0 0 0 none) was.me found is.me → is.table_id ≡ was.table_id
      → IsSeated was flow share 0 true → IsSeated is flow share 0 true
  seated_after was is flow share found told same seated =
      let after : is.me ≡ (record (stepped_to told.0 told.1.0 was.me.0) { collected = is.me.0.collected }, was.me.1) = told.1.1.1.3 in record {
        same_flow = same ∙ seated.same_flow;
        share_is = ap (λ (z : M). z.0.share) after ∙ seated.share_is;
        runs_is = ap (λ (z : M). z.0.runs) after ∙ seated.runs_is;
        few_run = seated.few_run;
        few = seated.few;
        collects_is = ap (λ (z : M). z.0.collects) after ∙ seated.collects_is;
        is_history = subst IsHistory (sym (ap (λ (z : M). z.0.seen) after)) told.1.1.0.is_history;
        untold = ap (λ (z : M). z.0.told) after;
        untold_turn = ap (λ (z : M). z.0.told_turn) after;
        holds_no_slot = ap (λ (z : M). z.1) after ∙ seated.holds_no_slot;
      }

  pub gathered_knew : (m m' : M) (found : ℕ) → gathered word fits (step 0 0 0 0 none) m found m' → HasAll m.0 → KnewAll m.0 m'.0.seen m'.0.turn
  gathered_knew m m' found told all =
      let after = told.1.1.1.3 in
      subst (λ (n : ℕ). KnewAll m.0 m'.0.seen n) (sym (ap (λ (z : M). z.0.turn) after)) (subst (λ (l : List T). KnewAll m.0 l told.1.0) (sym (ap (λ (z : M). z.0.seen) after)) (told.1.1.0.knew_all all))

  pub reads_alone : (v w : V) (x : T) → v.told ≡ [] → Reads v x w → (HasAll v → KnewAll v w.seen w.turn) → ReadsAlone v x w
  reads_alone v w x untold reads knew all =
      let once = at_once v w.seen w.turn x untold reads.current (knew all) in
      (steps_next v w w.turn (length w.seen) refl (ap (λ (u : V). u.steps) reads.one_step.only) once.0 (knew all).all_its_own (knew all).all_written (loaded v w (ap (λ (u : V). u.writes) reads.one_step.only)), ap last_of (sym once.1) ∙ reads.current, once.1)

  gave : (given : Option T) (value : T) (history collected : List T) → last_of history ≡ Some value → MatchOption given (last_of collected ≡ Some value) (λ x. (x ≡ value) × (last_of collected ≢ Some value))
      → MatchOption given (last_of collected ≡ last_of history) (λ x. (last_of history ≡ Some x) × (last_of collected ≢ Some x))
  gave None value history collected last answers = answers ∙ sym last
  gave (Some x) value history collected last answers = (last ∙ ap (λ (z : T). Some z) (sym answers.0), λ e. answers.1 (e ∙ ap (λ (z : T). Some z) answers.0))

  pub collects_alone : (v w : V) (given : Option T) → v.told ≡ [] → Collects v given w → (HasAll v → KnewAll v w.seen w.turn) → CollectsAlone v given w
  collects_alone v w given untold collects knew all =
      let once = at_once v w.seen w.turn collects.value untold collects.current (knew all) in (
        steps_next v w w.turn (length w.seen) refl (ap (λ (u : V). u.steps) collects.only) once.0 (knew all).all_its_own (knew all).all_written (loaded v w (ap (λ (u : V). u.writes) collects.only)),
        once.1,
        gave given collects.value v.seen v.collected (ap last_of (sym once.1) ∙ collects.current) collects.answers,
      )

  pub takes_back_last : (v w u : V) (x : T) → Reads (keeper v w) x u → (HasAll (keeper v w) → KnewAll (keeper v w) u.seen u.turn) → TakesBackLast v w u
  takes_back_last v w u x reads knew all =
      let share : u.share ≡ v.share + w.share = ap (λ (z : V). z.share) reads.one_step.only in
      let seats : u.seats ≡ v.seats = ap (λ (z : V). z.seats) reads.one_step.only in
      let steps : u.steps ≡ v.steps + w.steps + 1 = ap (λ (z : V). z.steps) reads.one_step.only in
      let k = knew (sym share ∙ (all ∙ seats)) in
      let writes : u.writes ≡ v.writes + w.writes = ap (λ (z : V). z.writes) reads.one_step.only in
      let own = k.all_its_own in
      let written = k.all_written in
      (record { steps = omega arith; writes = omega arith }, ⊎_elim (λ t. inl t.1) (λ t. inr t.1) k.latest)

  pub last_same : (v w : V) (o : Option T) → Collects v None w → last_of v.collected ≡ o → last_of w.collected ≡ o
  last_same v w o t is = ap last_of t.received ∙ is

  pub last_new : (v w : V) (x : T) → Collects v (Some x) w → last_of w.collected ≡ Some x
  last_new v w x t = ap last_of t.received ∙ last_snoc v.collected x
