-- Emissions are accepted in the order of the calls that began them.
use Rattle.std.proofs.Common.{◌≡◌, ℕ, zero, suc, ◌+◌, ◌<◌, Bool, true, false, cond, ◌||◌, List, [], ◌∷◌, ◌++◌, length, take, Option, Some, None, slice_get, refl, sym, ap, ◌∙◌, arith, append_assoc, add-one}
use Rattle.std.proofs.Math.Bool.{or-true}
use Rattle.std.proofs.lemmas.List.{take_all}
use Rattle.std.proofs.lemmas.Option.{none-some, same_Some}
use Rattle.std.specs.List.{fold, filter_map, list_any, range_with_len}
use Rattle.shared_core.specs.Flow.{State, Standing, waits, stands, gone, does_wait, accept, put, settle, settle_one, change, has_room}
use Rattle.shared_core.specs.Story.{if_waiting}
use Rattle.shared_core.proofs.Lists.{or_regroup}
use Rattle.shared_core.proofs.Steps.{length-change}

or-false : (b : Bool) → (b || false) ≡ b
or-false true = refl
or-false false = refl

module _ {T : Type 0} where
  -- what waits, but for the tickets that the test names
  abbrev pub kept_from : (ℕ → Bool) → ℕ → List (Standing T) → List (ℕ × T)
  kept_from q k [] = []
  kept_from q k (waits emitter v ∷ rest) = cond (q k) (kept_from q (suc k) rest) ((emitter, v) ∷ kept_from q (suc k) rest)
  kept_from q k (stands i ∷ rest) = kept_from q (suc k) rest
  kept_from q k (gone ∷ rest) = kept_from q (suc k) rest

  pub kept-all : (k : ℕ) (tickets : List (Standing T)) → kept_from (λ _. false) k tickets ≡ filter_map if_waiting tickets
  kept-all k [] = refl
  kept-all k (waits emitter v ∷ rest) = ap (λ xs. (emitter, v) ∷ xs) (kept-all (suc k) rest)
  kept-all k (stands i ∷ rest) = kept-all (suc k) rest
  kept-all k (gone ∷ rest) = kept-all (suc k) rest

  pub kept-none : (q : ℕ → Bool) (k : ℕ) (tickets : List (Standing T)) → list_any does_wait tickets ≡ false → kept_from q k tickets ≡ []
  kept-none q k [] none = refl
  kept-none q k (waits emitter v ∷ rest) none = absurd (cc)
  kept-none q k (stands i ∷ rest) none = kept-none q (suc k) rest none
  kept-none q k (gone ∷ rest) none = kept-none q (suc k) rest none

  -- the first that waits, and the rest
  record IsFirst (q : ℕ → Bool) (j k : ℕ) (tickets : List (Standing T)) (emitter : ℕ) (v : T) (i : ℕ) : Type 0 where
    rest : List (ℕ × T)
    before : kept_from q j tickets ≡ cond (q (j + k)) rest ((emitter, v) ∷ rest)
    later : kept_from q j (change k (λ _. stands i) tickets) ≡ rest

  first_waiting : (q : ℕ → Bool) (j k : ℕ) (tickets : List (Standing T)) (emitter : ℕ) (v : T) (i : ℕ) → slice_get tickets k ≡ Some (waits emitter v) → list_any does_wait (take k tickets) ≡ false
      → IsFirst q j k tickets emitter v i
  first_waiting q j k [] emitter v i gets none = absurd (none-some _ gets)
  first_waiting q j zero (t ∷ rest) emitter v i gets none =
      let same : t ≡ waits emitter v = same_Some t (waits emitter v) gets in
      record {
        rest = kept_from q (suc j) rest;
        before = ap (λ u. kept_from q j (u ∷ rest)) same ∙ ap (λ n. cond (q n) (kept_from q (suc j) rest) ((emitter, v) ∷ kept_from q (suc j) rest)) (omega arith);
        later = refl;
      }
  first_waiting q j (suc k) (waits e w ∷ rest) emitter v i gets none = absurd (cc)
  first_waiting q j (suc k) (stands n ∷ rest) emitter v i gets none =
      let further = first_waiting q (suc j) k rest emitter v i gets none in
      record { rest = further.rest; before = further.before ∙ ap (λ n. cond (q n) further.rest ((emitter, v) ∷ further.rest)) (omega arith); later = further.later }
  first_waiting q j (suc k) (gone ∷ rest) emitter v i gets none =
      let further = first_waiting q (suc j) k rest emitter v i gets none in
      record { rest = further.rest; before = further.before ∙ ap (λ n. cond (q n) further.rest ((emitter, v) ∷ further.rest)) (omega arith); later = further.later }

  -- a ticket that doesn't wait never waits again
  abbrev pub Settled : List (Standing T) → List (Standing T) → Type 0
  Settled before after = (k : ℕ) (t : Standing T) → slice_get before k ≡ Some t → does_wait t ≡ false → (u : Standing T) × (slice_get after k ≡ Some u) × (does_wait u ≡ false)

  pub settled_same : (tickets : List (Standing T)) → Settled tickets tickets
  settled_same tickets k t gets calm = (t, gets, calm)

  pub settled_put : (j : ℕ) (new : Standing T) → does_wait new ≡ false → (tickets : List (Standing T)) → Settled tickets (change j (λ _. new) tickets)
  settled_put j new calm [] k t gets c = absurd (none-some _ gets)
  settled_put zero new calm (x ∷ rest) zero t gets c = (new, refl, calm)
  settled_put zero new calm (x ∷ rest) (suc k) t gets c = (t, gets, c)
  settled_put (suc j) new calm (x ∷ rest) zero t gets c = (t, gets, c)
  settled_put (suc j) new calm (x ∷ rest) (suc k) t gets c = settled_put j new calm rest k t gets c

  settled_one : (k : ℕ) (M : State T) (standing : Option (Standing T)) → Settled M.tickets (settle_one k M standing).tickets
  settled_one k M None = settled_same M.tickets
  settled_one k M (Some gone) = settled_same M.tickets
  settled_one k M (Some (stands i)) = settled_same M.tickets
  settled_one k M (Some (waits emitter v)) =
      elim (has_room M) as (λ b. Settled M.tickets (cond b (put k (stands (length M.accepted)) (accept emitter v M)) M).tickets) [
        | true ↦ settled_put k (stands (length M.accepted)) refl M.tickets
        | false ↦ settled_same M.tickets
      ]

  settled_all : (ks : List ℕ) (M : State T) → Settled M.tickets (fold (λ N k. settle_one k N (slice_get N.tickets k)) M ks).tickets
  settled_all [] M = settled_same M.tickets
  settled_all (k ∷ ks) M = λ j t gets calm.
      let one = settled_one k M (slice_get M.tickets k) j t gets calm in
      settled_all ks (settle_one k M (slice_get M.tickets k)) j one.0 one.1 one.2

  any_take : (k : ℕ) (ts : List (Standing T)) (t : Standing T) → slice_get ts k ≡ Some t → list_any does_wait (take (suc k) ts) ≡ (list_any does_wait (take k ts) || does_wait t)
  any_take k [] t gets = absurd (none-some _ gets)
  any_take zero (x ∷ rest) t gets = or-false (does_wait x) ∙ ap does_wait (same_Some x t gets)
  any_take (suc k) (x ∷ rest) t gets = ap (λ b. does_wait x || b) (any_take k rest t gets) ∙ or_regroup (does_wait x) (list_any does_wait (take k rest)) (does_wait t)

  pub get_changed : (k : ℕ) (new t : Standing T) (ts : List (Standing T)) → slice_get ts k ≡ Some t → slice_get (change k (λ _. new) ts) k ≡ Some new
  get_changed k new t [] gets = absurd (none-some _ gets)
  get_changed zero new t (x ∷ rest) gets = refl
  get_changed (suc k) new t (x ∷ rest) gets = get_changed k new t rest gets

  pub take_changed : (k : ℕ) (f : Standing T → Standing T) (ts : List (Standing T)) → take k (change k f ts) ≡ take k ts
  take_changed zero f [] = refl
  take_changed (suc k) f [] = refl
  take_changed zero f (x ∷ rest) = refl
  take_changed (suc k) f (x ∷ rest) = ap (λ xs. x ∷ xs) (take_changed k f rest)

  -- one ticket fewer waits at most
  pub fewer_wait : (k : ℕ) (new : Standing T) → does_wait new ≡ false → (ts : List (Standing T)) → list_any does_wait (change k (λ _. new) ts) ≡ true → list_any does_wait ts ≡ true
  fewer_wait k new calm [] some = some
  fewer_wait zero new calm (x ∷ rest) some =
      ap (λ b. does_wait x || b) (ap (λ b. b || list_any does_wait rest) (sym calm) ∙ some) ∙ or-true (does_wait x)
  fewer_wait (suc k) new calm (x ∷ rest) some =
      elim (does_wait x) as (λ b. (b || list_any does_wait (change k (λ _. new) rest)) ≡ true → (b || list_any does_wait rest) ≡ true) [
        | true ↦ λ _. refl
        | false ↦ λ later. fewer_wait k new calm rest later
      ] some

  -- one step of settling
  record StepsTo (q : ℕ → Bool) (k : ℕ) (M N : State T) : Type 0 where
    order : N.accepted ++ kept_from q 0 N.tickets ≡ M.accepted ++ kept_from q 0 M.tickets
    front : list_any does_wait (take (suc k) N.tickets) ≡ true → has_room N ≡ false
    fewer : list_any does_wait N.tickets ≡ true → list_any does_wait M.tickets ≡ true
    same : N.parameters ≡ M.parameters
    count : length N.tickets ≡ length M.tickets

  calm_step : (q : ℕ → Bool) (k : ℕ) (M : State T) (t : Standing T) → slice_get M.tickets k ≡ Some t → does_wait t ≡ false
      → (list_any does_wait (take k M.tickets) ≡ true → has_room M ≡ false) → StepsTo q k M M
  calm_step q k M t gets calm held = record {
    order = refl;
    front = λ some. held (sym (any_take k M.tickets t gets ∙ ap (λ b. list_any does_wait (take k M.tickets) || b) calm ∙ or-false (list_any does_wait (take k M.tickets))) ∙ some);
    fewer = λ some. some;
    same = refl;
    count = refl;
  }

  waiting_step : (q : ℕ → Bool) (k : ℕ) (M : State T) (emitter : ℕ) (v : T) → slice_get M.tickets k ≡ Some (waits emitter v)
      → (list_any does_wait (take k M.tickets) ≡ true → has_room M ≡ false)
      → ((u : Standing T) → slice_get (settle_one k M (Some (waits emitter v))).tickets k ≡ Some u → does_wait u ≡ false → q k ≡ false)
      → StepsTo q k M (settle_one k M (Some (waits emitter v)))
  waiting_step q k M emitter v gets held calm =
      let stand : Standing T = stands (length M.accepted) in
      let next = put k stand (accept emitter v M) in
      elim (has_room M) as (λ b. has_room M ≡ b → ((u : Standing T) → slice_get (cond b next M).tickets k ≡ Some u → does_wait u ≡ false → q k ≡ false) → StepsTo q k M (cond b next M)) [
        | true ↦ λ room settled.
            let none : list_any does_wait (take k M.tickets) ≡ false =
            elim (list_any does_wait (take k M.tickets)) as (λ b. list_any does_wait (take k M.tickets) ≡ b → b ≡ false) [
              | true ↦ λ some. absurd (let no = held some in cc)
              | false ↦ λ _. refl
            ] refl in
            let there = get_changed k stand (waits emitter v) M.tickets gets in
            let first = first_waiting q 0 k M.tickets emitter v (length M.accepted) gets none in
            let unnamed : q (0 + k) ≡ false = ap q (omega arith) ∙ settled stand there refl in
            record {
              order =
                  ap (λ xs. (M.accepted ++ (emitter, v) ∷ []) ++ xs) first.later ∙ append_assoc M.accepted ((emitter, v) ∷ []) first.rest
                  ∙ ap (λ b. M.accepted ++ cond b first.rest ((emitter, v) ∷ first.rest)) (sym unnamed) ∙ ap (λ xs. M.accepted ++ xs) (sym first.before);
              front = λ some. absurd (
                  let no = any_take k (change k (λ _. stand) M.tickets) stand there in
                  let zero_before = ap (list_any does_wait) (take_changed k (λ _. stand) M.tickets) ∙ none in
                  let all = no ∙ ap (λ b. b || false) zero_before in
                  cc
                  );
              fewer = fewer_wait k stand refl M.tickets;
              same = refl;
              count = length-change k (λ _. stand) M.tickets;
            }
        | false ↦ λ full _. record { order = refl; front = λ _. full; fewer = λ some. some; same = refl; count = refl }
      ] refl calm

  some_within : (ts : List (Standing T)) (k : ℕ) → k < length ts → slice_get ts k ≡ None → ⊥
  some_within [] k within gets = omega arith
  some_within (x ∷ rest) zero within gets = cc
  some_within (x ∷ rest) (suc k) within gets = some_within rest k (omega arith) gets

  one_step : (q : ℕ → Bool) (k : ℕ) (M : State T) (o : Option (Standing T)) → slice_get M.tickets k ≡ o → k < length M.tickets
      → (list_any does_wait (take k M.tickets) ≡ true → has_room M ≡ false)
      → ((u : Standing T) → slice_get (settle_one k M o).tickets k ≡ Some u → does_wait u ≡ false → q k ≡ false)
      → StepsTo q k M (settle_one k M o)
  one_step q k M None gets within held calm = absurd (some_within M.tickets k within gets)
  one_step q k M (Some gone) gets within held calm = calm_step q k M gone gets refl held
  one_step q k M (Some (stands i)) gets within held calm = calm_step q k M (stands i) gets refl held
  one_step q k M (Some (waits emitter v)) gets within held calm = waiting_step q k M emitter v gets held calm

  abbrev pub Unnamed : (ℕ → Bool) → List (Standing T) → Type 0
  Unnamed q tickets = (k : ℕ) (t : Standing T) → slice_get tickets k ≡ Some t → does_wait t ≡ false → q k ≡ false

  pub record SettlesTo (q : ℕ → Bool) (M N : State T) : Type 0 where
    pub order : N.accepted ++ kept_from q 0 N.tickets ≡ M.accepted ++ kept_from q 0 M.tickets
    pub held : list_any does_wait N.tickets ≡ true → has_room N ≡ false
    pub fewer : list_any does_wait N.tickets ≡ true → list_any does_wait M.tickets ≡ true
    pub same : N.parameters ≡ M.parameters

  settles : (q : ℕ → Bool) (n k : ℕ) (M : State T) → k + n ≡ length M.tickets → (list_any does_wait (take k M.tickets) ≡ true → has_room M ≡ false)
      → Unnamed q (fold (λ N k. settle_one k N (slice_get N.tickets k)) M (range_with_len k n)).tickets
      → SettlesTo q M (fold (λ N k. settle_one k N (slice_get N.tickets k)) M (range_with_len k n))
  settles q zero k M count held unnamed = record {
    order = refl;
    held = λ some. held (ap (list_any does_wait) (take_all k M.tickets (omega arith)) ∙ some);
    fewer = λ some. some;
    same = refl;
  }
  settles q (suc n) k M count held unnamed =
      let next = settle_one k M (slice_get M.tickets k) in
      let one = one_step q k M (slice_get M.tickets k) refl (omega arith) held (λ u gets calm.
      let last = settled_all (range_with_len (k + 1) n) next k u gets calm in
      unnamed k last.0 last.1 last.2) in
      let rest = settles q n (k + 1) next (omega (arith, count, one.count)) (λ some. one.front (rw add-one at some)) unnamed in
      record {
        order = rest.order ∙ one.order;
        held = rest.held;
        fewer = λ some. one.fewer (rest.fewer some);
        same = rest.same ∙ one.same;
      }

  pub settle_settles : (q : ℕ → Bool) (M : State T) → Unnamed q (settle M).tickets → SettlesTo q M (settle M)
  unfolding settle
  settle_settles q M unnamed = settles q (length M.tickets) 0 M (omega arith) (λ some. absurd (cc)) unnamed

  pub settled_settle : (M : State T) → Settled M.tickets (settle M).tickets
  unfolding settle
  settled_settle M = settled_all (range_with_len 0 (length M.tickets)) M
