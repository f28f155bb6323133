-- Settling, one acceptance after another.
use Rattle.std.proofs.Common.{◌≡◌, ℕ, zero, suc, ◌+◌, ◌-◌, ◌<◌, ◌≤◌, Bool, true, false, ◌||◌, cond, List, [], ◌∷◌, ◌++◌, length, take, Option, Some, None, slice_get, refl, sym, ap, ◌∙◌, arith}
use Rattle.std.proofs.lemmas.List.Sums.{fold-append}
use Rattle.std.proofs.lemmas.Option.{none-some, same_Some, slice_get_within}
use Rattle.std.specs.List.{fold, filter, list_any, range_with_len}
use Rattle.shared_core.specs.Flow.{State, Standing, waits, stands, gone, does_wait, accept, put, settle, settle_one, has_room}
use Rattle.shared_core.specs.Shown.{out_from}
use Rattle.shared_core.proofs.Lists.{range-append}
use Rattle.shared_core.proofs.Numbered.{or_false_right}
use Rattle.shared_core.proofs.Steps.{length-change}
use Rattle.shared_core.proofs.Queueing.{get_changed, take_changed}

or_false_left : (a b : Bool) → (a || b) ≡ false → a ≡ false
or_false_left true b h = h
or_false_left false b h = refl

module _ {T : Type 0} where
  abbrev settle_over : List ℕ → State T → State T
  settle_over ks M = fold (λ N k. settle_one k N (slice_get N.tickets k)) M ks

  -- where no step does anything, all of them do nothing
  calm_range : (M : State T) (j n : ℕ) → ((k : ℕ) → j ≤ k → k < j + n → settle_one k M (slice_get M.tickets k) ≡ M) → settle_over (range_with_len j n) M ≡ M
  calm_range M j zero calm = refl
  calm_range M j (suc n) calm =
      ap (settle_over (range_with_len (j + 1) n)) (calm j (omega arith) (omega arith))
      ∙ calm_range M (j + 1) n (λ k low high. calm k (omega arith) (omega arith))

  full_step : (k : ℕ) (M : State T) (standing : Option (Standing T)) → has_room M ≡ false → settle_one k M standing ≡ M
  full_step k M None full = refl
  full_step k M (Some gone) full = refl
  full_step k M (Some (stands i)) full = refl
  full_step k M (Some (waits emitter v)) full = ap (λ b. cond b (put k (stands (length M.accepted)) (accept emitter v M)) M) full

  still_step : (k : ℕ) (M : State T) (standing : Option (Standing T)) → ((t : Standing T) → standing ≡ Some t → does_wait t ≡ false) → settle_one k M standing ≡ M
  still_step k M None still = refl
  still_step k M (Some gone) still = refl
  still_step k M (Some (stands i)) still = refl
  still_step k M (Some (waits emitter v)) still = absurd (let no = still (waits emitter v) refl in cc)

  none_there : (ts : List (Standing T)) (n k : ℕ) (t : Standing T) → list_any does_wait (take n ts) ≡ false → k < n → slice_get ts k ≡ Some t → does_wait t ≡ false
  none_there [] n k t none below gets = absurd (none-some _ gets)
  none_there (x ∷ rest) zero k t none below gets = absurd (omega arith)
  none_there (x ∷ rest) (suc n) zero t none below gets = ap does_wait (sym (same_Some x t gets)) ∙ or_false_left (does_wait x) (list_any does_wait (take n rest)) none
  none_there (x ∷ rest) (suc n) (suc k) t none below gets = none_there rest n k t (or_false_right (does_wait x) (list_any does_wait (take n rest)) none) (omega arith) gets

  -- the steps before the first that waits do nothing
  before_first : (M : State T) (k : ℕ) → list_any does_wait (take k M.tickets) ≡ false → settle_over (range_with_len 0 k) M ≡ M
  before_first M k none = calm_range M 0 k (λ i low high. still_step i M (slice_get M.tickets i) (λ t gets. none_there M.tickets k i t none (omega arith) gets))

  pub settle-full : (M : State T) → has_room M ≡ false → settle M ≡ M
  unfolding settle
  settle-full M full = calm_range M 0 (length M.tickets) (λ k low high. full_step k M (slice_get M.tickets k) full)

  pub settle-none : (M : State T) → list_any does_wait (take (length M.tickets) M.tickets) ≡ false → settle M ≡ M
  unfolding settle
  settle-none M none = before_first M (length M.tickets) none

  -- the oldest that waits is accepted first
  pub settle-first : (M : State T) (k emitter : ℕ) (v : T) → slice_get M.tickets k ≡ Some (waits emitter v) → list_any does_wait (take k M.tickets) ≡ false → has_room M ≡ true
      → settle M ≡ settle (put k (stands (length M.accepted)) (accept emitter v M))
  unfolding settle
  settle-first M k emitter v gets none room =
      let stand : Standing T = stands (length M.accepted) in
      let N = put k stand (accept emitter v M) in
      let len = length M.tickets in
      let rest = range_with_len (k + 1) (len - (k + 1)) in
      let within = slice_get_within M.tickets k (waits emitter v) gets in
      let one_more : len - k ≡ suc (len - (k + 1)) = omega arith in
      let all : len ≡ k + (len - k) = omega arith in
      let split : range_with_len 0 len ≡ range_with_len 0 k ++ (k ∷ rest) =
      ap (range_with_len 0) all ∙ range-append 0 k (len - k) ∙ ap (λ j. range_with_len 0 k ++ range_with_len j (len - k)) (omega arith)
      ∙ ap (λ n. range_with_len 0 k ++ range_with_len k n) one_more in
      let in_two = λ (K : State T). fold-append (λ (N : State T) k. settle_one k N (slice_get N.tickets k)) K (range_with_len 0 k) (k ∷ rest) in
      let here : settle_one k M (slice_get M.tickets k) ≡ N =
      ap (settle_one k M) gets ∙ ap (λ b. cond b N M) room in
      let there : settle_one k N (slice_get N.tickets k) ≡ N = ap (settle_one k N) (get_changed k stand (waits emitter v) M.tickets gets) in
      let none_after : list_any does_wait (take k N.tickets) ≡ false = ap (list_any does_wait) (take_changed k (λ _. stand) M.tickets) ∙ none in
      let first = ap (λ ks. settle_over ks M) split ∙ in_two M ∙ ap (settle_over (k ∷ rest)) (before_first M k none) ∙ ap (settle_over rest) here in
      let second = ap (λ ks. settle_over ks N) split ∙ in_two N ∙ ap (settle_over (k ∷ rest)) (before_first N k none_after) ∙ ap (settle_over rest) there in
      first ∙ sym second ∙ ap (λ n. settle_over (range_with_len 0 n) N) (sym (length-change k (λ _. stand) M.tickets))

  -- ---- the entries of those that wait

  pub any_numbered : (n : ℕ) (ts : List (Standing T)) → list_any does_wait ts ≡ list_any (λ e. does_wait e.1) (out_from n ts)
  any_numbered n [] = refl
  any_numbered n (waits emitter v ∷ rest) = refl
  any_numbered n (stands i ∷ rest) = any_numbered (n + 1) rest
  any_numbered n (gone ∷ rest) = any_numbered (n + 1) rest

  pub waiting_numbered : (n : ℕ) (ts : List (Standing T)) → length (filter does_wait ts) ≡ length (filter (λ e. does_wait e.1) (out_from n ts))
  waiting_numbered n [] = refl
  waiting_numbered n (waits emitter v ∷ rest) = ap suc (waiting_numbered (n + 1) rest)
  waiting_numbered n (stands i ∷ rest) = waiting_numbered (n + 1) rest
  waiting_numbered n (gone ∷ rest) = waiting_numbered (n + 1) rest
