-- Where a number stands in a list whose numbers rise.
use Rattle.std.proofs.Common.{◌≡◌, ◌≢◌, ℕ, zero, suc, ◌+◌, ◌-◌, ◌/◌, ◌<◌, ◌≤◌, min, Bool, false, ◌||◌, eqb, List, [], ◌∷◌, ◌++◌, length, length-take, map, take, Option, Some, None, IfNone, slice_get, refl, sym, ap, ◌∙◌, subst, ⊎_elim, arith, zero-add, add-zero}
use Rattle.std.proofs.lemmas.Bool.{ne_eqb, cases_lt}
use Rattle.std.proofs.lemmas.Option.{same_Some, slice_get-map, slice_get_within}
use Rattle.std.specs.Option.{option_map}
use Rattle.std.specs.List.{list_any}
use Rattle.shared_core.specs.Rising.{Rises, StandsWithin}
use Rattle.circular_buffer.proofs.Places.{slice_get-some, slice_get-take, slice_get-append_left}
use Rattle.shared_core.specs.declared.tickets.OutTicket.{OutTicket}
use Rattle.shared_core.specs.declared.tickets.Accepted.{Accepted}
use Rattle.shared_core.specs.declared.tickets.Waiting.{Waiting}
use Rattle.shared_core.specs.Kept.{shown_accepted, shown_waiting}
use Rattle.shared_core.specs.Flow.{State, Subscription, Standing, is_out, pending_values}
use Rattle.shared_core.specs.Shown.{Seen, seen_of, Shows, numbered}
use Rattle.shared_core.proofs.Numbered.{entry_of}

to_end : (k end : ℕ) → k ≤ end → k + (end - k) ≡ end
to_end k end inside = omega (arith, inside)

module _ {X : Type 0} (number : X → ℕ) (n : ℕ) where
  -- it stands nowhere before one that isn't above it
  pub from_middle : (xs : List X) (from end at : ℕ) (x : X) → Rises number xs → slice_get xs at ≡ Some x → number x ≤ n
      → StandsWithin number n xs from end → StandsWithin number n xs at end
  from_middle xs from end at x rises gets low within k y there is =
      let this = within k y there is in
      ⊎_elim
      (λ (before : k < at). let less = rises k at y x before there gets in absurd (omega (arith, less, low, is)))
      (λ (later : at ≤ k). (later, this.1))
      (cases_lt k at)

  -- nor from one on that is above it
  pub until_middle : (xs : List X) (from end at : ℕ) (x : X) → Rises number xs → slice_get xs at ≡ Some x → n < number x
      → StandsWithin number n xs from end → StandsWithin number n xs from at
  until_middle xs from end at x rises gets high within k y there is =
      let this = within k y there is in
      ⊎_elim
      (λ (before : k < at). (this.0, before))
      (λ (later : at ≤ k).
      ⊎_elim
      (λ (after : at < k). let more = rises at k x y after gets there in absurd (omega (arith, more, high, is)))
      (λ (same : k ≤ at).
      let here : k ≡ at = omega (arith, same, later) in
      let one : x ≡ y = same_Some x y (sym gets ∙ ap (slice_get xs) (sym here) ∙ there) in
      absurd (omega (arith, high, is, ap number one)))
      (cases_lt at k))
      (cases_lt k at)

  -- half of a search is left
  pub upper_half : (xs : List X) (base size next : ℕ) (x : X) → Rises number xs → slice_get xs (base + size / 2) ≡ Some x → number x ≤ n → next ≡ base + size / 2
      → StandsWithin number n xs base (base + size) → StandsWithin number n xs next (next + (size - size / 2))
  upper_half xs base size next x rises gets low is within k y there same =
      let this = from_middle xs base (base + size) (base + size / 2) x rises gets low within k y there same in
      (omega (arith, this.0, is), omega (arith, this.1, is))

  pub lower_half : (xs : List X) (base size next : ℕ) (x : X) → Rises number xs → slice_get xs (base + size / 2) ≡ Some x → n < number x → next ≡ base
      → StandsWithin number n xs base (base + size) → StandsWithin number n xs next (next + (size - size / 2))
  lower_half xs base size next x rises gets high is within k y there same =
      let this = until_middle xs base (base + size) (base + size / 2) x rises gets high within k y there same in
      (omega (arith, this.0, is), omega (arith, this.1, is))

  -- as many steps on at least as there are places between
  rises_by : (xs : List X) (i d : ℕ) (x y : X) → Rises number xs → slice_get xs i ≡ Some x → slice_get xs (i + d) ≡ Some y → number x + d ≤ number y
  rises_by xs i zero x y rises first second =
      let same : x ≡ y = same_Some x y (sym first ∙ ap (slice_get xs) (sym (add-zero i)) ∙ second) in omega (arith, ap number same)
  rises_by xs i (suc d) x y rises first second =
      let before : i + d < length xs = omega (arith, slice_get_within xs (i + suc d) y second) in
      let between = slice_get-some xs (i + d) before in
      let this = rises_by xs i d x between.0 rises first between.1 in
      let last = rises (i + d) (i + suc d) between.0 y (omega arith) between.1 second in
      omega (arith, this, last)

  -- so it stands within bounds that the first one and the last one tell
  pub within_bounds : (xs : List X) (first last : X) (end low high : ℕ) → slice_get xs 0 ≡ Some first → slice_get xs end ≡ Some last → length xs ≡ end + 1
      → low ≡ end - (number last - n) → high ≡ min end (n - number first) → Rises number xs → StandsWithin number n xs low (low + ((high + 1) - low))
  within_bounds xs first last end low high at_first at_last long is_low is_high rises k x there is =
      let inside : k < length xs = slice_get_within xs k x there in
      let after = rises_by xs 0 k first x rises at_first (ap (slice_get xs) (zero-add k) ∙ there) in
      let before = rises_by xs k (end - k) x last rises there (ap (slice_get xs) (to_end k end (omega (arith, inside, long))) ∙ at_last) in
      (omega (arith, inside, long, is_low, before, is), omega (arith, inside, long, is_low, is_high, before, after, is))

  -- where it stands nowhere, no one has it
  pub absent : (xs : List X) → ((k : ℕ) (x : X) → slice_get xs k ≡ Some x → number x ≢ n) → list_any (λ x. eqb (number x) n) xs ≡ false
  absent [] nowhere = refl
  absent (x ∷ xs) nowhere =
      ap (λ b. b || list_any (λ x. eqb (number x) n) xs) (ne_eqb (number x) n (nowhere 0 x refl))
      ∙ absent xs (λ k y gets. nowhere (suc k) y gets)

  pub within_all : (xs : List X) → StandsWithin number n xs 0 (length xs)
  within_all xs k x gets is = (omega arith, slice_get_within xs k x gets)

  -- where it stands at one index at most, and not there, no one has it
  pub absent_but_one : (xs : List X) (at size : ℕ) → size ≤ 1 → StandsWithin number n xs at (at + size) → ((x : X) → slice_get xs at ≡ Some x → number x ≢ n)
      → list_any (λ x. eqb (number x) n) xs ≡ false
  absent_but_one xs at size one within not_there =
      absent xs (λ k x gets is.
      let this = within k x gets is in
      let here : k ≡ at = omega (arith, this.0, this.1, one) in
      not_there x (ap (slice_get xs) (sym here) ∙ gets) is)

  pub absent_from_none : (xs : List X) (at size : ℕ) → size ≤ 0 → StandsWithin number n xs at (at + size) → list_any (λ x. eqb (number x) n) xs ≡ false
  absent_from_none xs at size none within = absent xs (λ k x gets is. let this = within k x gets is in absurd (omega (arith, this.0, this.1, none)))

  -- what is read at an index is what stands there
  pub not_read : (xs : List X) (at : ℕ) (read : X) → slice_get xs at ≡ Some read → number read ≢ n → (x : X) → slice_get xs at ≡ Some x → number x ≢ n
  not_read xs at read gets apart x there is = apart (ap number (same_Some read x (sym gets ∙ there)) ∙ is)

-- a search that wants to know within which bounds, where these are known
pub searched : {A B : Type 0} (C : Type 0) (r : Option ℕ) → (A → B) → IfNone r (A → B → C) → IfNone r (A → C)
searched C None within none = λ rises. none rises (within rises)
searched C (Some i) within none = none

-- ---- lists that rise

get_right : {X : Type 0} (xs ys : List X) (k : ℕ) → slice_get (xs ++ ys) (length xs + k) ≡ slice_get ys k
get_right [] ys k = ap (slice_get ys) (omega arith)
get_right (x ∷ xs) ys k = let more : suc (length xs) + k ≡ suc (length xs + k) = omega arith in ap (slice_get (x ∷ xs ++ ys)) more ∙ get_right xs ys k

pub rises-map : {X Y : Type 0} (f : X → Y) (number : Y → ℕ) (xs : List X) → Rises number (map f xs) → Rises (λ x. number (f x)) xs
rises-map f number xs rises i j x y before first second =
    rises i j (f x) (f y) before
    (slice_get-map f xs i ∙ ap (option_map f) first)
    (slice_get-map f xs j ∙ ap (option_map f) second)

-- each part of a list that rises
module _ {X : Type 0} (number : X → ℕ) (xs ys : List X) (rises : Rises number (xs ++ ys)) where
  pub rises-left : Rises number xs
  rises-left i j x y before first second =
      rises i j x y before (slice_get-append_left xs ys i (slice_get_within xs i x first) ∙ first) (slice_get-append_left xs ys j (slice_get_within xs j y second) ∙ second)

  pub rises-right : Rises number ys
  rises-right i j x y before first second =
      rises (length xs + i) (length xs + j) x y (omega (arith, before)) (get_right xs ys i ∙ first) (get_right xs ys j ∙ second)

-- entries are numbered in order
pub rises-numbered : {X Y : Type 0} (test : X → Bool) (shape : X → Y) (n : ℕ) (xs : List X) → Rises (λ (e : ℕ × Y). e.0) (numbered test shape n xs)
rises-numbered test shape n xs i j x y before first second =
    let later = entry_of test shape n xs j y.0 y.1 second in
    let earlier =
    entry_of test shape n (take later.k xs) i x.0 x.1 (ap (λ es. slice_get es i) later.before ∙ slice_get-take j (numbered test shape n xs) i before ∙ first) in
    omega (
      arith,
      earlier.is_number,
      later.is_number,
      slice_get_within (take later.k xs) earlier.k earlier.x earlier.gets,
      length-take later.k xs,
    )

-- each list of entries that contracts see rises
module _ {T : Type 0} (old : Seen T) (M : State T) (shows : Shows old M) where
  pub rises-live : Rises (λ (e : ℕ × List T). e.0) old.live
  unfolding seen_of
  rises-live =
      subst (λ (seen : Seen T). Rises (λ (e : ℕ × List T). e.0) seen.live) (sym shows.same)
      (rises-numbered (λ (s : Subscription T). s.live) (pending_values M.accepted) M.parameters.first M.subscriptions)

  pub rises-out : Rises (λ (e : ℕ × Standing T). e.0) old.out
  unfolding seen_of
  rises-out =
      subst (λ (seen : Seen T). Rises (λ (e : ℕ × Standing T). e.0) seen.out) (sym shows.same)
      (rises-numbered is_out (λ standing. standing) M.parameters.first M.tickets)

  -- where a search by their order finds no live subscription with this number, there is none
  pub missing_live : (n : ℕ) (live : List (ℕ × List T)) → old.live ≡ live
      → (Rises (λ (e : ℕ × List T). e.0) live → list_any (λ e. eqb e.0 n) live ≡ false) → list_any (λ e. eqb e.0 n) old.live ≡ false
  missing_live n live is none = ap (list_any (λ e. eqb e.0 n)) is ∙ none (subst (Rises (λ (e : ℕ × List T). e.0)) is rises-live)

  -- the same of the tickets that are out, in two lists
  module _ (n : ℕ) (us : List (OutTicket Accepted)) (ws : List (OutTicket (Waiting T))) (is : old.out ≡ map shown_accepted us ++ map shown_waiting ws) where
    out_rises : Rises (λ (e : ℕ × Standing T). e.0) (map shown_accepted us ++ map shown_waiting ws)
    out_rises = subst (Rises (λ (e : ℕ × Standing T). e.0)) is rises-out

    pub missing_accepted : (Rises (λ (h : OutTicket Accepted). h.ticket) us → list_any (λ h. eqb h.ticket n) us ≡ false) → list_any (λ h. eqb h.ticket n) us ≡ false
    missing_accepted none = none (rises-map shown_accepted (λ (e : ℕ × Standing T). e.0) us (rises-left _ (map shown_accepted us) (map shown_waiting ws) out_rises))

    pub missing_waiting : (Rises (λ (h : OutTicket (Waiting T)). h.ticket) ws → list_any (λ h. eqb h.ticket n) ws ≡ false) → list_any (λ h. eqb h.ticket n) ws ≡ false
    missing_waiting none = none (rises-map shown_waiting (λ (e : ℕ × Standing T). e.0) ws (rises-right _ (map shown_accepted us) (map shown_waiting ws) out_rises))
