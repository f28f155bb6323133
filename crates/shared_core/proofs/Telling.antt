-- Each subscription's story, over any list of calls.
use Rattle.std.proofs.Common.{◌≡◌, ℕ, zero, suc, ◌+◌, ◌-◌, ◌<◌, inl, inr, ⊎_elim, ◌⊎◌, Bool, true, false, not, ◌||◌, cond, eqb, List, [], ◌∷◌, ◌++◌, length, take, drop, slice_get, refl, sym, ap, ◌∙◌, arith, append_assoc}
use Rattle.std.proofs.Math.Bool.{or-true}
use Rattle.std.proofs.lemmas.Bool.{eq-eqb, ne_eqb}
use Rattle.std.proofs.lemmas.List.{append-nil, take-append-drop}
use Rattle.std.proofs.lemmas.List.Elements.{filter-append, filter_map-append}
use Rattle.std.specs.List.{AllByRecursion, filter, range_with_len}
use Rattle.shared_core.specs.Flow.{State, Subscription, contains, empty, rest, pending, pending_values, values, values_at}
use Rattle.shared_core.specs.Calls.{after}
use Rattle.shared_core.specs.Story.{Interleaves, none, left, right, told_count, IsTold, story, without, received_values, HasStory, StoryLaw}
use Rattle.shared_core.proofs.Lists.{range-append, range_bounds, range_below, contains-Interleaves, filter_all}
use Rattle.shared_core.proofs.Greeting.{rest-live}
use Rattle.shared_core.proofs.Pending.{position, pending-live}
use Rattle.shared_core.specs.Accepting.{IsSound}
use Rattle.shared_core.proofs.Sound.{sound-empty, sound-after, all_weaker}

-- the list rises
abbrev IsRising : List ℕ → Type 0
IsRising [] = Unit {0}
IsRising (z ∷ zs) = ((i : ℕ) → contains zs i ≡ true → z < i) × IsRising zs

rising-range : (a n : ℕ) → IsRising (range_with_len a n)
rising-range a zero = tt
rising-range a (suc n) = ((λ i within. let bounds = range_bounds (a + 1) n i within in omega arith), rising-range (a + 1) n)

-- a filter goes by what its test says of the elements
filter_same : (p q : ℕ → Bool) (xs : List ℕ) → ((i : ℕ) → contains xs i ≡ true → p i ≡ q i) → filter p xs ≡ filter q xs
filter_same p q [] h = refl
filter_same p q (x ∷ xs) h =
    let rest = filter_same p q xs (λ i k. h i (ap (λ b. eqb i x || b) k ∙ or-true (eqb i x))) in
    let here = h x (ap (λ b. b || contains xs x) (eq-eqb x x refl)) in
    ap (λ b. cond b (x ∷ filter p xs) (filter p xs)) here ∙ ap (λ ys. cond (q x) (x ∷ ys) ys) rest

-- what isn't contained in a list all of whose elements are above it
not_below : (z : ℕ) (zs : List ℕ) → ((i : ℕ) → contains zs i ≡ true → z < i) → contains zs z ≡ false
not_below z zs above =
    elim (contains zs z) as (λ b. contains zs z ≡ b → b ≡ false) [
      | true ↦ λ within. absurd (let more = above z within in omega arith)
      | false ↦ λ _. refl
    ] refl

or_parts : (a b : Bool) → (a || b) ≡ false → (a ≡ false) × (b ≡ false)
or_parts true b h = absurd (cc)
or_parts false b h = (refl, h)

-- of a rising whole, what isn't in one part is the other
without-Interleaves : {xs ys zs : List ℕ} → Interleaves xs ys zs → IsRising zs → without ys zs ≡ xs
without-Interleaves none rising = refl
without-Interleaves (left x {xs = xs} {ys = ys} {zs = zs} r) rising =
    let apart : contains ys x ≡ false = (or_parts (contains xs x) (contains ys x) (contains-Interleaves x r ∙ not_below x zs rising.0)).1 in
    ap (λ b. cond (not b) (x ∷ without ys zs) (without ys zs)) apart ∙ ap (λ rest. x ∷ rest) (without-Interleaves r rising.1)
without-Interleaves (right y {xs = xs} {ys = ys} {zs = zs} r) rising =
    let itself : contains (y ∷ ys) y ≡ true = ap (λ b. b || contains ys y) (eq-eqb y y refl) in
    let later = filter_same (λ i. not (contains (y ∷ ys) i)) (λ i. not (contains ys i)) zs (λ i within.
    let above = rising.0 i within in ap (λ b. not (b || contains ys i)) (ne_eqb i y (λ same. omega arith))) in
    ap (λ b. cond (not b) (y ∷ without (y ∷ ys) zs) (without (y ∷ ys) zs)) itself ∙ later ∙ without-Interleaves r rising.1

pub in_order : {T : Type 0} (total : ℕ) (s : Subscription T) → IsTold total s → s.live ≡ true → s.received ++ pending total s ≡ without s.lost (story total s)
in_order total s told live =
    let k = told_count s in
    let p = position s in
    let split : total - s.start ≡ k + (total - p) = omega (arith, told.within) in
    let first = without-Interleaves told.together (rising-range s.start k) in
    let second = filter_all (λ i. not (contains s.lost i)) (range_with_len p (total - p)) (λ i within.
    let bounds = range_bounds p (total - p) i within in
    ap not (or_parts (contains s.received i) (contains s.lost i) (contains-Interleaves i told.together ∙ range_below s.start k i bounds.0)).1) in
    ap (λ ps. s.received ++ ps) (pending-live total s told live)
    ∙ sym (ap (λ n. without s.lost (range_with_len s.start n)) split
    ∙ ap (without s.lost) (range-append s.start k (total - p))
    ∙ filter-append (λ i. not (contains s.lost i)) (range_with_len s.start k) (range_with_len p (total - p))
    ∙ ap (λ xs. xs ++ without s.lost (range_with_len p (total - p))) first
    ∙ ap (λ xs. s.received ++ xs) second)

-- what was given of a prelude, what was received later and what is left of the prelude, which is nothing or comes first
prelude_whole : {X : Type 0} (given : ℕ) (prelude received more : List X) → (drop given prelude ≡ []) ⊎ (received ≡ []) → (take given prelude ++ received) ++ (drop given prelude ++ more) ≡ prelude ++ (received ++ more)
prelude_whole given prelude received more first =
    ⊎_elim
    (λ (wholly : drop given prelude ≡ []).
    let all : take given prelude ≡ prelude = sym (append-nil (take given prelude)) ∙ ap (λ xs. take given prelude ++ xs) (sym wholly) ∙ take-append-drop given prelude in
    ap (λ xs. (take given prelude ++ received) ++ (xs ++ more)) wholly ∙ ap (λ xs. (xs ++ received) ++ more) all ∙ append_assoc prelude received more)
    (λ (fresh : received ≡ []).
    ap (λ xs. (take given prelude ++ xs) ++ (drop given prelude ++ more)) fresh
    ∙ ap (λ xs. xs ++ (drop given prelude ++ more)) (append-nil (take given prelude))
    ∙ sym (append_assoc (take given prelude) (drop given prelude) more)
    ∙ ap (λ xs. xs ++ more) (take-append-drop given prelude)
    ∙ ap (λ xs. prelude ++ (xs ++ more)) (sym fresh))
    first

module _ {T : Type 0} where
  -- what a live subscription received, then what is left of its prelude and what is pending
  pub received_whole : (accepted : List (ℕ × T)) (s : Subscription T) → IsTold (length accepted) s → s.live ≡ true
      → received_values accepted s ++ (rest s ++ pending_values accepted s) ≡ s.prelude ++ values_at (values accepted) (s.received ++ pending (length accepted) s)
  received_whole accepted s told live =
      let all = values accepted in
      ap (λ vs. received_values accepted s ++ (vs ++ pending_values accepted s)) (rest-live s live)
      ∙ prelude_whole s.given s.prelude (values_at all s.received) (pending_values accepted s) (⊎_elim (λ wholly. inl wholly) (λ fresh. inr (ap (values_at all) fresh)) told.prelude_first)
      ∙ ap (λ xs. s.prelude ++ xs) (sym (filter_map-append (slice_get all) s.received (pending (length accepted) s)))

  has_story : (M : State T) (s : Subscription T) → IsTold (length M.accepted) s → HasStory M s
  has_story M s told = record {
    told = told;
    in_order = λ live. in_order (length M.accepted) s told live;
    as_values = λ live.
        received_whole M.accepted s told live ∙ ap (λ is. s.prelude ++ values_at (values M.accepted) is) (in_order (length M.accepted) s told live);
  }

  pub stories : (M : State T) → IsSound M → AllByRecursion (HasStory M) M.subscriptions
  stories M sound = all_weaker (IsTold (length M.accepted)) (HasStory M) (has_story M) M.subscriptions sound.told

pub story_law : (T : Type 0) → StoryLaw T
story_law T p calls = stories (after calls (empty p)) (sound-after calls (empty p) (sound-empty p))
