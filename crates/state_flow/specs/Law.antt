-- The law of a state flow: what holds of its two words and of all its seats between any two steps.
-- Word 0 is the value, and word 1 the number of collectors. The steps on a word are numbered in their one order, which no
-- seat knows whole: the making of the flow is step 1 on both, and a seat's `turn` is the number of its last step.
use Rattle.std.specs.Prelude.{◌≡◌, ◌⊎◌, ℕ, ◌+◌, ◌<◌, ◌≤◌, List, [], ◌∷◌, length, slice_index, sum_by, Some}
use mathlib.Core.Option.{some}
use lib.ListN.{get_elem?}
use Rattle.atomic_table.specs.Table.{State}
use Rattle.state_flow.specs.declared.view.View.{View}
use Rattle.flow_terms.specs.Lists.{IsPrefix}
use Rattle.state_flow.specs.History.{last_of, IsHistory, Picks}
use Rattle.state_flow.specs.Views.{spent, running}

module _ {T : Type 0} where
  -- how many collectors there are
  abbrev pub collectors_in : List (View T) → ℕ
  collectors_in views = sum_by (λ v. running v) views

  -- how many seats can be made of all seats, themselves among them
  abbrev pub shares_in : List (View T) → ℕ
  shares_in views = sum_by (λ v. v.share) views

  -- how many steps the seats made on each word
  abbrev pub steps_in : List (View T) → ℕ
  steps_in views = sum_by (λ v. v.steps) views

  abbrev pub count_steps_in : List (View T) → ℕ
  count_steps_in views = sum_by (λ v. v.count_steps) views

  -- how many values they wrote
  abbrev pub writes_in : List (View T) → ℕ
  writes_in views = sum_by (λ v. v.writes) views

  -- a seat knows each word as it was after its own last step on it, and what it collected is picked from what it has seen
  pub record Fits (seats : ℕ) (history_at : ℕ → List T) (turns : ℕ) (count_at : ℕ → ℕ) (counts : ℕ) (v : View T) : Type 0 where
    pub seen_is : v.seen ≡ history_at v.turn
    pub turn_by : v.turn ≤ turns
    pub told_is : v.told ≡ history_at v.told_turn
    pub told_by : v.told_turn ≤ turns
    pub counted_is : v.counted ≡ count_at v.count_turn
    pub counted_by : v.count_turn ≤ counts
    pub picks : Picks v.collected v.seen
    pub within : running v ≤ v.share
    -- a seat without share was given back, and can make no step; each other knows how many seats there are
    pub gone : v.share ≡ 0 → v ≡ spent
    pub seats_is : 0 < v.share → v.seats ≡ seats

  pub record StateLaw (word : T → ℕ) (fits : T → Type 0) (first : T) (seats : ℕ) (words : List ℕ) (views : List (View T)) : Type 0 where
    pub two_words : length words ≡ 2
    -- the value history after each step on the value: it begins with the first value, and never changes but by growing
    pub turns : ℕ
    pub turns_is : turns ≡ steps_in views + 1
    pub history_at : ℕ → List T
    pub before_making : history_at 0 ≡ []
    pub at_making : history_at 1 ≡ first ∷ []
    pub grows : (m n : ℕ) → m ≤ n → n ≤ turns → IsPrefix (history_at m) (history_at n)
    pub is_history : (n : ℕ) → 0 < n → n ≤ turns → IsHistory (history_at n)
    -- beside the first value it has just those that the seats wrote
    pub written : length (history_at turns) ≡ writes_in views + 1
    -- the value word is the last value of the history, and some seat has seen or was told all of it
    pub value : T
    pub last : last_of (history_at turns) ≡ Some value
    pub value_word : slice_index words 0 ≡ word value
    pub proper : (i : ℕ) (x : T) → get_elem? (history_at turns) i ≡ some x → fits x
    pub latest : (i : ℕ) × ((v : View T) × ((get_elem? views i ≡ some v) × ((v.turn ≡ turns) ⊎ (v.told_turn ≡ turns))))
    -- the other word is the number of collectors
    pub counts : ℕ
    pub counts_is : counts ≡ count_steps_in views + 1
    pub count_at : ℕ → ℕ
    pub none_before : count_at 0 ≡ 0
    pub count_word : slice_index words 1 ≡ count_at counts
    pub collecting : slice_index words 1 ≡ collectors_in views
    pub each : (i : ℕ) (v : View T) → get_elem? views i ≡ some v → Fits seats history_at turns count_at counts v
    -- a seat that is dropped keeps its share
    pub whole : shares_in views ≡ seats
    pub bounded : seats ≤ 1024

  -- the law of a flow that was made with the key (first value, number of seats)
  abbrev pub Rule : (T → ℕ) → (T → Type 0) → T × ℕ → State (Unit {0}) (View T) → Type 0
  Rule word fits key s = StateLaw word fits key.0 key.1 s.words s.views

  -- of two seats the one with the later step has seen all that the other has
  abbrev pub LaterHasSeenAll : State (Unit {0}) (View T) → Type 0
  LaterHasSeenAll s = (i j : ℕ) (v w : View T) → get_elem? s.views i ≡ some v → get_elem? s.views j ≡ some w
      → v.turn ≤ w.turn → IsPrefix v.seen w.seen

  -- the seat with this number is one of these
  abbrev pub Among : List (ℕ × View T) → ℕ → Type 0
  Among [] id = ⊥
  Among (t ∷ held) id = (t.0 ≡ id) ⊎ Among held id

  -- these are different seats, each with its view
  abbrev pub Seated : List (View T) → List (ℕ × View T) → Type 0
  Seated views [] = Unit {0}
  Seated views (t ∷ held) = (get_elem? views t.0 ≡ some t.1) × ¬ Among held t.0 × Seated views held

  -- different seats, which have all seats of the flow between them
  pub record AreAll (seats : ℕ) (views : List (View T)) (held : List (ℕ × View T)) : Type 0 where
    pub seated : Seated views held
    pub shares : sum_by (λ t. t.1.share) held ≡ seats

  -- These made all steps: so many on the value, at the last of which one of them saw the whole history, or was told it. They
  -- wrote each value of it but the first, and the second word says how many collectors are of them
  pub record MadeAll (history : List T) (turns collectors : ℕ) (held : List (ℕ × View T)) : Type 0 where
    pub steps : turns ≡ sum_by (λ t. t.1.steps) held + 1
    pub writes : length history ≡ sum_by (λ t. t.1.writes) held + 1
    pub place : ℕ
    pub latest : ℕ × View T
    pub among : get_elem? held place ≡ some latest
    pub saw_all : (latest.1.seen ≡ history) ⊎ (latest.1.told ≡ history)
    pub collecting : collectors ≡ sum_by (λ t. running t.1) held

  -- What follows for a reader. All seats have seen the one value history, each as it was after its last step on the value;
  -- what a collector received is a subsequence of that history without equal neighbours; and the second word is the number
  -- of collectors, which is at most `seats`
  pub record HasOneHistory (first : T) (seats : ℕ) (s : State (Unit {0}) (View T)) : Type 0 where
    pub history_at : ℕ → List T
    pub begins : history_at 1 ≡ first ∷ []
    pub turns : ℕ
    pub grows : (m n : ℕ) → m ≤ n → n ≤ turns → IsPrefix (history_at m) (history_at n)
    pub is_history : IsHistory (history_at turns)
    pub seen : (i : ℕ) (v : View T) → get_elem? s.views i ≡ some v → (v.turn ≤ turns) × (v.seen ≡ history_at v.turn)
    pub collected : (i : ℕ) (v : View T) → get_elem? s.views i ≡ some v → Picks v.collected (history_at turns)
    pub collectors : slice_index s.words 1 ≡ collectors_in s.views
    pub at_most : collectors_in s.views ≤ seats
    -- who has all seats between them made all steps
    pub all_steps : (held : List (ℕ × View T)) → AreAll seats s.views held → MadeAll (history_at turns) turns (slice_index s.words 1) held
