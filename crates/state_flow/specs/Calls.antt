-- What the calls say of a seat or a collector, as it was before the call and as it is after it.
-- `after.seen` is the whole history at the one step that the call made on the value.
use Rattle.std.specs.Prelude.{◌≡◌, ◌≢◌, ◌⊎◌, ℕ, ◌+◌, ◌-◌, ◌<◌, ◌≤◌, Bool, List, [], ◌∷◌, ◌++◌, length, Option, Some, None, MatchOption, MatchBool}
use Rattle.std.specs.Option.{option_map}
use Rattle.futures.specs.declared.task.Poll.{Poll}
use Rattle.futures.specs.declared.task.Poll.TheVariants.{Ready, Pending}
use Rattle.state_flow.specs.declared.view.View.{View}
use Rattle.flow_terms.specs.Lists.{IsPrefix}
use Rattle.state_flow.specs.History.{last_of, Writes, IsHistory, Picks}
use Rattle.state_flow.specs.Views.{HasAll, stepped_to, writing, keeper, counting, starting, stopping, hosting}

-- what a poll gave
abbrev pub taken : {T : Type 0} → Poll T → Option T
taken (Ready x) = Some x
taken Pending = None

module _ {T : Type 0} where
  -- the history begins with all that the seat had seen and was told
  pub record Extends (before : View T) (history : List T) : Type 0 where
    pub seen : IsPrefix before.seen history
    pub told : IsPrefix before.told history

  -- one step on the value, later in the order of all steps on it than those that the seat knew of
  pub record StepsOnce (before after : View T) : Type 0 where
    pub later : before.turn < after.turn
    pub later_than_told : before.told_turn < after.turn
    pub only : after ≡ stepped_to after.seen after.turn before

  -- one load, at which the history's last value was x
  pub record Reads (before : View T) (x : T) (after : View T) : Type 0 where
    pub one_step : StepsOnce before after
    pub extends : Extends before after.seen
    pub is_history : IsHistory after.seen
    pub current : last_of after.seen ≡ Some x

  -- it wrote as many values as the history grew by
  abbrev pub Wrote : View T → List T → View T → Type 0
  Wrote before found after = after.writes + length found ≡ before.writes + length after.seen

  -- one swap, which wrote x at one point of the history
  pub record Sets (before : View T) (x : T) (after : View T) : Type 0 where
    pub one_step : StepsOnce (writing after.writes before) after
    pub found : List T
    pub extends : Extends before found
    pub is_history : IsHistory found
    pub writes : Writes found x after.seen
    pub wrote : Wrote before found after

  -- one compare_exchange, which answers true exactly where the value was `expect`, and then writes `update`
  pub record Compares (before : View T) (expect update : T) (answer : Bool) (after : View T) : Type 0 where
    pub one_step : StepsOnce (writing after.writes before) after
    pub found : List T
    pub extends : Extends before found
    pub is_history : IsHistory found
    pub answers : MatchBool answer ((last_of found ≡ Some expect) × Writes found update after.seen) ((last_of found ≢ Some expect) × (after.seen ≡ found))
    pub wrote : Wrote before found after

  -- what a collector has collected after it was given a value, or nothing
  abbrev pub with_given : List T → Option T → List T
  with_given collected None = collected
  with_given collected (Some x) = collected ++ x ∷ []

  -- One load by a collector: it gives the history's last value, or nothing where that is the last one that it gave.
  -- What it gave since it began is a subsequence of the value history without equal neighbours
  pub record Collects (before : View T) (given : Option T) (after : View T) : Type 0 where
    pub later : before.turn < after.turn
    pub only : after ≡ record (stepped_to after.seen after.turn before) { collected = after.collected }
    pub extends : Extends before after.seen
    pub is_history : IsHistory after.seen
    pub value : T
    pub current : last_of after.seen ≡ Some value
    pub answers : MatchOption given (last_of before.collected ≡ Some value) (λ x. (x ≡ value) × (last_of before.collected ≢ Some value))
    pub received : after.collected ≡ with_given before.collected given
    pub subsequence : Picks after.collected after.seen

  -- a seat took another back, and made one load
  pub record TakesBack (before other after : View T) : Type 0 where
    pub one_step : StepsOnce (keeper before other) after
    pub extends : IsPrefix before.seen after.seen
    pub extends_other : IsPrefix other.seen after.seen
    pub is_history : IsHistory after.seen

  -- one load of the number of collectors
  pub record Counts (before : View T) (answer : ℕ) (after : View T) : Type 0 where
    pub later : before.count_turn < after.count_turn
    pub only : after ≡ counting answer after.count_turn before
    pub at_most : answer ≤ 1024

  -- one step that adds one to the number of collectors: the seat is among them, and has collected nothing
  pub record Begins (before after : View T) : Type 0 where
    pub later : before.count_turn < after.count_turn
    pub only : after ≡ starting after.counted after.count_turn before
    pub counts_it : 0 < after.counted
    pub at_most : after.counted ≤ 1024

  -- one step that takes one from the number of collectors
  pub record Ends (before after : View T) : Type 0 where
    pub later : before.count_turn < after.count_turn
    pub only : after ≡ stopping after.counted after.count_turn before
    pub below : after.counted < 1024

  -- one step that adds one to the number of collectors: the seat runs one more
  pub record Launches (before after : View T) : Type 0 where
    pub later : before.count_turn < after.count_turn
    pub only : after ≡ hosting (before.runs + 1) after.counted after.count_turn before
    pub at_most : after.counted ≤ 1024

  -- one step that takes one from the number of collectors: the seat runs one fewer
  pub record Cancels (before after : View T) : Type 0 where
    pub later : before.count_turn < after.count_turn
    pub only : after ≡ hosting (before.runs - 1) after.counted after.count_turn before
    pub below : after.counted < 1024

-- WHO HAS ALL SEATS KNOWS ALL: where all seats of the flow are of the one that makes the call, what the call finds is what that
-- one had seen.
module _ {T : Type 0} where
  -- All steps on the value were its own, and it wrote each value but the first. This step is the next, and the history before it
  -- is what the seat had seen, or was told
  pub record KnewAll (before : View T) (history : List T) (turn : ℕ) : Type 0 where
    pub all_its_own : turn ≡ before.steps + 2
    pub all_written : length history ≡ before.writes + 1
    pub latest : ((before.turn + 1 ≡ turn) × (history ≡ before.seen)) ⊎ ((before.told_turn + 1 ≡ turn) × (history ≡ before.told))

  -- All steps on the value were its own, with those of seats that were given back to it, and it wrote each value but the first
  pub record MadeThemAll (v : View T) : Type 0 where
    pub steps : v.turn ≡ v.steps + 1
    pub writes : length v.seen ≡ v.writes + 1

  -- the same after one more step, the next of all
  pub record StepsNext (before after : View T) : Type 0 where
    pub next : after.turn ≡ before.turn + 1
    pub all_its_own : MadeThemAll after

  -- it gives the last value that it had seen
  abbrev pub ReadsAlone : View T → T → View T → Type 0
  ReadsAlone before x after = HasAll before → StepsNext before after × (last_of before.seen ≡ Some x) × (after.seen ≡ before.seen)

  -- it writes on what it had seen
  abbrev pub SetsAlone : View T → T → View T → Type 0
  SetsAlone before x after = HasAll before → StepsNext before after × Writes before.seen x after.seen

  -- it compares with the last value that it had seen
  abbrev pub ComparesAlone : View T → T → T → Bool → View T → Type 0
  ComparesAlone before expect update answer after = HasAll before → StepsNext before after
      × MatchBool answer ((last_of before.seen ≡ Some expect) × Writes before.seen update after.seen) ((last_of before.seen ≢ Some expect) × (after.seen ≡ before.seen))

  -- it gives the last value that it had seen, or nothing where that is the last one that it gave
  abbrev pub CollectsAlone : View T → Option T → View T → Type 0
  CollectsAlone before given after = HasAll before → StepsNext before after × (after.seen ≡ before.seen)
      × MatchOption given (last_of before.collected ≡ last_of before.seen) (λ x. (last_of before.seen ≡ Some x) × (last_of before.collected ≢ Some x))

  -- with the other's seats it has all: it has seen what the one of the two had seen that made the last step
  abbrev pub TakesBackLast : View T → View T → View T → Type 0
  TakesBackLast before other after = HasAll after → MadeThemAll after × ((after.seen ≡ before.seen) ⊎ (after.seen ≡ other.seen))

  -- One load for a collector that the seat runs, which was given the value with this word last. It gives the history's last value,
  -- or nothing where that is the last one that it gave
  pub record Asks (word : T → ℕ) (before : View T) (last : Option ℕ) (given : Option T) (now : Option ℕ) (after : View T) : Type 0 where
    pub value : T
    pub reads : Reads before value after
    pub alone : ReadsAlone before value after
    pub answers : MatchOption given (last ≡ Some (word value)) (λ x. (x ≡ value) × (last ≢ Some (word value)))
    pub now_is : now ≡ Some (word value)

  -- what a collector that the seat runs was given so far, which was given the value with this word last: a subsequence of the history
  -- without equal neighbours
  pub record IsGiven (word : T → ℕ) (given : List T) (last : Option ℕ) (v : View T) : Type 0 where
    pub picks : Picks given v.seen
    pub last_is : last ≡ option_map word (last_of given)
