-- What an update did, of the view of the seat that made it, as it was before the call and as it is after it.
use Rattle.std.specs.Prelude.{◌≡◌, ℕ, ◌+◌, ◌*◌, ◌<◌, ◌≤◌, List, [], Some}
use Rattle.state_flow.specs.declared.view.View.{View}
use Rattle.state_flow.specs.History.{last_of, Writes, IsHistory}
use Rattle.state_flow.specs.Calls.{Extends, Wrote}

module _ {T : Type 0} where
  -- after steps on the value, the last of which left this history and was number `turn` of all of them
  abbrev pub stepped_by : ℕ → List T → ℕ → View T → View T
  stepped_by n history turn v = record v { seen = history; turn = turn; told = []; told_turn = 0; steps = v.steps + n }

  -- One step found the value at `expect` and set it to `update`, which is an answer at `expect`. Before it came failed tries, of two steps
  -- each, and its own load; none of these wrote anything.
  pub record Updates (answers : T → T → Type 0) (before : View T) (expect update : T) (after : View T) : Type 0 where
    pub answered : answers expect update
    pub failed : ℕ
    pub only : after ≡ record (stepped_by (2 * failed + 2) after.seen after.turn before) { writes = after.writes }
    pub later : before.turn < after.turn
    -- the history that the step found
    pub found : List T
    pub extends : Extends before found
    pub is_history : IsHistory found
    pub was : last_of found ≡ Some expect
    pub writes : Writes found update after.seen
    pub wrote : Wrote before found after

  -- so many tries, of two steps each, found that another came between: they wrote nothing
  pub record Missed (tries : ℕ) (before after : View T) : Type 0 where
    pub only : after ≡ record before { seen = after.seen; turn = after.turn; told = after.told; told_turn = after.told_turn; steps = before.steps + 2 * tries }
    pub later : before.turn ≤ after.turn
    pub extends : (history : List T) → Extends after history → Extends before history
