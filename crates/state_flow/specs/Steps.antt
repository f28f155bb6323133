-- What each atomic step tells the seat that makes it: the seat's view `m` before, the word that was found, and the view after.
use Rattle.std.specs.Prelude.{◌≡◌, ◌≢◌, ℕ, ◌+◌, ◌-◌, ◌<◌, ◌≤◌, List, Some}
use Rattle.atomic_table.specs.Table.{Me, Step}
use Rattle.state_flow.specs.declared.view.View.{View}
use Rattle.state_flow.specs.History.{last_of, Writes, IsHistory, Picks}
use Rattle.state_flow.specs.Views.{HasAll, running, stepped_to, writing, starting, stopping, counting, hosting}
use Rattle.state_flow.specs.Calls.{Extends, Wrote, KnewAll}

-- what a seat learns at step number `turn` on the value, which found `found`: the whole history before the step, and its last value
pub record Moment {T : Type 0} (word : T → ℕ) (fits : T → Type 0) (v : View T) (history : List T) (turn found : ℕ) : Type 0 where
  pub later : v.turn < turn
  pub later_than_told : v.told_turn < turn
  pub extends : Extends v history
  pub is_history : IsHistory history
  pub value : T
  pub last : last_of history ≡ Some value
  pub proper : fits value
  pub found_is : found ≡ word value
  pub bounded : v.share ≤ 1024
  pub knew_all : HasAll v → KnewAll v history turn

abbrev Sat : Type 0 → Type 0
Sat T = Me (Unit {0}) (View T)

abbrev At : Type 0
At = Step (Unit {0})

-- the steps on the value
module _ {T : Type 0} (word : T → ℕ) (fits : T → Type 0) where
  -- a load
  abbrev pub looked : At → Sat T → ℕ → Sat T → Type 0
  looked st m found m' = (history : List T) × ((turn : ℕ) × (Moment word fits m.0 history turn found × (m' ≡ (stepped_to history turn m.0, m.1))))

  -- a load by a collector, which collects the value where it is not the last one that it has
  abbrev pub gathered : At → Sat T → ℕ → Sat T → Type 0
  gathered st m found m' = (history : List T) × ((turn : ℕ) × ((now : Moment word fits m.0 history turn found)
      × (Writes m.0.collected now.value m'.0.collected × Picks m'.0.collected history
      × ((y : T) → last_of m.0.collected ≡ Some y → fits y)
      × (m' ≡ (record (stepped_to history turn m.0) { collected = m'.0.collected }, m.1)))))

  -- a swap
  abbrev pub put : At → Sat T → ℕ → Sat T → Type 0
  put st m found m' = (x : T) → fits x → st.first ≡ word x
      → (before : List T) × ((after : List T) × ((turn : ℕ) × (Moment word fits m.0 before turn found × Writes before x after
      × (m' ≡ (stepped_to after turn (writing m'.0.writes m.0), m.1)) × Wrote m.0 before m'.0)))

  -- a compare_exchange
  abbrev pub compared : At → Sat T → ℕ → Sat T → Type 0
  compared st m found m' = (expect update : T) → fits expect → fits update → st.first ≡ word expect → st.second ≡ word update
      → (before : List T) × ((after : List T) × ((turn : ℕ) × (Moment word fits m.0 before turn found × (m' ≡ (stepped_to after turn (writing m'.0.writes m.0), m.1))
      × (last_of before ≡ Some expect → Writes before update after) × (last_of before ≢ Some expect → after ≡ before) × Wrote m.0 before m'.0)))

-- the steps on the number of collectors: a fetch_add, a fetch_sub, a load
module _ {T : Type 0} where
  abbrev pub began : At → Sat T → ℕ → Sat T → Type 0
  began st m found m' = (turn : ℕ) × ((m.0.count_turn < turn) × (found < 1024) × (m' ≡ (starting (found + 1) turn m.0, m.1))
      × (HasAll m.0 → found ≡ running m.0))

  abbrev pub ended : At → Sat T → ℕ → Sat T → Type 0
  ended st m found m' = (turn : ℕ) × ((m.0.count_turn < turn) × (found ≤ 1024) × (0 < found) × (m' ≡ (stopping (found - 1) turn m.0, m.1))
      × (HasAll m.0 → found ≡ running m.0))

  abbrev pub tallied : At → Sat T → ℕ → Sat T → Type 0
  tallied st m found m' = (turn : ℕ) × ((m.0.count_turn < turn) × (found ≤ 1024) × (m' ≡ (counting found turn m.0, m.1))
      × (HasAll m.0 → found ≡ running m.0))

  -- the same where the seat runs one collector more, or one fewer
  abbrev pub launched : At → Sat T → ℕ → Sat T → Type 0
  launched st m found m' = (turn : ℕ) × ((m.0.count_turn < turn) × (found < 1024) × (m' ≡ (hosting (m.0.runs + 1) (found + 1) turn m.0, m.1))
      × (HasAll m.0 → found ≡ running m.0))

  abbrev pub cancelled : At → Sat T → ℕ → Sat T → Type 0
  cancelled st m found m' = (turn : ℕ) × ((m.0.count_turn < turn) × (found ≤ 1024) × (0 < found) × (m' ≡ (hosting (m.0.runs - 1) (found - 1) turn m.0, m.1))
      × (HasAll m.0 → found ≡ running m.0))
