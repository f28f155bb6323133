-- What contracts see of a seat and of a collector, and what a call changes of it.
use Rattle.std.specs.Prelude.{◌≡◌, ℕ, ◌+◌, ◌-◌, ◌<◌, ◌≤◌, Bool, true, false, cond, List, [], ◌∷◌}
use Rattle.atomic_table.specs.Seated.{TableId}
use Rattle.atomic_table.specs.declared.shared.Seat.{Seat}
use Rattle.state_flow.specs.declared.view.View.{View}
use Rattle.state_flow.specs.History.{IsHistory}

-- a seat or a collector: which flow it is at, and what it has seen
pub record SeatSeen (T : Type 0) : Type 0 where
  pub flow : TableId
  pub view : View T

module _ {T : Type 0} where
  abbrev pub seen_by : Seat (Unit {0}) (View T) → SeatSeen T
  seen_by seat = record { flow = seat.table_id; view = seat.me.0 }

  -- What the code keeps beside an atomic seat: the flow's words, the share, how many collectors it runs, fewer than the share, and whether it
  -- is a collector's. What it has seen is a history, and there is nothing left to be told
  pub record IsSeated (seat : Seat (Unit {0}) (View T)) (flow : TableId) (share runs : ℕ) (collects : Bool) : Type 0 where
    pub same_flow : seat.table_id ≡ flow
    pub share_is : seat.me.0.share ≡ share
    pub runs_is : seat.me.0.runs ≡ runs
    pub few_run : runs < share
    pub few : share ≤ 1024
    pub collects_is : seat.me.0.collects ≡ collects
    pub is_history : IsHistory seat.me.0.seen
    pub untold : seat.me.0.told ≡ []
    pub untold_turn : seat.me.0.told_turn ≡ 0
    pub holds_no_slot : seat.me.1 ≡ []

  -- how many collectors are of this seat: itself, where it collects, and those that it runs
  abbrev pub running : View T → ℕ
  running v = cond v.collects 1 0 + v.runs

  -- the first seat made the flow: that is the first step on either word. It has seen the one value, and has all seats as its share
  abbrev pub opening : T → ℕ → View T
  opening value seats = record {
    seen = value ∷ [];
    turn = 1;
    told = [];
    told_turn = 0;
    steps = 0;
    writes = 0;
    counted = 0;
    count_turn = 1;
    count_steps = 0;
    collects = false;
    runs = 0;
    collected = [];
    share = seats;
    seats = seats;
  }

  -- all seats of its flow are of this one: nobody else can make a step
  abbrev pub HasAll : View T → Type 0
  HasAll v = v.share ≡ v.seats

  -- after a step on the value, which left this history and was number `turn` of all steps on the value
  abbrev pub stepped_to : List T → ℕ → View T → View T
  stepped_to history turn v = record v { seen = history; turn = turn; told = []; told_turn = 0; steps = v.steps + 1 }

  -- a seat that wrote so many values
  abbrev pub writing : ℕ → View T → View T
  writing n v = record v { writes = n }

  -- after a step on the number of collectors, which left this count and was number `turn` of all steps on that number
  abbrev pub counting : ℕ → ℕ → View T → View T
  counting count turn v = record v { counted = count; count_turn = turn; count_steps = v.count_steps + 1 }

  -- the same, by which the seat began to collect, or ended it
  abbrev pub starting : ℕ → ℕ → View T → View T
  starting count turn v = record v { counted = count; count_turn = turn; count_steps = v.count_steps + 1; collects = true; collected = [] }

  abbrev pub stopping : ℕ → ℕ → View T → View T
  stopping count turn v = record v { counted = count; count_turn = turn; count_steps = v.count_steps + 1; collects = false }

  -- the same, by which the seat came to run so many collectors
  abbrev pub hosting : ℕ → ℕ → ℕ → View T → View T
  hosting runs count turn v = record v { counted = count; count_turn = turn; count_steps = v.count_steps + 1; runs = runs }

  -- a seat that gives `part` of its share away, and the new seat, which knows as much and has made no step
  abbrev pub giver : ℕ → View T → View T
  giver part v = record v { share = v.share - part }

  abbrev pub taker : ℕ → View T → View T
  taker part v = record v { told = []; told_turn = 0; steps = 0; writes = 0; count_steps = 0; collects = false; runs = 0; collected = []; share = part }

  -- A seat that took back another, with its share. It is told what that one had seen, and that one's steps count as its own
  abbrev pub keeper : View T → View T → View T
  keeper v other = record v {
    told = other.seen;
    told_turn = other.turn;
    steps = v.steps + other.steps;
    writes = v.writes + other.writes;
    count_steps = v.count_steps + other.count_steps;
    share = v.share + other.share;
  }

  -- what is left of a seat that was given back
  abbrev pub spent : View T
  spent = record {
    seen = [];
    turn = 0;
    told = [];
    told_turn = 0;
    steps = 0;
    writes = 0;
    counted = 0;
    count_turn = 0;
    count_steps = 0;
    collects = false;
    runs = 0;
    collected = [];
    share = 0;
    seats = 0;
  }
