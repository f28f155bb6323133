-- What the channel holds, and what its two sides know.
use Rattle.std.specs.Prelude.{◌≡◌, ◌≢◌, ℕ, ◌+◌, ◌-◌, ◌<◌, ◌≤◌, Bool, true, false, MatchBool, Option, Some, None, List, [], ◌∷◌, ◌++◌, ◌⊎◌, map, length}
use mathlib.Core.Option.{some}
use lib.ListN.{get_elem?}
use Rattle.flow_buffer.specs.declared.side.Fate.{Fate}
use Rattle.cold_flow.specs.declared.cause.Cause.{Cause}
use Rattle.cold_flow.specs.declared.event.Event.{Event}
use Rattle.cold_flow.specs.declared.event.Event.TheVariants.{Value, End}
use Rattle.flow_buffer.specs.declared.side.Level.{Level}
use Rattle.flow_buffer.specs.declared.side.Side.{Side}
use Rattle.flow_buffer.specs.Sides.{WasFull}
use Rattle.flow_buffer.specs.History.{is_taken, is_stored, is_dropped, picked, marked, Rises, IsDecided, DropsOne}

-- nothing was put in yet
abbrev pub at_first : Level
at_first = record { puts = 0; held = 0 }

-- the feed took one out itself
abbrev pub less_one : Level → Level
less_one level = record { puts = level.puts; held = level.held - 1 }

-- the channel holds n messages, and the drain took the last one after so many puts: unless it took one since the last put, the channel
-- holds just as many as the level says, and else no more
abbrev pub IsLevel : ℕ → ℕ → Level → Type 0
IsLevel n seen level = (seen ≤ level.puts) × (n ≤ level.held) × (seen < level.puts → n ≡ level.held)

module _ {T E : Type 0} where
  -- what the feed knows, and what the drain knows
  abbrev pub feed_side : Bool → Option (Cause E) → List (Bool × T) → Level → Side T E
  feed_side lossy sent produced level =
      record { feeds = true; drains = false; lossy = lossy; sent = sent; produced = produced; level = level; got = None; taken = []; history = []; seen = 0 }

  abbrev pub drain_side : Bool → Option (Cause E) → List (ℕ × T) → List (Fate × T) → ℕ → Side T E
  drain_side lossy got taken history seen =
      record { feeds = false; drains = true; lossy = lossy; sent = None; produced = []; level = at_first; got = got; taken = taken; history = history; seen = seen }

  -- one pass of both sides, before the channel is used
  abbrev pub fresh_side : Side T E
  fresh_side = record { feeds = true; drains = true; lossy = false; sent = None; produced = []; level = at_first; got = None; taken = []; history = []; seen = 0 }

  -- a pass of no side
  abbrev pub spare_side : Side T E
  spare_side = record { feeds = false; drains = false; lossy = false; sent = None; produced = []; level = at_first; got = None; taken = []; history = []; seen = 0 }

  -- both sides in one pass again
  abbrev pub joined_side : Side T E → Side T E → Side T E
  joined_side v w =
      record { feeds = true; drains = true; lossy = v.lossy; sent = v.sent; produced = v.produced; level = v.level; got = w.got; taken = w.taken; history = w.history; seen = w.seen }

  -- the feed after a new value was dropped, which the proof of the call names
  abbrev pub missed_side : Option T → Side T E → Side T E
  missed_side None v = v
  missed_side (Some x) v = feed_side v.lossy None (v.produced ++ (true, x) ∷ []) v.level

  -- there is one feed, which knows what was produced and dropped, and which end was sent
  abbrev pub FitsFeed : ℕ → Bool → Option (Cause E) → List (Bool × T) → ℕ → Side T E → Type 0
  FitsFeed feed lossy sent produced pass v = v.feeds ≡ true → (pass ≡ feed) × (v.lossy ≡ lossy) × (v.sent ≡ sent) × (v.produced ≡ produced)

  -- the feed knows the level, and the drain after how many puts it took the last value
  abbrev pub FitsLevel : Level → ℕ → Side T E → Type 0
  FitsLevel level pass v = v.feeds ≡ true → v.level ≡ level

  abbrev pub FitsSeen : ℕ → ℕ → Side T E → Type 0
  FitsSeen seen pass v = v.drains ≡ true → v.seen ≡ seen

  -- an end that came is the one that was sent, and then it is known what became of every value
  abbrev pub EndIsSent : Option (Cause E) → Option (Cause E) → List (Fate × T) → List (Fate × T) → Type 0
  EndIsSent got sent known history = got ≢ None → (got ≡ sent) × (known ≡ history)

  -- there is one drain, which knows what was taken, and with an end what became of every value
  abbrev pub FitsDrain : ℕ → Bool → Option (Cause E) → List (ℕ × T) → List (Fate × T) → ℕ → Side T E → Type 0
  FitsDrain drain lossy sent taken history pass v =
      v.drains ≡ true → (pass ≡ drain) × (v.lossy ≡ lossy) × (v.taken ≡ taken) × EndIsSent v.got sent v.history history

  -- the end is the last message, and comes once it is sent
  abbrev pub IsLast : Option (Cause E) → List (Event T E) → Type 0
  IsLast sent last = (last ≡ []) ⊎ ((cause : Cause E) × (sent ≡ Some cause) × (last ≡ End cause ∷ []))

  -- The values that the channel holds are the stored ones of the history, in order. Those that were taken lie below them: the
  -- fate of each in the first part is decided, and none of the pending ones was taken.
  pub record Buffers (items : List (Event T E)) (views : List (Side T E)) : Type 0 where
    pub feed : ℕ
    pub drain : ℕ
    pub lossy : Bool
    pub sent : Option (Cause E)
    pub decided : List (Fate × T)
    pub pending : List (Fate × T)
    pub last : List (Event T E)
    pub level : Level
    pub seen : ℕ
    pub holds : items ≡ map (λ e. Value e.1) (picked is_stored (length decided) pending) ++ last
    pub ends : IsLast sent last
    pub below : picked is_stored 0 decided ≡ []
    pub above : picked is_taken (length decided) pending ≡ []
    pub lossless : lossy ≡ false → picked is_dropped 0 (decided ++ pending) ≡ []
    pub feeds : (pass : ℕ) (v : Side T E) → get_elem? views pass ≡ some v → FitsFeed feed lossy sent (marked (decided ++ pending)) pass v
    pub levels : (pass : ℕ) (v : Side T E) → get_elem? views pass ≡ some v → FitsLevel level pass v
    pub drains : (pass : ℕ) (v : Side T E) → get_elem? views pass ≡ some v
        → FitsDrain drain lossy sent (picked is_taken 0 decided) (decided ++ pending) pass v
    pub sights : (pass : ℕ) (v : Side T E) → get_elem? views pass ≡ some v → FitsSeen seen pass v
    pub counts : sent ≡ None → IsLevel (length items) seen level

  -- the value joins at the back
  abbrev pub Sends : Side T E → Event T E → Side T E → Type 0
  Sends v (Value x) w = (w ≡ feed_side v.lossy None (v.produced ++ (false, x) ∷ []) w.level) × (w.level.puts ≡ v.level.puts + 1) × (w.level.held ≤ v.level.held + 1)
  Sends v (End cause) w = w ≡ feed_side v.lossy (Some cause) v.produced v.level

  -- what is offered joins at the back, or the channel was full
  abbrev pub Offers : ℕ → Side T E → Event T E → Bool → Side T E → Type 0
  Offers k v item sent w = MatchBool sent (Sends v item w) ((w ≡ v) × WasFull k v.produced × (k ≤ v.level.held))

  -- the feed takes the oldest out, which is dropped
  abbrev pub Overwrites : Side T E → Event T E → Side T E → Type 0
  Overwrites v item w = DropsOne v.produced w.produced × (w ≡ feed_side v.lossy None w.produced (less_one v.level))

  -- the feed takes the oldest out, if there is one
  abbrev pub DropsOldest : Side T E → Bool → Side T E → Type 0
  DropsOldest v dropped w = MatchBool dropped (DropsOne v.produced w.produced × (w ≡ feed_side true None w.produced (less_one v.level))) (w ≡ v)

  -- the drain takes the oldest; with the end it learns what became of all
  abbrev pub Takes : Side T E → Event T E → Side T E → Type 0
  Takes v (Value x) w = ((i : ℕ) × (w ≡ drain_side v.lossy None (v.taken ++ (i, x) ∷ []) v.history w.seen)) × Rises 0 w.taken
  Takes v (End cause) w = (w ≡ drain_side v.lossy (Some cause) v.taken w.history v.seen) × IsDecided v.lossy v.taken w.history

  -- the drain takes the oldest, if there is one
  abbrev pub MayTake : Side T E → Option (Event T E) → Side T E → Type 0
  MayTake v None w = w ≡ v
  MayTake v (Some item) w = Takes v item w

  -- what the feed learns of the channel's content before the end: it is what a history of the produced values holds, and no more
  -- than it held when the last one was put in
  abbrev pub Looks : Side T E → List (Event T E) → Type 0
  Looks v items = (history : List (Fate × T)) × (marked history ≡ v.produced) × (items ≡ map (λ e. Value e.1) (picked is_stored 0 history))
      × (length items ≤ v.level.held)

  -- A feed and a drain tell of one history: the feed of what was produced and dropped in it, the drain of what was taken. The
  -- drain's end is the feed's, and then its history is that one.
  abbrev pub Agree : List (Bool × T) → Option (Cause E) → List (ℕ × T) → Option (Cause E) → List (Fate × T) → Type 0
  Agree produced sent taken got known =
      (history : List (Fate × T)) × (marked history ≡ produced) × (picked is_taken 0 history ≡ taken) × EndIsSent got sent known history
