-- What holds of the lane's words and of all views, between any two steps.
use Rattle.std.specs.Prelude.{◌≡◌, ◌⊎◌, ℕ, suc, ◌+◌, ◌<◌, ◌≤◌, List, [], ◌∷◌, ◌++◌, length, replicate, slice_index, Bool, true, false}
use mathlib.Core.Option.{some}
use lib.ListN.{get_elem?}
use Rattle.atomic_table.specs.Table.{State}
use Rattle.flow_terms.specs.Lists.{IsPrefix}
use Rattle.shared_lane.specs.Layout.{tail_word, cursor_word, cell_word, width}
use Rattle.shared_lane.specs.declared.view.Shape.{Shape}
use Rattle.shared_lane.specs.declared.view.Known.{Known}
use Rattle.shared_lane.specs.declared.view.Sequencing.{Sequencing}
use Rattle.shared_lane.specs.declared.view.Reading.{Reading}
use Rattle.shared_lane.specs.declared.view.View.{View}

-- an emitter and a word
abbrev pub Entry : Type 0
Entry = ℕ × ℕ

-- the word of a closed cursor
abbrev pub closed : ℕ
closed = 18446744073709551615

-- the emission with the number n had the word x, where the first of the log has the number f
abbrev pub HasWord : ℕ → List Entry → ℕ → ℕ → Type 0
HasWord f log n x = (i : ℕ) × (e : ℕ) × (n ≡ f + i) × (get_elem? log i ≡ some (e, x))

-- the emissions from the number n on had these words
abbrev pub HasWords : ℕ → List Entry → ℕ → List ℕ → Type 0
HasWords f log n xs = (i x : ℕ) → get_elem? xs i ≡ some x → HasWord f log (n + i) x

-- A place since it was opened last: for each number from the start on, whether it was received or lost
pub record Place : Type 0 where
  pub is_open : Bool
  pub unread : Bool
  pub holder : ℕ
  -- the number of its last opening, which rises from one to the next; 0 where it was never opened
  pub opening : ℕ
  pub start : ℕ
  pub story : List Bool

abbrev pub cursor : Place → ℕ
cursor pl = pl.start + length pl.story

-- the numbers from n on that were received, and those that were lost
abbrev pub received : ℕ → List Bool → List ℕ
received n [] = []
received n (true ∷ bs) = n ∷ received (suc n) bs
received n (false ∷ bs) = received (suc n) bs

abbrev pub lost : ℕ → List Bool → List ℕ
lost n [] = []
lost n (true ∷ bs) = lost (suc n) bs
lost n (false ∷ bs) = n ∷ lost (suc n) bs

-- a place, whose cursor is the word w, where so many cells ahead of the tail are in flight
pub record PlaceOk (key : Shape) (ahead tail : ℕ) (pl : Place) (w : ℕ) : Type 0 where
  pub shut : pl.is_open ≡ false → w ≡ closed
  pub stands : pl.is_open ≡ true → w ≡ cursor pl
  pub after_first : key.first ≤ pl.start
  pub behind : pl.is_open ≡ true → cursor pl ≤ tail
  -- no cell in flight is one that an open cursor has still to read
  pub near : pl.is_open ≡ true → tail + ahead ≤ cursor pl + key.cells
  pub unread : pl.unread ≡ true → (k : ℕ) × (pl.story ≡ replicate k false)
  pub all_received : key.drops ≡ false → (k : ℕ) × (pl.story ≡ replicate k true)

-- what the sequencer knows of a place
pub record KnownOk (k : Known) (pl : Place) : Type 0 where
  pub shut : k.is_open ≡ false → pl.is_open ≡ false
  pub opening : k.opening ≡ pl.opening
  pub start : k.is_open ≡ true → k.start ≡ pl.start
  pub floor : k.is_open ≡ true → k.floor ≤ cursor pl
  pub lost : k.is_open ≡ true → k.lost ≡ lost pl.start pl.story
  pub unread : k.is_open ≡ true → k.unread ≡ true → (pl.unread ≡ true) × (pl.is_open ≡ true)

pub record SequencerOk (key : Shape) (flight : List Entry) (place : ℕ → Place) (sequencer j : ℕ) (q : Sequencing) : Type 0 where
  pub seat : j ≡ sequencer
  pub in_flight : q.flight ≡ flight
  pub count : length q.places ≡ key.places
  pub knows : (p : ℕ) (k : Known) → get_elem? q.places p ≡ some k → KnownOk k (place p)

pub record ReaderOk (key : Shape) (log : List Entry) (j : ℕ) (r : Reading) (pl : Place) : Type 0 where
  pub inside : r.place < key.places
  pub live : pl.is_open ≡ true
  pub handed : pl.unread ≡ false
  pub seat : pl.holder ≡ j
  pub opening : pl.opening ≡ r.opening
  pub start : pl.start ≡ r.start
  -- what came since is lost
  pub story : (k : ℕ) × (pl.story ≡ r.story ++ replicate k false)
  -- what it picked, where its cursor still stands there
  pub picked : cursor pl ≡ r.start + length r.story → HasWords key.first log (cursor pl) r.picked

-- the place was opened again since this reader's part was admitted
abbrev pub WasOpenedAgain : Reading → Place → Type 0
WasOpenedAgain r pl = r.opening < pl.opening

-- the place is closed, or was opened again since
abbrev pub IsOver : Reading → Place → Type 0
IsOver r pl = (r.opening ≤ pl.opening) × ((pl.is_open ≡ false) ⊎ WasOpenedAgain r pl)

-- where the reader's part has closed its cursor, the place is closed from then on, or was opened again
abbrev pub QuitOk : Shape → (ℕ → Place) → Reading → Type 0
QuitOk key place r = r.quit ≡ true → (r.active ≡ false) × (r.place < key.places) × IsOver r (place r.place)

pub record SeatOk (key : Shape) (log flight : List Entry) (place : ℕ → Place) (sequencer j : ℕ) (v : View) : Type 0 where
  pub seen : IsPrefix v.seen log
  pub told : IsPrefix v.told log
  pub sequencing : v.sequencing.active ≡ true → (v.shape ≡ key) × (v.seen ≡ log) × SequencerOk key flight place sequencer j v.sequencing
  pub reading : v.reading.active ≡ true → (v.shape ≡ key) × ReaderOk key log j v.reading (place v.reading.place)
  pub quit : QuitOk key place v.reading

pub record Law {S : Type 0} (key : Shape) (s : State S View) : Type 0 where
  -- all accepted emissions
  pub log : List Entry
  -- the cells of the next numbers hold these already, in order
  pub flight : List Entry
  pub sequencer : ℕ
  pub place : ℕ → Place
  pub wide : length s.words ≡ width key
  pub some_cell : 0 < key.cells
  pub short : length flight ≤ key.cells
  pub bounded : key.first + length log ≤ 4611686018427387904
  pub tail : slice_index s.words tail_word ≡ key.first + length log
  -- each of the last that were stored stands in its cell
  pub each_cell : (i : ℕ) (e x : ℕ) → get_elem? (log ++ flight) i ≡ some (e, x) → length log + length flight ≤ i + key.cells
      → slice_index s.words (cell_word key (key.first + i)) ≡ x
  pub each_place : (p : ℕ) → p < key.places → PlaceOk key (length flight) (key.first + length log) (place p) (slice_index s.words (cursor_word p))
  pub each_seat : (j : ℕ) (v : View) → get_elem? s.views j ≡ some v → SeatOk key log flight place sequencer j v

-- what a place is known as, that nobody opened
abbrev pub shut_place : Known
shut_place = record { is_open = false; unread = false; opening = 0; start = 0; floor = 0; lost = [] }

-- no cell in flight, and all places closed
abbrev pub no_sequencing : Sequencing
no_sequencing = record { active = false; flight = []; places = [] }

abbrev pub no_reading : Reading
no_reading = record { active = false; quit = false; place = 0; opening = 0; start = 0; story = []; picked = [] }

abbrev pub opening_view : Shape → View
opening_view key = record {
  shape = key;
  seen = [];
  told = [];
  loads = [];
  sequencing = record no_sequencing { active = true; places = replicate key.places shut_place };
  reading = no_reading;
}

-- what a lane can be made with
abbrev pub IsShape : Shape → Type 0
IsShape key = (0 < key.cells) × (key.cells ≤ 65536) × (key.places ≤ 1024) × (key.first ≤ 4611686018427387904)
