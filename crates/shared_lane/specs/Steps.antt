-- What each step does to the view of the seat that makes it, and what it tells.
use Rattle.std.specs.Prelude.{◌≡◌, ◌≢◌, ℕ, suc, ◌+◌, ◌-◌, ◌<◌, ◌≤◌, List, [], ◌∷◌}
use Rattle.std.specs.Prelude.{◌++◌, length, replicate, take, drop, cond, eqb, slice_index, slice_index_or, slice_set, true, false}
use mathlib.Core.Option.{some}
use lib.ListN.{get_elem?}
use Rattle.atomic_table.specs.Table.{Me, Step}
use Rattle.shared_lane.specs.declared.view.Shape.{Shape}
use Rattle.shared_lane.specs.declared.view.Known.{Known}
use Rattle.shared_lane.specs.declared.view.Sequencing.{Sequencing}
use Rattle.shared_lane.specs.declared.view.Reading.{Reading}
use Rattle.shared_lane.specs.declared.view.View.{View}
use Rattle.shared_lane.specs.Layout.{tail_word, cursor_word}
use Rattle.flow_terms.specs.Lists.{IsPrefix}
use Rattle.shared_lane.specs.Law.{Entry, closed, HasWord, HasWords, lost, shut_place, no_sequencing, no_reading}

-- the number of the next value for this reader, as it has seen it
abbrev pub position : Reading → ℕ
position r = r.start + length r.story

-- the number of the next emission
abbrev pub next_number : View → ℕ
next_number v = v.shape.first + length v.seen

abbrev pub load_noted : ℕ → ℕ → View → View
load_noted i n v = record v { loads = v.loads ++ (i, n) ∷ [] }

-- the reader got the value at its position
abbrev pub got : Reading → Reading
got r = record r { story = r.story ++ true ∷ []; picked = [] }

-- the reader got the values that it picked
abbrev pub got_picked : Reading → Reading
got_picked r = record r { story = r.story ++ replicate (length r.picked) true; picked = [] }

-- the reader found its cursor at n
abbrev pub found_at : ℕ → Reading → Reading
found_at n r = record r { story = r.story ++ replicate (n - position r) false; picked = [] }

abbrev pub picked_up : ℕ → Reading → Reading
picked_up x r = record r { picked = x ∷ [] }

abbrev pub picked_next : ℕ → Reading → Reading
picked_next x r = record r { picked = r.picked ++ x ∷ [] }

-- the number after those that it picked
abbrev pub next_to_pick : Reading → ℕ
next_to_pick r = position r + length r.picked

abbrev pub ended : Reading → Reading
ended r = record r { active = false; quit = true; picked = [] }

abbrev pub known_of : Sequencing → ℕ → Known
known_of q p = slice_index_or q.places p shut_place

abbrev pub with_known : ℕ → Known → Sequencing → Sequencing
with_known p k q = record q { places = slice_set q.places p k }

-- the sequencer found the cursor at n
abbrev pub known_at : ℕ → Known → Known
known_at n k = cond (eqb n closed) (record k { is_open = false }) (record k { floor = n })

-- the sequencer moved the cursor past n
abbrev pub known_past : ℕ → Known → Known
known_past n k = record k { floor = suc n; lost = k.lost ++ n ∷ [] }

-- the sequencer opened the place at n, by the opening with this number
abbrev pub known_from : ℕ → ℕ → Known
known_from n opening = record { is_open = true; unread = true; opening = opening; start = n; floor = n; lost = [] }

-- the sequencer heard that the reader of this opening has closed its cursor
abbrev pub known_over : ℕ → Known → Known
known_over opening k = cond (eqb k.opening opening) (record k { is_open = false }) k

-- a load of the tail
abbrev pub Noticed : View → ℕ → View → Type 0
Noticed v n v' = (v' ≡ record v { seen = v'.seen; told = []; loads = v.loads ++ (tail_word, n) ∷ [] })
    × IsPrefix v.seen v'.seen × IsPrefix v.told v'.seen × (n ≡ next_number v') × (position v.reading ≤ n)

-- the reader's load of the cell of its position, the word i
abbrev pub Picked : ℕ → View → ℕ → View → Type 0
Picked i v n v' = v' ≡ record v { loads = v.loads ++ (i, n) ∷ []; reading = picked_up n v.reading }

-- the reader's load of the cell of the next number to pick, the word i
abbrev pub PickedNext : ℕ → View → ℕ → View → Type 0
PickedNext i v n v' = v' ≡ record v { loads = v.loads ++ (i, n) ∷ []; reading = picked_next n v.reading }

-- the reader's exchange at the position old
abbrev pub Took : ℕ → View → ℕ → View → Type 0
Took old v n v' = (n ≡ old → (v' ≡ record v { reading = got v.reading }) × HasWord v.shape.first v.seen old (slice_index v.reading.picked 0))
    × (n ≢ old → (v' ≡ record v { reading = found_at n v.reading }) × (position v.reading < n) × (v.shape.drops ≡ true))

-- the reader's exchange at the position old, past all that it picked
abbrev pub TookPicked : ℕ → View → ℕ → View → Type 0
TookPicked old v n v' = (n ≡ old → (v' ≡ record v { reading = got_picked v.reading }) × HasWords v.shape.first v.seen old v.reading.picked)
    × (n ≢ old → (v' ≡ record v { reading = found_at n v.reading }) × (position v.reading < n) × (v.shape.drops ≡ true))

-- the reader's load of its cursor
abbrev pub Looked : ℕ → View → ℕ → View → Type 0
Looked i v n v' = (v' ≡ record v { loads = v.loads ++ (i, n) ∷ []; reading = found_at n v.reading })
    × (position v.reading ≤ n) × (v.shape.drops ≡ false → n ≡ position v.reading)

-- the reader closes its cursor
abbrev pub HasQuit : View → View → Type 0
HasQuit v v' = v' ≡ record v { reading = ended v.reading }

-- what a cursor found at n says of the place p, to the sequencer
abbrev pub Standing : View → ℕ → ℕ → Type 0
Standing v p n = n ≢ closed
    → ((known_of v.sequencing p).is_open ≡ true) × ((known_of v.sequencing p).floor ≤ n)
    × (n ≤ next_number v) × (next_number v ≤ n + v.shape.cells)

-- the sequencer found the cursor of the place p at n
abbrev pub place_found_at : ℕ → ℕ → Sequencing → Sequencing
place_found_at p n q = with_known p (known_at n (known_of q p)) q

-- the sequencer moved the cursor of the place p past n
abbrev pub place_moved_past : ℕ → ℕ → Sequencing → Sequencing
place_moved_past p n q = with_known p (known_past n (known_of q p)) q

-- the sequencer's load of the cursor of the place p
abbrev pub Surveyed : ℕ → View → ℕ → View → Type 0
Surveyed p v n v' =
    (v' ≡ record v { told = []; loads = v.loads ++ (cursor_word p, n) ∷ []; sequencing = place_found_at p n v.sequencing })
    × IsPrefix v.told v.seen × Standing v p n

-- each place that may be open has read the cell of the next number
abbrev pub IsRoomy : ℕ → View → Type 0
IsRoomy cells v = (p : ℕ) (k : Known) → get_elem? v.sequencing.places p ≡ some k → k.is_open ≡ true → next_number v < k.floor + cells

-- each place that may be open has read the cell of the number n
abbrev pub IsRoomyAt : ℕ → ℕ → View → Type 0
IsRoomyAt cells n v = (p : ℕ) (k : Known) → get_elem? v.sequencing.places p ≡ some k → k.is_open ≡ true → n < k.floor + cells

-- the number after those in flight
abbrev pub next_to_store : View → ℕ
next_to_store v = next_number v + length v.sequencing.flight

-- a cursor may be opened at this number: the cells hold all from there on
abbrev pub MayOpenAt : Shape → View → ℕ → Type 0
MayOpenAt key v start = (key.first ≤ start) × (start ≤ next_number v) × (next_number v ≤ start + key.cells)

-- the store of x in the cell of the next number, for the emitter e
abbrev pub Filled : ℕ → ℕ → View → View → Type 0
Filled e x v v' = v' ≡ record v { sequencing = record v.sequencing { flight = (e, x) ∷ drop 1 v.sequencing.flight } }

-- the store of x in the cell of the next number to store, for the emitter e
abbrev pub FilledNext : ℕ → ℕ → View → View → Type 0
FilledNext e x v v' = v' ≡ record v { sequencing = record v.sequencing { flight = v.sequencing.flight ++ (e, x) ∷ [] } }

-- the store of the tail, which accepts the first in flight
abbrev pub Accepted : View → View → Type 0
Accepted v v' = v' ≡ record v { seen = v.seen ++ take 1 v.sequencing.flight; sequencing = record v.sequencing { flight = drop 1 v.sequencing.flight } }

-- the store of the tail that accepts all in flight
abbrev pub AcceptedAll : View → View → Type 0
AcceptedAll v v' = v' ≡ record v { seen = v.seen ++ v.sequencing.flight; sequencing = record v.sequencing { flight = [] } }

-- the sequencer's exchange of the cursor of the place p, at old
abbrev pub Dropped : ℕ → ℕ → View → ℕ → View → Type 0
Dropped p old v n v' =
    (n ≡ old → (v' ≡ record v { sequencing = place_moved_past p n v.sequencing }) × ((known_of v.sequencing p).is_open ≡ true))
    × (n ≢ old → (v' ≡ record v { sequencing = place_found_at p n v.sequencing }) × Standing v p n)

-- the store that opens the place p at the number n, by the opening with this number
abbrev pub Opened : ℕ → ℕ → ℕ → View → View → Type 0
Opened p n opening v v' = v' ≡ record v { sequencing = with_known p (known_from n opening) v.sequencing }

-- the cursor of the place p stands at n
abbrev pub place_stands_at : ℕ → ℕ → Sequencing → Sequencing
place_stands_at p n q = with_known p (record (known_of q p) { floor = n }) q

-- a load of the reader's cursor, by a seat that is the sequencer's and the reader's
abbrev pub Met : ℕ → View → ℕ → View → Type 0
Met i v n v' =
    (v' ≡ record v {
      told = [];
      loads = v.loads ++ (i, n) ∷ [];
      reading = found_at n v.reading;
      sequencing = place_stands_at v.reading.place n v.sequencing;
    })
    × IsPrefix v.told v.seen × ((known_of v.sequencing v.reading.place).lost ≡ lost v.reading.start (found_at n v.reading).story)
    × (position (found_at n v.reading) ≡ n) × (position v.reading ≤ n) × (n ≤ next_number v) × (v.shape.drops ≡ false → n ≡ position v.reading)

-- the same as a table's step tells it
module _ {S : Type 0} where
  abbrev pub noticed : Step S → Me S View → ℕ → Me S View → Type 0
  noticed st m n m' = (m'.1 ≡ m.1) × Noticed m.0 n m'.0

  abbrev pub picked : Step S → Me S View → ℕ → Me S View → Type 0
  picked st m n m' = (m'.1 ≡ m.1) × Picked st.word m.0 n m'.0

  abbrev pub picked_more : Step S → Me S View → ℕ → Me S View → Type 0
  picked_more st m n m' = (m'.1 ≡ m.1) × PickedNext st.word m.0 n m'.0

  abbrev pub took_picked : Step S → Me S View → ℕ → Me S View → Type 0
  took_picked st m n m' = (m'.1 ≡ m.1) × TookPicked st.first m.0 n m'.0

  abbrev pub took : Step S → Me S View → ℕ → Me S View → Type 0
  took st m n m' = (m'.1 ≡ m.1) × Took st.first m.0 n m'.0

  abbrev pub looked : Step S → Me S View → ℕ → Me S View → Type 0
  looked st m n m' = (m'.1 ≡ m.1) × Looked st.word m.0 n m'.0

  abbrev pub quit : Step S → Me S View → ℕ → Me S View → Type 0
  quit st m n m' = (m'.1 ≡ m.1) × HasQuit m.0 m'.0

  abbrev pub surveyed : Step S → Me S View → ℕ → Me S View → Type 0
  surveyed st m n m' = (m'.1 ≡ m.1) × ((p : ℕ) → st.word ≡ cursor_word p → Surveyed p m.0 n m'.0)

  abbrev pub filled : ℕ → Step S → Me S View → ℕ → Me S View → Type 0
  filled e st m n m' = (m'.1 ≡ m.1) × Filled e st.first m.0 m'.0

  abbrev pub filled_next : ℕ → Step S → Me S View → ℕ → Me S View → Type 0
  filled_next e st m n m' = (m'.1 ≡ m.1) × FilledNext e st.first m.0 m'.0

  abbrev pub accepted_all : Step S → Me S View → ℕ → Me S View → Type 0
  accepted_all st m n m' = (m'.1 ≡ m.1) × AcceptedAll m.0 m'.0

  abbrev pub accepted : Step S → Me S View → ℕ → Me S View → Type 0
  accepted st m n m' = (m'.1 ≡ m.1) × Accepted m.0 m'.0

  abbrev pub dropped : Step S → Me S View → ℕ → Me S View → Type 0
  dropped st m n m' = (m'.1 ≡ m.1) × ((p : ℕ) → st.word ≡ cursor_word p → Dropped p st.first m.0 n m'.0)

  abbrev pub opened : ℕ → Step S → Me S View → ℕ → Me S View → Type 0
  opened opening st m n m' = (m'.1 ≡ m.1) × ((p : ℕ) → st.word ≡ cursor_word p → Opened p st.first opening m.0 m'.0)

  abbrev pub met : Step S → Me S View → ℕ → Me S View → Type 0
  met st m n m' = (m'.1 ≡ m.1) × Met st.word m.0 n m'.0

-- a seat that knows these entries alone
abbrev pub witness : Shape → List Entry → View
witness key log = record { shape = key; seen = log; told = []; loads = []; sequencing = no_sequencing; reading = no_reading }

-- the reader of the place p is handed out
abbrev pub handed_out : ℕ → View → View
handed_out p v = record v { sequencing = with_known p (record (known_of v.sequencing p) { unread = false }) v.sequencing }

abbrev pub new_reader : ℕ → View → View
new_reader p v = record (witness v.shape v.seen) {
  reading = record no_reading { active = true; place = p; opening = (known_of v.sequencing p).opening; start = (known_of v.sequencing p).start };
}

-- a receipt for the first n entries
abbrev pub receipt_of : ℕ → View → View
receipt_of n v = witness v.shape (take n v.seen)

-- the reader's part leaves a seat
abbrev pub without_reader : View → View
without_reader v = record v { reading = no_reading }

abbrev pub only_reader : View → View
only_reader v = record v { sequencing = no_sequencing }

-- a seat takes in what another knows, and the reader's part of another
abbrev pub telling : View → View → View
telling v w = record v { told = w.seen }

abbrev pub joined : View → View → View
joined v w = record v { told = w.seen; reading = w.reading }

-- a seat that knows the end of a reader alone, and the sequencer's that hears of that end
abbrev pub end_note : View → View
end_note v = record (witness v.shape []) { reading = v.reading }

abbrev pub place_over : ℕ → ℕ → Sequencing → Sequencing
place_over p opening q = with_known p (known_over opening (known_of q p)) q

abbrev pub hearing_end : View → View → View
hearing_end v w = record v { sequencing = place_over w.reading.place w.reading.opening v.sequencing }

abbrev pub spent : View
spent = witness (record { first = 0; places = 0; cells = 0; drops = false }) []
