-- One pass over the cursors.
use Rattle.std.specs.Prelude.{◌≡◌, ◌≢◌, ◌⊎◌, ℕ, suc, ◌+◌, ◌<◌, ◌≤◌, List, [], ◌∷◌, ◌++◌, length, take, cond, eqb, slice_index, Bool, true, false}
use Rattle.shared_lane.specs.declared.view.Shape.{Shape}
use Rattle.shared_lane.specs.declared.view.Known.{Known}
use Rattle.shared_lane.specs.declared.view.View.{View}
use Rattle.shared_lane.specs.Layout.{cursor_word}
use Rattle.shared_lane.specs.Law.{closed}
use Rattle.shared_lane.specs.Steps.{next_number, known_of, known_at, known_past}
use Rattle.shared_lane.specs.declared.sequencer.Survey.{Survey}

-- the loads of the cursors from the place p on, which found these
abbrev pub cursor_loads : ℕ → List ℕ → List (ℕ × ℕ)
cursor_loads p [] = []
cursor_loads p (n ∷ ns) = (cursor_word p, n) ∷ cursor_loads (suc p) ns

abbrev pub open_count : List ℕ → ℕ
open_count [] = 0
open_count (n ∷ ns) = cond (eqb n closed) (open_count ns) (suc (open_count ns))

-- the number of the last opening of the place p
abbrev pub opening_at : View → ℕ → ℕ
opening_at v p = (known_of v.sequencing p).opening

-- no place was opened
abbrev pub OpensNone : View → View → Type 0
OpensNone v v' = (p : ℕ) → opening_at v' p ≡ opening_at v p

-- what the sequencer moved past at the place p, since it was opened last
abbrev pub lost_at : View → ℕ → List ℕ
lost_at v p = (known_of v.sequencing p).lost

-- no place lost a value
abbrev pub LosesNone : View → View → Type 0
LosesNone v v' = (p : ℕ) → lost_at v' p ≡ lost_at v p

-- the place p may be open, or is known to be closed
abbrev pub may_be_open : View → ℕ → Bool
may_be_open v p = (known_of v.sequencing p).is_open

-- each place from this one on is known to be closed
abbrev pub ShutFrom : View → ℕ → Type 0
ShutFrom v end = (p : ℕ) → end ≤ p → may_be_open v p ≡ false

-- the view is of a lane of this shape, and knows of each place
abbrev pub KnowsPlaces : Shape → View → Type 0
KnowsPlaces key v = (v.shape ≡ key) × (length v.sequencing.places ≡ key.places)

-- the view is of a lane of this shape, which may drop values, and knows of each place
abbrev pub MayDrop : Shape → View → Type 0
MayDrop key v = (v.shape ≡ key) × (length v.sequencing.places ≡ key.places) × (key.drops ≡ true)

-- the same, and this is one of the places
abbrev pub MayDropAt : Shape → View → ℕ → Type 0
MayDropAt key v place = (v.shape ≡ key) × (length v.sequencing.places ≡ key.places) × (place < key.places) × (key.drops ≡ true)

-- the sequencer goes on with what it knows of the places alone
pub record OnlyPlaces (v v' : View) : Type 0 where
  pub shape : v'.shape ≡ v.shape
  pub seen : v'.seen ≡ v.seen
  pub reading : v'.reading ≡ v.reading
  pub active : v'.sequencing.active ≡ v.sequencing.active
  pub flight : v'.sequencing.flight ≡ v.sequencing.flight
  pub count : length v'.sequencing.places ≡ length v.sequencing.places
  pub none_opened : OpensNone v v'

-- the cursor of the place p was loaded and found at n, and E is what that did to what the sequencer knows of the place
pub record Visit (E : ℕ → Known → Known → Type 0) (v : View) (p n : ℕ) (v' : View) : Type 0 where
  pub only : OnlyPlaces v v'
  pub loads : v'.loads ≡ v.loads ++ (cursor_word p, n) ∷ []
  pub below : n ≢ closed → n ≤ next_number v
  -- a place that is known to be closed is found closed
  pub shut : may_be_open v p ≡ false → n ≡ closed
  pub here : E n (known_of v.sequencing p) (known_of v'.sequencing p)
  pub rest : (x : ℕ) → x ≢ p → known_of v'.sequencing x ≡ known_of v.sequencing x

-- the cursors were loaded in order, each once, and found at ns
pub record Pass (E : ℕ → Known → Known → Type 0) (v : View) (ns : List ℕ) (v' : View) : Type 0 where
  pub only : OnlyPlaces v v'
  pub loads : v'.loads ≡ v.loads ++ cursor_loads 0 ns
  pub below : (p : ℕ) → p < length ns → slice_index ns p ≢ closed → slice_index ns p ≤ next_number v
  -- those that are known to be closed were found closed
  pub shut : (p : ℕ) → p < length ns → may_be_open v p ≡ false → slice_index ns p ≡ closed
  pub each : (p : ℕ) → p < length ns → E (slice_index ns p) (known_of v.sequencing p) (known_of v'.sequencing p)
  pub rest : (p : ℕ) → length ns ≤ p → known_of v'.sequencing p ≡ known_of v.sequencing p

-- The cursors of all places, found at ns: those before some place were loaded in order, each once, and those from there on are known to be
-- closed, which is how they count as found.
pub record WholePass (E : ℕ → Known → Known → Type 0) (v : View) (ns : List ℕ) (v' : View) : Type 0 where
  pub only : OnlyPlaces v v'
  pub loads : (end : ℕ) × (v'.loads ≡ v.loads ++ cursor_loads 0 (take end ns)) × ((p : ℕ) → end ≤ p → p < length ns → may_be_open v p ≡ false)
  pub below : (p : ℕ) → p < length ns → slice_index ns p ≢ closed → slice_index ns p ≤ next_number v
  -- those that are known to be closed were found closed
  pub shut : (p : ℕ) → p < length ns → may_be_open v p ≡ false → slice_index ns p ≡ closed
  pub each : (p : ℕ) → p < length ns → E (slice_index ns p) (known_of v.sequencing p) (known_of v'.sequencing p)
  pub rest : (p : ℕ) → length ns ≤ p → known_of v'.sequencing p ≡ known_of v.sequencing p

-- the cursor was left where it was found
abbrev pub FoundAt : ℕ → Known → Known → Type 0
FoundAt n k k' = k' ≡ known_at n k

-- the cursor was moved past n, or had moved on its own
abbrev pub PushedFrom : ℕ → Known → Known → Type 0
PushedFrom n k k' = (k' ≡ known_past n (known_at n k)) ⊎ ((m : ℕ) × (m ≢ n) × (m ≢ closed → n < m) × (k' ≡ known_at m (known_at n k)))

-- a cursor that stood `cells` behind the tail was moved by one, if it still stood there, and no other was
pub record Cleared (tail cells n : ℕ) (k k' : Known) : Type 0 where
  pub kept : (n ≡ closed) ⊎ (tail < n + cells) → FoundAt n k k'
  pub pushed : n ≢ closed → n + cells ≤ tail → (n + cells ≡ tail) × PushedFrom n k k'

-- whether some cursor was open, and stood `lag` or more behind the tail
pub record Behind (tail lag : ℕ) (ns : List ℕ) (flag : Bool) : Type 0 where
  pub some : flag ≡ true → (p : ℕ) × (p < length ns) × (slice_index ns p ≢ closed) × (slice_index ns p + lag ≤ tail)
  pub none : flag ≡ false → (p : ℕ) → p < length ns → slice_index ns p ≢ closed → tail < slice_index ns p + lag

-- every cursor was found, and the survey says how many were open, and whether one of them stood `lag` or more behind the tail
abbrev pub IsSurvey : ℕ → ℕ → ℕ → View → Survey → View → Type 0
IsSurvey places tail lag v survey v' = (ns : List ℕ) × (length ns ≡ places) × WholePass FoundAt v ns v'
    × Behind tail lag ns survey.behind × (survey.open ≡ open_count ns)

-- every cursor was loaded, and found open
abbrev pub FoundAllOpen : ℕ → View → View → Type 0
FoundAllOpen places v v' = (ns : List ℕ) × (length ns ≡ places) × Pass FoundAt v ns v' × ((p : ℕ) → p < length ns → slice_index ns p ≢ closed)

-- the cursor of the place p was the first that was found closed, and none before it was known to be
abbrev pub FoundClosed : ℕ → View → View → Type 0
FoundClosed p v v' = (ns : List ℕ) × (length ns ≡ p) × Pass FoundAt v (ns ++ closed ∷ []) v'
    × ((x : ℕ) → x < length ns → slice_index ns x ≢ closed) × (may_be_open v' p ≡ false) × ((x : ℕ) → x < p → may_be_open v x ≡ true)
