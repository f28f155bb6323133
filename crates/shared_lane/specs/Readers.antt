-- What a reader has seen, and what it takes.
use Rattle.std.specs.Prelude.{◌≡◌, ℕ, ◌+◌, ◌-◌, ◌<◌, ◌≤◌, List, [], ◌∷◌, ◌++◌, length, replicate, Bool, true, false}
use Rattle.shared_lane.specs.Layout.{tail_word, cursor_word, cell_word}
use Rattle.flow_terms.specs.Lists.{IsPrefix}
use Rattle.shared_lane.specs.Law.{HasWord, received, lost}
use Rattle.shared_lane.specs.Views.{LaneSeen, ReaderSeen, ClosedSeen, ReceiptSeen}
use Rattle.shared_lane.specs.declared.reader.Taken.{Taken}
use Rattle.shared_lane.specs.declared.reader.Taken.TheVariants.{Value, Nothing, Overtaken}

-- it is a reader of this lane
abbrev pub IsReaderOf : LaneSeen → ReaderSeen → Type 0
IsReaderOf lane r = (r.table ≡ lane.table) × (r.shape ≡ lane.shape)

abbrev pub IsReceiptOf : LaneSeen → ReceiptSeen → Type 0
IsReceiptOf lane receipt = receipt.table ≡ lane.table

-- the number of the next value
abbrev pub at : ReaderSeen → ℕ
at r = r.start + length r.story

abbrev pub received_count : ReaderSeen → ℕ
received_count r = length (received r.start r.story)

abbrev pub lost_count : ReaderSeen → ℕ
lost_count r = length (lost r.start r.story)

-- it is the same reader, which has seen no less
abbrev pub IsSameReader : ReaderSeen → ReaderSeen → Type 0
IsSameReader r t = (t.start ≡ r.start) × (t.place ≡ r.place) × (t.shape ≡ r.shape) × IsPrefix r.seen t.seen × (t.table ≡ r.table) × (t.opening ≡ r.opening)

-- the story, as far as the number n, which lost what came since
abbrev pub story_to : ℕ → ReaderSeen → List Bool
story_to n r = r.story ++ replicate (n - at r) false

-- nothing can be lost, where the policy drops nothing
abbrev pub IsKept : ℕ → ReaderSeen → Type 0
IsKept n r = r.shape.drops ≡ false → n ≡ at r

-- the reader's position is n, and what lay between was lost
abbrev pub WentTo : ℕ → ReaderSeen → ReaderSeen → Type 0
WentTo n r t = (at r ≤ n) × IsKept n r × (t.story ≡ story_to n r)

-- the end of this reader: it is as it was, and has closed its cursor
abbrev pub end_of : ReaderSeen → ClosedSeen
end_of r = record { reader = r; quit = true }

-- The exchange of this attempt failed. It was tried where the cursor had been loaded at m, below the tail, and the value of m had been
-- loaded; and after these loads, which are all, the position rose past m to n. Nothing but an exchange that found n there tells that.
abbrev pub FailedToTake : ReaderSeen → ℕ → ReaderSeen → Type 0
FailedToTake r n t = (m : ℕ) × (tail : ℕ) × (x : ℕ) × (at r ≤ m) × (m < n) × (m < tail) × (tail ≡ r.shape.first + length t.seen)
    × (t.loads ≡ r.loads ++ (cursor_word r.place, m) ∷ (tail_word, tail) ∷ (cell_word r.shape m, x) ∷ [])

-- what an attempt to take the next value did
abbrev pub TookNext : ReaderSeen → Taken ℕ → ReaderSeen → Type 0
TookNext r (Value w) t = (n : ℕ) × (at r ≤ n) × IsKept n r × (t.story ≡ story_to n r ++ true ∷ []) × HasWord r.shape.first t.seen n w
-- the tail that was loaded last is the position
TookNext r Nothing t = (n : ℕ) × WentTo n r t × (n ≡ r.shape.first + length t.seen)
    × (t.loads ≡ r.loads ++ (cursor_word r.place, n) ∷ (tail_word, n) ∷ [])
TookNext r Overtaken t = (n : ℕ) × (at r < n) × (r.shape.drops ≡ true) × (t.story ≡ story_to n r) × FailedToTake r n t
