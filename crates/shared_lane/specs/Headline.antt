-- What a reader receives over its life, told by what its calls gave, by its story, and by what it has seen.
use Rattle.std.specs.Prelude.{◌≡◌, ℕ, ◌+◌, ◌-◌, ◌≤◌, false, List, [], ◌∷◌, ◌++◌, length, map, drop, Option, None, Some}
use Rattle.std.specs.List.{range_with_len}
use Rattle.shared_core.specs.Flow.{values_at}
use Rattle.shared_core.specs.Story.{Interleaves}
use Rattle.shared_core.specs.Headline.{EndsWith}
use Rattle.shared_lane.specs.Law.{lost}
use Rattle.shared_lane.specs.declared.reader.Taken.{Taken}
use Rattle.shared_lane.specs.declared.reader.Taken.TheVariants.{Value, Nothing, Overtaken}
use Rattle.shared_lane.specs.Caches.{word_of, IsLastOf}
use Rattle.shared_lane.specs.Views.{ReaderSeen}
use Rattle.shared_lane.specs.Readers.{at, WentTo, IsSameReader, TookNext}
use Rattle.shared_lane.specs.Picks.{TookAll}

-- The words of the emissions that it has seen.
abbrev pub words_seen : ReaderSeen → List ℕ
words_seen r = map word_of r.seen

-- A call of the reader: it gave a word, or it gave none, and its position may have been moved.
abbrev pub Went : ReaderSeen → Option ℕ → ReaderSeen → Type 0
Went r (Some w) t = TookNext r (Value w) t
Went r None t = (n : ℕ) × WentTo n r t

-- One call after another.
abbrev pub Lived : ReaderSeen → List (Option ℕ) → ReaderSeen → Type 0
Lived r [] t = t ≡ r
Lived r (x ∷ xs) t = (m : ReaderSeen) × Went r x m × IsSameReader r m × Lived m xs t

-- What an attempt to take the next value gave.
abbrev pub gave : Taken ℕ → Option ℕ
gave (Value w) = Some w
gave Nothing = None
gave Overtaken = None

-- The words that they gave.
abbrev pub given : List (Option ℕ) → List ℕ
given [] = []
given (Some w ∷ xs) = w ∷ given xs
given (None ∷ xs) = given xs

-- It was admitted with this replay cache, and has received nothing.
pub record StartsAtCache (cache : List ℕ) (r : ReaderSeen) : Type 0 where
  pub starts_at_the_cache : at r + length cache ≡ r.shape.first + length r.seen
  pub caches_the_latest : IsLastOf r.seen cache
  pub nothing_yet : r.story ≡ []

-- The replay cache as it stood at the start, followed by all words accepted from then until now.
abbrev pub cache_then_later : List ℕ → ReaderSeen → ReaderSeen → List ℕ
cache_then_later cache start now = cache ++ drop (length start.seen) (words_seen now)

-- What was accepted from the reader's position on.
abbrev pub pending : ReaderSeen → List ℕ
pending r = drop (at r - r.shape.first) (words_seen r)

-- What a reader received, then what is pending for it, is the replay cache at its start followed by all later accepted words,
-- less those that it lost. `kept` and `dropped` are indexes of that list.
pub record ReceivesCacheThenLater (cache : List ℕ) (start now : ReaderSeen) (received : List ℕ) : Type 0 where
  pub kept : List ℕ
  pub dropped : List ℕ
  pub received_then_pending_is_cache_then_later : received ++ pending now ≡ values_at (cache_then_later cache start now) kept
  -- both rise, and together they are all indexes, each once
  pub in_order_and_once : Interleaves kept dropped (range_with_len 0 (length (cache_then_later cache start now)))
  pub in_order_of_acceptance : EndsWith (cache_then_later cache start now) (words_seen now)
  -- those dropped are those that the sequencer moved its cursor past
  pub dropped_are_lost : map (λ index. now.start + index) dropped ≡ lost now.start now.story
  pub only_drop_oldest_drops : start.shape.drops ≡ false → dropped ≡ []

-- Taking all that is there is one call that gives none, by which the position is found, and then one for each word.
abbrev pub TakingAllIsTakingEach : Type 0
TakingAllIsTakingEach = (r t : ReaderSeen) (room : ℕ) (taken : Taken ℕ) (words : List ℕ) → IsSameReader r t → TookAll r room taken words t
    → Lived r (None ∷ map Some words) t × (given (None ∷ map Some words) ≡ words)

-- So it is at each moment when the reader has seen as far as its position: after each call that gave a word or found nothing,
-- and after a meeting.
abbrev pub EachReaderReceivesCacheThenLater : Type 0
EachReaderReceivesCacheThenLater =
    (cache : List ℕ) (start now : ReaderSeen) (calls : List (Option ℕ)) → StartsAtCache cache start → Lived start calls now
    → at now ≤ now.shape.first + length now.seen → ReceivesCacheThenLater cache start now (given calls)
