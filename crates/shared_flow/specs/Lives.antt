-- What a subscription receives over its life: its prelude, and then what its reader takes.
use Rattle.std.specs.Prelude.{◌≡◌, ◌⊎◌, ⊤, ℕ, ◌+◌, ◌≤◌, false, List, [], ◌∷◌, ◌++◌, length, map, Option, None, Some, Ok}
use Rattle.std.specs.List.{range_with_len}
use Rattle.flow_terms.specs.Lists.{IsPrefix}
use Rattle.shared_lane.specs.Law.{lost}
use Rattle.shared_core.specs.Flow.{values_at}
use Rattle.shared_core.specs.Story.{Interleaves}
use Rattle.shared_core.specs.Headline.{EndsWith}
use Rattle.shared_lane.specs.Headline.{Went, words_seen, cache_then_later, pending}
use Rattle.shared_lane.specs.Readers.{IsSameReader, at}
use Rattle.shared_lane.specs.Sequencers.{seen}
use Rattle.shared_lane.specs.Views.{ReaderSeen}
use Rattle.shared_rounds.specs.declared.round.Round.TheVariants as round
use Rattle.shared_rounds.specs.Names.{SharedSeen}
use Rattle.shared_rounds.specs.Reach.{Rounds}
use Rattle.shared_rounds.specs.Rounds.{WasAdmitted}
use Rattle.shared_rounds.specs.Entering.{IsLeftBy}

-- A call of the subscription, or one of its looks: it was given the next value of its prelude, or its reader gave a word or none.
pub data LifeStep (T : Type 0) : Type 0 where
  greeted : T → LifeStep T
  looked : Option ℕ → LifeStep T

-- the reader gives a word only where nothing is left of the prelude
abbrev pub IsInTurn : {T : Type 0} → List T → Option ℕ → Type 0
IsInTurn rest None = ⊤
IsInTurn rest (Some w) = rest ≡ []

-- One turn after another, from what was left of the prelude and a reader on.
abbrev pub LivesOn : {T : Type 0} → List T → ReaderSeen → List (LifeStep T) → List T → ReaderSeen → Type 0
LivesOn rest r [] left t = (left ≡ rest) × (t ≡ r)
LivesOn {T} rest r (greeted v ∷ life_steps) left t = (more : List T) × (rest ≡ v ∷ more) × LivesOn more r life_steps left t
LivesOn rest r (looked x ∷ life_steps) left t = (m : ReaderSeen) × IsInTurn rest x × Went r x m × IsSameReader r m × LivesOn rest m life_steps left t

-- The values that they gave.
abbrev pub received_in : {T : Type 0} → (ℕ → T) → List (LifeStep T) → List T
received_in read_as [] = []
received_in read_as (greeted v ∷ life_steps) = v ∷ received_in read_as life_steps
received_in read_as (looked (Some w) ∷ life_steps) = read_as w ∷ received_in read_as life_steps
received_in read_as (looked None ∷ life_steps) = received_in read_as life_steps

-- The life of a subscription so far: its prelude; the replay cache at its start, and the reader that it began with; its turns; and what
-- they have left of the prelude, and made of the reader.
pub record Life (T : Type 0) : Type 0 where
  pub prelude : List T
  pub cache : List ℕ
  pub start : ReaderSeen
  pub life_steps : List (LifeStep T)
  pub left : List T
  pub reader : ReaderSeen

-- Some round of this list admitted the reader. The rounds before it had left what was found then, and the replay cache is the one that it
-- left.
pub record BeganIn (log : Rounds) (cache : List ℕ) (start : ReaderSeen) : Type 0 where
  pub before : Rounds
  pub later : Rounds
  pub pass : ℕ
  pub number : ℕ
  pub left_after : SharedSeen
  pub log_is : log ≡ (before ++ (pass, round.Subscribe (Ok number), left_after) ∷ []) ++ later
  pub made : SharedSeen
  pub found : SharedSeen
  pub found_is : IsLeftBy made before found
  pub admitted : WasAdmitted found start left_after
  pub cache_is : cache ≡ left_after.sequencer.cache

-- The list of rounds has left the flow as it is now, and the subscription is one of this flow: it began in one of the rounds, and its turns
-- made of it what it is. It knows where it stands: it has seen as far as its position, and that is the beginning of what was accepted.
pub record IsSubscriptionOf {T : Type 0} (made : SharedSeen) (log : Rounds) (now : SharedSeen) (life : Life T) : Type 0 where
  pub left_by : IsLeftBy made log now
  pub began : BeganIn log life.cache life.start
  pub lived : LivesOn life.prelude life.start life.life_steps life.left life.reader
  pub has_seen_so_far : at life.reader ≤ life.reader.shape.first + length life.reader.seen
  pub has_seen_this : IsPrefix life.reader.seen (seen now.sequencer)

-- What a subscription received, then what is left of its prelude and what is pending for it, is its prelude, the replay cache at its
-- start and all later accepted words, less those that it lost. `kept` and `dropped` are indexes of the list of the latter two; of the
-- prelude none is lost.
pub record ReceivesPreludeCacheThenLater {T : Type 0} (read_as : ℕ → T) (life : Life T) (now : ReaderSeen) : Type 0 where
  pub kept : List ℕ
  pub dropped : List ℕ
  pub received_then_pending_is_prelude_cache_then_later : received_in read_as life.life_steps ++ (life.left ++ map read_as (pending now))
      ≡ life.prelude ++ map read_as (values_at (cache_then_later life.cache life.start now) kept)
  -- while some of the prelude is left, nothing else was received
  pub prelude_comes_first : (life.left ≡ []) ⊎ (received_in read_as life.life_steps ++ life.left ≡ life.prelude)
  -- both rise, and together they are all indexes, each once
  pub in_order_and_once : Interleaves kept dropped (range_with_len 0 (length (cache_then_later life.cache life.start now)))
  pub in_order_of_acceptance : EndsWith (cache_then_later life.cache life.start now) (words_seen now)
  -- those dropped are those that the sequencer moved its cursor past
  pub dropped_are_lost : map (λ index. now.start + index) dropped ≡ lost now.start now.story
  pub only_drop_oldest_drops : life.start.shape.drops ≡ false → dropped ≡ []
