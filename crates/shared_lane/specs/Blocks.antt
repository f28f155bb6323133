-- Emissions by the block: what the call that emits many does.
use Rattle.std.specs.Prelude.{◌≡◌, ◌≢◌, ◌⊎◌, ℕ, ◌+◌, ◌<◌, ◌≤◌, List, [], ◌∷◌, ◌++◌, length, map, take, true, false}
use Rattle.circular_buffer.specs.Buffer.{keep_last}
use Rattle.flow_terms.specs.declared.policy.Policy.{Policy}
use Rattle.flow_terms.specs.declared.policy.Policy.TheVariants.{Suspend, DropOldest, DropLatest}
use Rattle.flow_terms.specs.declared.refusal.Refusal.TheVariants.{Spent}
use Rattle.flow_terms.specs.declared.answers.Tried.TheVariants.{Dropped, Full}
use Rattle.shared_lane.specs.declared.view.View.{View}
use Rattle.shared_lane.specs.Law.{Entry, closed}
use Rattle.shared_lane.specs.Caches.{word_of}
use Rattle.shared_lane.specs.Views.{SequencerSeen}
use Rattle.shared_lane.specs.Surveys.{WholePass, FoundAt, Cleared, Behind}
use Rattle.shared_lane.specs.Sequencers.{next, seen, LoadedOrMoved, AcceptedOn, TriedOn, RefusedTry}

-- the emissions of these words, for one emitter
abbrev pub entries : ℕ → List ℕ → List Entry
entries emitter words = map (λ w. (emitter, w)) words

-- the emissions are the last of those accepted, and in the cache
abbrev pub accepted_all : List Entry → SequencerSeen → SequencerSeen
accepted_all es q = record q { view = record q.view { seen = q.view.seen ++ es }; cache = keep_last q.replay (q.cache ++ map word_of es) }

-- by the cursors found at ns, a try of each number from `low` up to below `high` finds no open cursor `lag` or more behind it
abbrev pub FindRoom : ℕ → ℕ → ℕ → List ℕ → Type 0
FindRoom lag low high ns = (n : ℕ) → low ≤ n → n < high → Behind n lag ns false

-- of `most` emissions from the number `tail` on, the cursors found at ns leave room for so many, and for no more
pub record HasRoom (tail lag : ℕ) (ns : List ℕ) (most room : ℕ) : Type 0 where
  pub few : room ≤ most
  pub near : FindRoom lag tail (tail + room) ns
  pub no_more : room < most → Behind (tail + room) lag ns true

-- the same of one cursor, found at n, where there was room for `most`
pub record LeavesRoom (tail lag n most room : ℕ) : Type 0 where
  pub few : room ≤ most
  pub near : n ≢ closed → 0 < room → tail + room ≤ n + lag
  pub no_more : room < most → (n ≢ closed) × (n + lag ≤ tail + room)

-- these are in flight
abbrev pub with_flight : List Entry → View → View
with_flight es v = record v { sequencing = record v.sequencing { flight = es } }

-- One pass over the cursors found room for k emissions: a try of each of them finds it by what this pass found. Under DropOldest the
-- pass is the one that a try of the first of them makes, and tries of the others move no cursor.
abbrev pub PassedFor : Policy → ℕ → SequencerSeen → View → Type 0
PassedFor DropOldest k q v = (ns : List ℕ) × (length ns ≡ q.view.shape.places) × WholePass (Cleared (next q) q.view.shape.cells) q.view ns v
    × FindRoom q.view.shape.cells (next q + 1) (next q + k) ns
PassedFor Suspend k q v = (ns : List ℕ) × (length ns ≡ q.view.shape.places) × WholePass FoundAt q.view ns v × FindRoom q.capacity (next q) (next q + k) ns
PassedFor DropLatest k q v = (ns : List ℕ) × (length ns ≡ q.view.shape.places) × WholePass FoundAt q.view ns v × FindRoom q.capacity (next q) (next q + k) ns

-- the emissions were accepted together, after one pass over the cursors that found room for each of them
abbrev pub AcceptedTogether : SequencerSeen → List Entry → SequencerSeen → Type 0
AcceptedTogether q es t = (q.waiting ≡ []) × ((m : SequencerSeen) × LoadedOrMoved q m × PassedFor q.policy (length es) q m.view × (t ≡ accepted_all es m))

-- the emissions were accepted one after another, each by a try of its own
abbrev pub AcceptedEach : SequencerSeen → List Entry → SequencerSeen → Type 0
AcceptedEach q [] t = t ≡ q
AcceptedEach q (e ∷ es) t = (m : SequencerSeen) × AcceptedOn q e (next q) m × AcceptedEach m es t

-- Accepting some together is accepting each of them by a try of its own, where the tries find the cursors as the one pass did. But for
-- the loads, of which there are more then, what is left is the same.
abbrev pub TogetherIsEach : Type 0
TogetherIsEach = (q t : SequencerSeen) (e : Entry) (es : List Entry) → AcceptedTogether q (e ∷ es) t
    → (u : SequencerSeen) × AcceptedEach q (e ∷ es) u × (u ≡ record t { view = record t.view { loads = u.view.loads } })

-- block after block was accepted, and none was empty
abbrev pub AcceptedInTurn : SequencerSeen → List (List Entry) → SequencerSeen → Type 0
AcceptedInTurn q [] t = t ≡ q
AcceptedInTurn q (es ∷ blocks) t = (m : SequencerSeen) × (0 < length es) × AcceptedTogether q es m × AcceptedInTurn m blocks t

-- the emissions of all blocks, in order
abbrev pub joined : List (List Entry) → List Entry
joined [] = []
joined (es ∷ blocks) = es ++ joined blocks

-- a try of any emission isn't accepted: there is no room for it, or the numbers are used up
abbrev pub IsTurnedAway : SequencerSeen → SequencerSeen → Type 0
IsTurnedAway q t = RefusedTry q Spent t ⊎ ((e : Entry) → TriedOn q e Full t ⊎ TriedOn q e Dropped t)

-- Tries of these words, one after another, up to the first that isn't accepted. The first n were accepted, block after block; and that
-- was all, or the next one was turned away.
pub record TriedAllOn (q : SequencerSeen) (emitter : ℕ) (words : List ℕ) (n : ℕ) (t : SequencerSeen) : Type 0 where
  pub few : n ≤ length words
  pub accepted : seen t ≡ seen q ++ entries emitter (take n words)
  pub in_turn : (blocks : List (List Entry)) × (m : SequencerSeen) × (joined blocks ≡ entries emitter (take n words)) × AcceptedInTurn q blocks m
      × (((n ≡ length words) × (t ≡ m)) ⊎ ((n < length words) × IsTurnedAway m t))

-- the first n of the words were accepted together, or none was, since the first was turned away
pub record AcceptedSome (q : SequencerSeen) (emitter : ℕ) (words : List ℕ) (n : ℕ) (t : SequencerSeen) : Type 0 where
  pub few : n ≤ length words
  pub accepted : seen t ≡ seen q ++ entries emitter (take n words)
  pub none : n ≡ 0 → IsTurnedAway q t
  pub some : 0 < n → AcceptedTogether q (entries emitter (take n words)) t
