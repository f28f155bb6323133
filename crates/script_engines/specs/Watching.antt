-- A state with its collectors, as contracts see it, and the calls of a script on it. Each is one step of its seat on what it had seen; and
-- where that seat has all seats of the state, each answers as the function of `Keeping`.
use Rattle.std.specs.Prelude.{◌≡◌, ◌⊎◌, ℕ, ◌<◌, ◌≤◌, Bool, true, false, List, [], ◌∷◌, ◌++◌, length, Option, Some, None, is_some, map, slice_get, slice_set}
use Rattle.std.specs.Prelude.{Result, Ok, Err}
use Rattle.flow_terms.specs.declared.refusal.Refusal.{Refusal}
use Rattle.flow_terms.specs.declared.refusal.Refusal.TheVariants.{NoMemory, SubscribersFull}
use Rattle.flow_terms.specs.declared.ids.SubId.{SubId}
use Rattle.flow_terms.specs.declared.answers.Next.{Next}
use Rattle.flow_terms.specs.declared.answers.Next.TheVariants.{Value, Nothing, Closed}
use Rattle.state_flow.specs.declared.seat.collecting.SeatCollector.{SeatCollector}
use Rattle.state_flow.specs.declared.view.View.{View}
use Rattle.state_flow.specs.History.{last_of}
use Rattle.state_flow.specs.Views.{SeatSeen, HasAll}
use Rattle.state_flow.specs.Calls as seats
use Rattle.script_calls.specs.Calls.{Readings, Settings}
use Rattle.script_engines.specs.Keeping.{Kept, collecting, standing, written, compared, collector_count, collected, next_value, cancelled}

-- what the seat has seen, and each collector that was made, unless it was cancelled
pub record Watch : Type 0 where
  pub seat : SeatSeen ℕ
  pub collectors : List (Option SeatCollector)

-- of each collector that was made: whether it collects still
abbrev pub collects : Watch → List Bool
collects watch = map is_some watch.collectors

-- the seat has nine shares, and runs just the collectors that collect
pub record IsWatch (seat : SeatSeen ℕ) (collectors : List (Option SeatCollector)) : Type 0 where
  pub shares : seat.view.share ≡ 9
  pub runs : seat.view.runs ≡ collecting (map is_some collectors)

-- ---- which function it stands for

-- each collector gave last what its list ends with
abbrev pub ShowEach : List (Option SeatCollector) → List (Option (List ℕ)) → Type 0
ShowEach [] [] = Unit {0}
ShowEach (None ∷ places) (None ∷ lists) = ShowEach places lists
ShowEach (Some place ∷ places) (Some given ∷ lists) = (place.last ≡ last_of given) × ShowEach places lists
ShowEach places lists = ⊥

-- the seat has all seats, and has seen this history
pub record Shows (watch : Watch) (kept : Kept) : Type 0 where
  pub all : HasAll watch.seat.view
  pub seen : watch.seat.view.seen ≡ kept.history
  pub stands : last_of kept.history ≡ Some (standing kept)
  pub each : ShowEach watch.collectors kept.collectors

-- Whatever the old state stands for, the reply is its reply, and the new one stands for what it leaves
abbrev pub Follows : {R : Type 0} → (Kept → R × Kept) → Watch → R → Watch → Type 0
Follows call old reply new = (kept : Kept) → Shows old kept → (reply ≡ (call kept).0) × Shows new (call kept).1

abbrev pub Leaves : (Kept → Kept) → Watch → Watch → Type 0
Leaves call old new = (kept : Kept) → Shows old kept → Shows new (call kept)

-- ---- the seat

-- the seat made this step, and no collector did anything
abbrev pub BySeat : (View ℕ → View ℕ → Type 0) → Watch → Watch → Type 0
BySeat step old new = (new.collectors ≡ old.collectors) × (new.seat.flow ≡ old.seat.flow) × step old.seat.view new.seat.view

-- ---- collectors

-- the seat began to run one collector more: the last of them, which was given nothing yet
pub record AddsOne (before after : Watch) : Type 0 where
  pub launches : seats.Launches before.seat.view after.seat.view
  pub stays : after.seat.flow ≡ before.seat.flow
  pub only : after.collectors ≡ before.collectors ++ Some (record { last = None }) ∷ []

-- a ninth collector is refused, after want of memory, and then nothing has changed
abbrev pub Collects : Watch → Result SubId Refusal → Watch → Type 0
Collects old (Ok id) new = (id.0 ≡ length old.collectors) × (collecting (collects old) < 8) × AddsOne old new
Collects old (Err refusal) new = (new ≡ old) × ((refusal ≡ NoMemory) ⊎ ((refusal ≡ SubscribersFull) × (8 ≤ collecting (collects old))))

-- what a load gave, as a reply
abbrev pub next_of : Option ℕ → Next ℕ
next_of (Some value) = Value value
next_of None = Nothing

-- the seat made one load for a collector, which gave this
pub record Loads (before : SeatSeen ℕ) (place : SeatCollector) (reply : Next ℕ) (left : SeatCollector) (after : SeatSeen ℕ) : Type 0 where
  pub given : Option ℕ
  pub replied : reply ≡ next_of given
  pub same_flow : after.flow ≡ before.flow
  pub asked : seats.Asks (λ word. word) before.view place.last given left.last after.view

-- the collector with an index was asked, and nothing else has changed; one that was cancelled, or never was, is closed
abbrev pub NextsAt : Option (Option SeatCollector) → Watch → ℕ → Next ℕ → Watch → Type 0
NextsAt (Some (Some place)) old index reply new = (left : SeatCollector) × Loads old.seat place reply left new.seat × (new.collectors ≡ slice_set old.collectors index (Some left))
NextsAt (Some None) old index reply new = (reply ≡ Closed) × (new ≡ old)
NextsAt None old index reply new = (reply ≡ Closed) × (new ≡ old)

-- the collector with an index ended, where it collects, and nothing else has changed
abbrev pub CancelsAt : Option (Option SeatCollector) → Watch → ℕ → Bool → Watch → Type 0
CancelsAt (Some (Some place)) old index reply new = (reply ≡ true) × (new.seat.flow ≡ old.seat.flow) × seats.Cancels old.seat.view new.seat.view
    × (new.collectors ≡ slice_set old.collectors index None)
CancelsAt (Some None) old index reply new = (reply ≡ false) × (new ≡ old)
CancelsAt None old index reply new = (reply ≡ false) × (new ≡ old)

-- ---- all of them

abbrev pub watching : Readings Watch
watching = record {
  Reads = λ old value new. BySeat (λ before after. seats.Reads before value after × seats.ReadsAlone before value after) old new;
  Collects = Collects;
  Nexts = λ old id reply new. NextsAt (slice_get old.collectors id.0) old id.0 reply new;
  Cancels = λ old id reply new. CancelsAt (slice_get old.collectors id.0) old id.0 reply new;
  Counts = λ old count new. BySeat (λ before after. seats.Counts before count after × (HasAll before → count ≡ collecting (collects old))) old new;
}

abbrev pub setting : Settings Watch
setting = record {
  Sets = λ old value new. BySeat (λ before after. seats.Sets before value after × seats.SetsAlone before value after) old new;
  Compares = λ old expect update held new. BySeat (λ before after. seats.Compares before expect update held after × seats.ComparesAlone before expect update held after) old new;
}

-- WHERE THE SEAT HAS ALL SEATS, what each call answers is a function of the calls before it
pub record ActsAsKept : Type 0 where
  pub reads : (old new : Watch) (value : ℕ) → watching.Reads old value new → Follows (λ kept. (standing kept, kept)) old value new
  pub collects_one : (old new : Watch) (reply : Result SubId Refusal) → watching.Collects old reply new → ((reply ≡ Err NoMemory) × (new ≡ old)) ⊎ Follows collected old reply new
  pub nexts : (old new : Watch) (id : SubId) (reply : Next ℕ) → watching.Nexts old id reply new → Follows (next_value id.0) old reply new
  pub cancels : (old new : Watch) (id : SubId) (reply : Bool) → watching.Cancels old id reply new → Follows (cancelled id.0) old reply new
  pub counts : (old new : Watch) (count : ℕ) → watching.Counts old count new → Follows (λ kept. (collector_count kept, kept)) old count new
  pub sets : (old new : Watch) (value : ℕ) → setting.Sets old value new → Leaves (written value) old new
  pub compares : (old new : Watch) (expect update : ℕ) (held : Bool) → setting.Compares old expect update held new → Follows (compared expect update) old held new
