-- Subscriber places, receipts and meetings.
use Rattle.std.specs.Prelude.{◌≡◌, ◌≢◌, ℕ, ◌+◌, ◌<◌, ◌≤◌, List, [], ◌∷◌, ◌++◌, length, slice_index, true, false}
use mathlib.Core.Option.{some}
use lib.ListN.{get_elem?}
use Rattle.flow_terms.specs.declared.refusal.Refusal.{Refusal}
use Rattle.flow_terms.specs.declared.refusal.Refusal.TheVariants.{SubscribersFull, Spent}
use Rattle.shared_lane.specs.Law.{closed}
use Rattle.shared_lane.specs.Steps.{place_over}
use Rattle.shared_lane.specs.Headline.{StartsAtCache}
use Rattle.shared_lane.specs.Views.{LaneSeen, ReaderSeen, SequencerSeen}
use Rattle.shared_lane.specs.Surveys.{WholePass, FoundAt, FoundAllOpen, LosesNone, cursor_loads, open_count, opening_at, lost_at, may_be_open}
use Rattle.shared_lane.specs.Readers.{IsReaderOf}
use Rattle.shared_lane.specs.Sequencers.{seen, OnlyLoaded}

-- every cursor was found, and this many were open
abbrev pub Counted : SequencerSeen → ℕ → SequencerSeen → Type 0
Counted q count t = (ns : List ℕ) × (length ns ≡ q.view.shape.places) × WholePass FoundAt q.view ns t.view × (count ≡ open_count ns)

-- what the sequencer moved past at a place, since it was opened last
abbrev pub lost_by : SequencerSeen → ℕ → List ℕ
lost_by q p = lost_at q.view p

-- the number of the last opening of a place
abbrev pub opening_of : SequencerSeen → ℕ → ℕ
opening_of q p = opening_at q.view p

-- the reader was admitted as the subscription with this number: its place was opened for that, and the opening's number is one more
abbrev pub IsOfSubscription : ℕ → ReaderSeen → Type 0
IsOfSubscription number r = r.opening ≡ number + 1

-- the sequencer heard that this reader has closed its cursor
abbrev pub told_of_end : ReaderSeen → SequencerSeen → SequencerSeen
told_of_end r q = record q { view = record q.view { sequencing = place_over r.place r.opening q.view.sequencing } }

-- the sequencer knows that this reader has ended: its place is known to be closed, unless it was opened again since
abbrev pub KnowsEndOf : SequencerSeen → ReaderSeen → Type 0
KnowsEndOf q r = (r.place < q.view.shape.places) × (opening_of q r.place ≡ r.opening → may_be_open q.view r.place ≡ false)

-- A reader was admitted: it has seen all that was accepted, its position is the oldest value of the cache, and it has received
-- nothing. Its place is the first whose cursor was found closed, by loads of this call, and none before it was known to be closed.
pub record Admitted (lane : LaneSeen) (q : SequencerSeen) (r : ReaderSeen) (t : SequencerSeen) : Type 0 where
  pub of_lane : IsReaderOf lane r
  pub has_seen_all : r.seen ≡ seen q
  pub begins : StartsAtCache q.cache r
  pub found_closed : (ns : List ℕ) × (r.place ≡ length ns) × (t.view.loads ≡ q.view.loads ++ cursor_loads 0 (ns ++ closed ∷ []))
      × ((p : ℕ) → p < length ns → slice_index ns p ≢ closed)
  pub none_before : (p : ℕ) → p < r.place → may_be_open q.view p ≡ true
  -- its place was opened once more, by an opening of the next subscription's number, and it is the reader of this opening
  pub opened : IsOfSubscription q.subscription r × (opening_of t r.place ≡ r.opening) × (opening_of q r.place < r.opening)
  pub others : (p : ℕ) → p ≢ r.place → opening_of t p ≡ opening_of q p
  -- what was dropped for others stays, and nothing was dropped for it yet
  pub keeps : (p : ℕ) → p ≢ r.place → lost_by t p ≡ lost_by q p
  pub none_lost : lost_by t r.place ≡ []
  pub unspent : q.subscription < 4611686018427387904
  pub counted : t ≡ record q { view = t.view; subscription = q.subscription + 1 }
  pub same_shape : t.view.shape ≡ q.view.shape
  pub same_log : seen t ≡ seen q

abbrev pub NotAdmitted : SequencerSeen → Refusal → SequencerSeen → Type 0
NotAdmitted q Spent t = (q.subscription ≡ 4611686018427387904) × (t ≡ q)
NotAdmitted q SubscribersFull t = (q.subscription ≢ 4611686018427387904) × FoundAllOpen q.view.shape.places q.view t.view × OnlyLoaded q t
NotAdmitted _ _ _ = ⊥

-- A reader whose end the sequencer knows, and whose place wasn't opened again since: `live` counts it no more, and `admit` finds its
-- place closed, so that it admits the next reader there, or at a place before it.
abbrev pub EndedReaderIsCountedNoMore : Type 0
EndedReaderIsCountedNoMore =
    (lane : LaneSeen) (q : SequencerSeen) (r : ReaderSeen) → KnowsEndOf q r → opening_of q r.place ≡ r.opening
    → ((count : ℕ) (t : SequencerSeen) → Counted q count t → count < q.view.shape.places)
    × ((s : ReaderSeen) (t : SequencerSeen) → Admitted lane q s t → s.place ≤ r.place)
    × ((t : SequencerSeen) → NotAdmitted q SubscribersFull t → ⊥)

-- the emission with this number was accepted, and was this emitter's
abbrev pub IsAccepted : SequencerSeen → ℕ → ℕ → Type 0
IsAccepted q emitter number = (i : ℕ) × (w : ℕ) × (number ≡ q.view.shape.first + i) × (get_elem? (seen q) i ≡ some (emitter, w))

-- no place lost a value by the call
abbrev pub LosesNothing : SequencerSeen → SequencerSeen → Type 0
LosesNothing q t = LosesNone q.view t.view
