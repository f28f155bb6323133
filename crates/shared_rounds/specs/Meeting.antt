-- A look of a reader at the lane, and what a reader and the sequencer know of each other once they met.
use Rattle.std.specs.Prelude.{◌≡◌, ◌+◌, ◌≤◌, ℕ, length}
use Rattle.shared_lane.specs.Law.{lost}
use Rattle.shared_lane.specs.declared.reader.Met.{Met}
use Rattle.shared_lane.specs.Views.{ReaderSeen, SequencerSeen}
use Rattle.shared_lane.specs.declared.reader.Taken.{Taken}
use Rattle.shared_lane.specs.Readers.{IsSameReader, TookNext, WentTo, at, received_count, lost_count}
use Rattle.shared_lane.specs.Sequencers.{OnlyLoaded, seen, next}
use Rattle.shared_lane.specs.Places.{LosesNothing, lost_by}
use Rattle.shared_rounds.specs.Names.{SharedSeen}
use Rattle.shared_rounds.specs.Waking.{SleepOn}

-- Both know what the lane was made with. The reader has seen all that was accepted, and all that it lost; and the counts are those from
-- its start on.
pub record HasMet (q : SequencerSeen) (r t : ReaderSeen) (met : Met) : Type 0 where
  pub same : IsSameReader r t
  pub same_shape : t.shape ≡ q.view.shape
  pub went : WentTo (at t) r t
  pub has_seen_all : t.seen ≡ seen q
  pub knows_lost : lost t.start t.story ≡ lost_by q t.place
  pub accepted : t.start + met.accepted ≡ next q
  pub has_seen_so_far : at t ≤ t.shape.first + length t.seen
  pub received : met.received ≡ received_count t
  pub dropped : met.dropped ≡ lost_count t

-- nothing has changed but what the sequencer has loaded, and nobody has lost a value
abbrev pub OnlyMet : SharedSeen → SharedSeen → Type 0
OnlyMet s t = (t.name ≡ s.name) × OnlyLoaded s.sequencer t.sequencer × LosesNothing s.sequencer t.sequencer × SleepOn s t × (t.flag ≡ s.flag)

-- a look at the lane: it is the same reader, which took the next value, or why it took none
abbrev pub Looked : ReaderSeen → Taken ℕ → ReaderSeen → Type 0
Looked r taken t = IsSameReader r t × TookNext r taken t
