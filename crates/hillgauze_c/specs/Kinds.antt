-- What an object is, by its kind, and what a call on a handle does to the object in it.
use Rattle.std.specs.Prelude.{◌≡◌, ℕ, Option, Some, None}
use Rattle.shared_core.specs.Shown.{Seen}
use Rattle.shared_lane.specs.Views.{SequencerSeen, ReaderSeen}
use Rattle.hillgauze_c.specs.declared.object.Object.{Object}
use Rattle.hillgauze_c.specs.declared.object.Object.TheVariants.{Shared, Sequencer, Reader, Seat, Collector}
use Rattle.hillgauze_c.specs.declared.parties.seating.Seating.{Seating}
use Rattle.hillgauze_c.specs.declared.parties.collecting.Collecting.{Collecting}
use Rattle.hillgauze_c.specs.declared.reply.Reply.{Reply}
use Rattle.hillgauze_c.specs.Replies.{refused_as, answered}

abbrev pub shared_of : Object → Option (Seen ℕ)
shared_of (Shared flow) = Some flow
shared_of _ = None

abbrev pub sequencer_of : Object → Option SequencerSeen
sequencer_of (Sequencer sequencer) = Some sequencer
sequencer_of _ = None

abbrev pub reader_of : Object → Option ReaderSeen
reader_of (Reader reader) = Some reader
reader_of _ = None

abbrev pub seat_of : Object → Option Seating
seat_of (Seat seating) = Some seating
seat_of _ = None

abbrev pub collector_of : Object → Option Collecting
collector_of (Collector collecting) = Some collecting
collector_of _ = None

-- the handle has an object
abbrev pub IsTaken : Option Object → Type 0
IsTaken None = ⊥
IsTaken (Some object) = Unit {0}

-- the library's call gave the answer of which this is the reply
abbrev pub Told : {X R : Type 0} → (R → Reply) → (X → R → X → Type 0) → X → Reply → X → Type 0
Told {R = R} told Call old reply new = (answer : R) × (reply ≡ told answer) × Call old answer new

-- what a call does that finds an object, or none: `part` is the kind that it wants, and `whole` makes an object of it
module _ {X : Type 0} (part : Object → Option X) (whole : X → Object) (Call : X → Reply → X → Type 0) where
  abbrev pub OnPart : Object → Option X → Reply → Option Object → Type 0
  OnPart object None reply after = (reply ≡ refused_as 102) × (after ≡ Some object)
  OnPart object (Some x) reply after = (y : X) × (after ≡ Some (whole y)) × Call x reply y

  abbrev pub OnHandle : Option Object → Reply → Option Object → Type 0
  OnHandle None reply after = (reply ≡ refused_as 101) × (after ≡ None)
  OnHandle (Some object) reply after = OnPart object (part object) reply after

-- the object was freed, where it is of this kind
module _ {X : Type 0} (part : Object → Option X) where
  abbrev pub IsFreedPart : Object → Option X → Reply → Option Object → Type 0
  IsFreedPart object None reply after = (reply ≡ refused_as 102) × (after ≡ Some object)
  IsFreedPart object (Some x) reply after = (reply ≡ answered 1 0) × (after ≡ None)

  abbrev pub IsFreed : Option Object → Reply → Option Object → Type 0
  IsFreed None reply after = (reply ≡ refused_as 101) × (after ≡ None)
  IsFreed (Some object) reply after = IsFreedPart object (part object) reply after
