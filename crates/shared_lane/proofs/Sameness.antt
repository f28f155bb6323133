-- It stays the same sequencer.
use Rattle.std.proofs.Common.{ap, ◌∙◌}
use Rattle.atomic_table.specs.Seated.{TableId}
use Rattle.shared_lane.specs.declared.view.View.{View}
use Rattle.shared_lane.specs.Views.{SequencerSeen}
use Rattle.shared_lane.specs.Sequencers.{IsSameSequencer, OnlyLoaded, LoadedOrMoved}

pub same_moved : (q t : SequencerSeen) → LoadedOrMoved q t → IsSameSequencer q t
same_moved q t only = let e = only.0 in (
  ap (λ (z : SequencerSeen). z.table) e,
  only.1,
  ap (λ (z : SequencerSeen). z.policy) e,
  ap (λ (z : SequencerSeen). z.capacity) e,
  ap (λ (z : SequencerSeen). z.replay) e,
  ap (λ (z : SequencerSeen). z.emits) e,
)

pub same_twice : (q m t : SequencerSeen) → IsSameSequencer q m → IsSameSequencer m t → IsSameSequencer q t
same_twice q m t a b = (b.0 ∙ a.0, b.1 ∙ a.1, b.2 ∙ a.2, b.3 ∙ a.3, b.4 ∙ a.4, b.5 ∙ a.5)

pub loaded_twice : (q m t : SequencerSeen) → OnlyLoaded q m → OnlyLoaded m t → OnlyLoaded q t
loaded_twice q m t a b = (b.0 ∙ ap (λ (z : SequencerSeen). record z { view = t.view }) a.0, b.1 ∙ a.1, b.2 ∙ a.2, λ p. b.3 p ∙ a.3 p, λ p. b.4 p ∙ a.4 p)

pub moved_twice : (q m t : SequencerSeen) → LoadedOrMoved q m → LoadedOrMoved m t → LoadedOrMoved q t
moved_twice q m t a b = (b.0 ∙ ap (λ (z : SequencerSeen). record z { view = t.view }) a.0, b.1 ∙ a.1, b.2 ∙ a.2, λ p. b.3 p ∙ a.3 p)

-- what has changed is what its seat shows, and nothing beside it
abbrev pub loaded_as : SequencerSeen → TableId → View → SequencerSeen
loaded_as q table view = record q { table = table; view = view }
