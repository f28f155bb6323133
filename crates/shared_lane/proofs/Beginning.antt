-- What an emission began with that is handed over.
use Rattle.std.proofs.Common.{◌≡◌, ◌⊎◌, ℕ, ◌+◌, false, true, List, [], ◌∷◌, ◌++◌, length, ap, ◌∙◌, subst, sym, inl}
use Rattle.circular_buffer.specs.Buffer.{keep_last}
use Rattle.shared_lane.specs.Law.{Entry}
use Rattle.flow_terms.specs.declared.policy.Policy.TheVariants.{Suspend}
use Rattle.shared_lane.specs.Views.{SequencerSeen}
use Rattle.shared_lane.specs.Sequencers.{LoadedOrMoved, ByCursors, LookedTwice, HasFreeTicket, HasStood}
use Rattle.shared_lane.specs.Sequencers.{next, seen, accepted_with_ticket}
use Rattle.shared_lane.proofs.Sameness.{moved_twice}

same_next : (q m : SequencerSeen) → LoadedOrMoved q m → next m ≡ next q
same_next q m only = λ i. (only.1 i).first + length (only.2 i)

stood_after : (q u t : SequencerSeen) (e : Entry) → LoadedOrMoved q u → t ≡ accepted_with_ticket e u → HasStood q e t
stood_after q u t e only is = (
  ap (λ (z : SequencerSeen). z.ticket) is ∙ ap (λ (z : SequencerSeen). z.ticket + 1) only.0,
  ap (λ (z : SequencerSeen). z.waiting) is ∙ ap (λ (z : SequencerSeen). z.waiting) only.0,
  ap (λ (z : SequencerSeen). z.standing) is
      ∙ (λ i. (only.0 i).standing ++ record { ticket = (only.0 i).ticket; emitter = e.0; number = same_next q u only i } ∷ []),
  ap seen is ∙ ap (λ (l : List Entry). l ++ e ∷ []) only.2,
  ap (λ (z : SequencerSeen). z.cache) is ∙ ap (λ (z : SequencerSeen). keep_last z.replay (z.cache ++ e.1 ∷ [])) only.0,
  ap (λ (z : SequencerSeen). z.subscription) is ∙ ap (λ (z : SequencerSeen). z.subscription) only.0,
)

-- its value is in its cell, and it stands, as two passes over the cursors have it
pub stands_by : {Y : Type 0} (q m u t : SequencerSeen) (e : Entry) (ticket : ℕ) → m.policy ≡ Suspend → ticket ≡ u.ticket → HasFreeTicket m → q.waiting ≡ [] → q.capacity ≡ 0
    → ByCursors q.capacity q false m → ByCursors 1 m true u → t ≡ accepted_with_ticket e u
    → (q.policy ≡ Suspend) × (ticket ≡ q.ticket) × HasFreeTicket q
    × (((q.waiting ≡ []) × (q.capacity ≡ 0) × HasStood q e t × ((x : SequencerSeen) × LookedTwice true q x × (t ≡ accepted_with_ticket e x))) ⊎ Y)
stands_by q m u t e ticket policy number free none small first second is = let only = moved_twice q m u first.0 second.0 in (
  ap (λ (z : SequencerSeen). z.policy) (sym first.0.0) ∙ policy,
  number ∙ ap (λ (z : SequencerSeen). z.ticket) only.0,
  subst HasFreeTicket first.0.0 free,
  inl (none, small, stood_after q u t e only is, (u, (small, (m, first, second)), is)),
)
