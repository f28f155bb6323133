-- How an emission stands whose ticket is polled.
use Rattle.std.specs.Prelude.{◌≡◌, ◌≢◌, ◌⊎◌, ℕ, ◌+◌, ◌-◌, ◌<◌, List, [], length, slice_get, Some, Bool, true, false, ◌==◌, ◌&&◌, nat_lt}
use Rattle.std.specs.List.{remove, list_any}
use Rattle.flow_terms.specs.declared.answers.Emit.{Emit}
use Rattle.flow_terms.specs.declared.answers.Emit.TheVariants as emit
use Rattle.flow_terms.specs.declared.answers.Withdrawn.{Withdrawn}
use Rattle.flow_terms.specs.declared.answers.Withdrawn.TheVariants as withdrawn
use Rattle.shared_lane.specs.Views.{SequencerSeen}
use Rattle.shared_lane.specs.declared.tickets.Waiting.{Waiting}
use Rattle.shared_lane.specs.declared.tickets.Standing.{Standing}
use Rattle.shared_lane.specs.Surveys.{WholePass, FoundAt, Behind}
use Rattle.shared_lane.specs.Sequencers.{OnlyLoaded, next, seen}
use Rattle.shared_lane.specs.Places.{IsAccepted}

-- none before the i-th has this ticket
unfoldable pub IsFirst : List Standing → ℕ → ℕ → Type 0
IsFirst l ticket i = (k : ℕ) (z : Standing) → k < i → slice_get l k ≡ Some z → z.ticket ≢ ticket

-- none of those that stand has this ticket, none of those that wait
abbrev pub NoneStands : List Standing → ℕ → Type 0
NoneStands l ticket = (i : ℕ) (s : Standing) → slice_get l i ≡ Some s → s.ticket ≢ ticket

abbrev pub NoneWaits : List Waiting → ℕ → Type 0
NoneWaits l ticket = (i : ℕ) (w : Waiting) → slice_get l i ≡ Some w → w.ticket ≢ ticket

-- the i-th of those that wait has this ticket
abbrev pub WaitsWith : SequencerSeen → ℕ → ℕ → Waiting → Type 0
WaitsWith q ticket i w = (slice_get q.waiting i ≡ Some w) × (w.ticket ≡ ticket)

-- the i-th of those that stand has this ticket
abbrev pub HasTicket : SequencerSeen → ℕ → ℕ → Standing → Type 0
HasTicket q ticket i s = (slice_get q.standing i ≡ Some s) × (s.ticket ≡ ticket) × IsFirst q.standing ticket i

-- the first of the sequencer's standing emissions with this ticket is the i-th
abbrev pub StandsAt : SequencerSeen → ℕ → ℕ → Type 0
StandsAt q ticket i = (i < length q.standing) × ((s : Standing) × HasTicket q ticket i s)

-- the i-th of its waiting emissions has this ticket
abbrev pub WaitsAt : SequencerSeen → ℕ → ℕ → Type 0
WaitsAt q ticket i = (i < length q.waiting) × ((w : Waiting) × WaitsWith q ticket i w)

-- the ticket is out no more
abbrev pub given_back : ℕ → SequencerSeen → SequencerSeen
given_back i q = record q { standing = remove q.standing i }

abbrev pub withdrawn_from : ℕ → SequencerSeen → SequencerSeen
withdrawn_from i q = record q { waiting = remove q.waiting i }

abbrev pub Loaded : SequencerSeen → List ℕ → SequencerSeen → Type 0
Loaded q ns t = (length ns ≡ q.view.shape.places) × WholePass FoundAt q.view ns t.view

abbrev pub PolledOn : SequencerSeen → ℕ → Emit → SequencerSeen → Type 0
-- every cursor was closed or above the number, where there is no buffer
PolledOn q ticket (emit.Done n) t = (i : ℕ) × (s : Standing) × HasTicket q ticket i s
    × (n ≡ s.number) × IsAccepted t s.emitter n × OnlyLoaded (given_back i q) t
    × ((0 < q.capacity) ⊎ ((ns : List ℕ) × Loaded q ns t × Behind n 0 ns false))
PolledOn q ticket emit.Waiting t = OnlyLoaded q t
    × (((i : ℕ) × (w : Waiting) × WaitsWith q ticket i w)
    ⊎ ((i : ℕ) × (s : Standing) × (ns : List ℕ) × HasTicket q ticket i s × (q.capacity ≡ 0) × Loaded q ns t × Behind s.number 0 ns true))
PolledOn q ticket emit.Gone t = (t ≡ q) × NoneWaits q.waiting ticket × NoneStands q.standing ticket

abbrev pub WithdrawnFrom : SequencerSeen → ℕ → Withdrawn ℕ → SequencerSeen → Type 0
WithdrawnFrom q ticket withdrawn.Removed t = (i : ℕ) × (w : Waiting) × WaitsWith q ticket i w × (t ≡ withdrawn_from i q)
WithdrawnFrom q ticket (withdrawn.Left n) t = (i : ℕ) × (s : Standing) × HasTicket q ticket i s
    × (n ≡ s.number) × IsAccepted t s.emitter n × (t ≡ given_back i q)
WithdrawnFrom q ticket withdrawn.Gone t = (t ≡ q) × NoneWaits q.waiting ticket × NoneStands q.standing ticket

-- the ticket is out for an emission of this emitter: it stands, or it waits and none that stands has it
abbrev pub IsOutFor : SequencerSeen → ℕ → ℕ → Type 0
IsOutFor q ticket e = ((i : ℕ) × (w : Waiting) × WaitsWith q ticket i w × (w.emitter ≡ e) × NoneStands q.standing ticket)
    ⊎ ((i : ℕ) × (s : Standing) × HasTicket q ticket i s × (s.emitter ≡ e))

abbrev pub IsNotOut : SequencerSeen → ℕ → Type 0
IsNotOut q ticket = NoneWaits q.waiting ticket × NoneStands q.standing ticket

-- Every emission below the number is finished: where there are places that is each accepted one; where there are none, every
-- cursor, as the call loaded it, is closed or above the last one, or some cursor isn't and the last one is left out
abbrev pub IsFinishedBelow : SequencerSeen → ℕ → SequencerSeen → Type 0
IsFinishedBelow q n t = ((n ≡ next q) × ((0 < q.capacity) ⊎ ((seen q ≡ []) ⊎ ((ns : List ℕ) × Loaded q ns t × Behind (next q - 1) 0 ns false))))
    ⊎ ((n + 1 ≡ next q) × (q.capacity ≡ 0) × ((ns : List ℕ) × Loaded q ns t × Behind n 0 ns true))

-- whether some of those that stand has this ticket, and a number below n
abbrev pub stands_below : List Standing → ℕ → ℕ → Bool
stands_below l ticket n = list_any (λ s. (s.ticket == ticket) && nat_lt s.number n) l
