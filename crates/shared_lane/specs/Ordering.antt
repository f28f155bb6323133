-- In which order tickets are out, by which the sequencer finds them.
use Rattle.std.specs.Prelude.{◌≡◌, ◌⊎◌, ℕ, ◌<◌, List, Option, Some, None, slice_get, false, ⊤}
use Rattle.flow_terms.specs.declared.ids.Ticket.{Ticket}
use Rattle.shared_core.specs.Rising.{Rises}
use Rattle.shared_lane.specs.Polls.{IsOutFor, WaitsWith, stands_below}
use Rattle.shared_lane.specs.Sequencers.{next}
use Rattle.shared_lane.specs.Views.{SequencerSeen}
use Rattle.shared_lane.specs.declared.tickets.Waiting.{Waiting}
use Rattle.shared_lane.specs.declared.tickets.Standing.{Standing}

-- The tickets of those that stand rise, and after them those of the ones that wait, below the next ticket. The numbers of those that
-- stand rise with them, below the next number.
pub record IsInOrder (standing : List Standing) (waiting : List Waiting) (ticket next : ℕ) : Type 0 where
  pub tickets_stand : Rises (λ (s : Standing). s.ticket) standing
  pub numbers_stand : Rises (λ (s : Standing). s.number) standing
  pub tickets_wait : Rises (λ (w : Waiting). w.ticket) waiting
  pub behind : (i j : ℕ) (s : Standing) (w : Waiting) → slice_get standing i ≡ Some s → slice_get waiting j ≡ Some w → s.ticket < w.ticket
  pub stand_below : (i : ℕ) (s : Standing) → slice_get standing i ≡ Some s → (s.ticket < ticket) × (s.number < next)
  pub wait_below : (j : ℕ) (w : Waiting) → slice_get waiting j ≡ Some w → w.ticket < ticket

-- a ticket, and a number, above those that stand and below the ones that wait
abbrev pub StandsLast : SequencerSeen → ℕ → ℕ → Type 0
StandsLast q ticket number = ((i : ℕ) (s : Standing) → slice_get q.standing i ≡ Some s → (s.ticket < ticket) × (s.number < number))
    × ((j : ℕ) (w : Waiting) → slice_get q.waiting j ≡ Some w → ticket < w.ticket) × (ticket < q.ticket)

-- the ticket is out: it stands, or it waits
abbrev pub IsOut : SequencerSeen → ℕ → Type 0
IsOut q ticket = ((i : ℕ) × (s : Standing) × (slice_get q.standing i ≡ Some s) × (s.ticket ≡ ticket))
    ⊎ ((i : ℕ) × (w : Waiting) × WaitsWith q ticket i w)

-- the emission with this ticket isn't finished, where each accepted one below the number is
abbrev pub IsUnfinishedAt : SequencerSeen → ℕ → ℕ → Type 0
IsUnfinishedAt q below ticket = (stands_below q.standing ticket below ≡ false) × ((emitter : ℕ) × IsOutFor q ticket emitter)

-- a ticket is below another, or there is no other
abbrev pub IsBefore : ℕ → Option Ticket → Type 0
IsBefore ticket None = ⊤
IsBefore ticket (Some first) = ticket < first.0

-- no emission before this ticket is unfinished, and from it on each is whose ticket is out
pub record FirstUnfinished (q : SequencerSeen) (below : ℕ) (first : Option Ticket) : Type 0 where
  pub none_before : (ticket : ℕ) → IsBefore ticket first → IsUnfinishedAt q below ticket → ⊥
  pub each_after : (ticket : ℕ) → (IsBefore ticket first → ⊥) → IsOut q ticket → IsUnfinishedAt q below ticket
