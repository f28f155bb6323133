-- What a call of the sequencer does.
use Rattle.std.specs.Prelude.{◌≡◌, ◌≢◌, ◌⊎◌, ℕ, suc, map, take, drop, ◌+◌, ◌<◌, ◌≤◌, List, [], ◌∷◌, ◌++◌, length, not, max, Bool, true, false}
use Rattle.circular_buffer.specs.Buffer.{keep_last}
use Rattle.shared_lane.specs.declared.view.Shape.{Shape}
use Rattle.shared_lane.specs.declared.view.View.{View}
use Rattle.flow_terms.specs.Lists.{IsPrefix}
use Rattle.shared_lane.specs.Law.{Entry}
use Rattle.shared_lane.specs.Steps.{next_number}
use Rattle.flow_terms.specs.declared.policy.Policy.{Policy}
use Rattle.flow_terms.specs.declared.policy.Policy.TheVariants.{Suspend, DropOldest, DropLatest}
use Rattle.shared_core.specs.declared.config.Config.{Config}
use Rattle.flow_terms.specs.declared.refusal.Refusal.{Refusal}
use Rattle.flow_terms.specs.declared.refusal.Refusal.TheVariants.{Spent, EmitsFull}
use Rattle.flow_terms.specs.declared.answers.Begun.{Begun}
use Rattle.flow_terms.specs.declared.answers.Begun.TheVariants as begun
use Rattle.flow_terms.specs.declared.answers.Tried.{Tried}
use Rattle.flow_terms.specs.declared.answers.Tried.TheVariants.{Accepted, Dropped, Full}
use Rattle.flow_terms.specs.declared.ids.Ticket.{Ticket}
use Rattle.shared_lane.specs.Caches.{drops_values}
use Rattle.shared_lane.specs.Views.{LaneSeen, SequencerSeen}
use Rattle.shared_lane.specs.declared.tickets.Waiting.{Waiting}
use Rattle.shared_lane.specs.declared.tickets.Standing.{Standing}
use Rattle.shared_lane.specs.Surveys.{WholePass, FoundAt, Cleared, Behind, OpensNone, LosesNone}

-- what the lane of a flow with this config is made with
abbrev pub shape_of : Config → Shape
shape_of config = record { first = config.first; places = config.subscribers; cells = max (config.replay + config.extra) 1; drops = drops_values config.policy }

abbrev pub entry_of : Waiting → Entry
entry_of w = (w.emitter, w.word)

-- these stand from the number n on
abbrev pub stood : ℕ → List Waiting → List Standing
stood n [] = []
stood n (w ∷ ws) = record { ticket = w.ticket; emitter = w.emitter; number = n } ∷ stood (suc n) ws

-- the cache, after these were accepted
abbrev pub cached : ℕ → List ℕ → List Waiting → List ℕ
cached r ws [] = ws
cached r ws (e ∷ es) = cached r (keep_last r (ws ++ e.word ∷ [])) es

-- it is the sequencer of this lane
abbrev pub IsSequencerOf : LaneSeen → SequencerSeen → Type 0
IsSequencerOf lane q = (q.table ≡ lane.table) × (q.view.shape ≡ lane.shape)

-- all accepted emissions
abbrev pub seen : SequencerSeen → List Entry
seen q = q.view.seen

-- the number of the next one
abbrev pub next : SequencerSeen → ℕ
next q = next_number q.view

abbrev pub IsSameTickets : SequencerSeen → SequencerSeen → Type 0
IsSameTickets q t = (t.waiting ≡ q.waiting) × (t.standing ≡ q.standing) × (t.ticket ≡ q.ticket)

-- it is the same sequencer, of the same flow
abbrev pub IsSameSequencer : SequencerSeen → SequencerSeen → Type 0
IsSameSequencer q t = (t.table ≡ q.table) × (t.view.shape ≡ q.view.shape)
    × (t.policy ≡ q.policy) × (t.capacity ≡ q.capacity) × (t.replay ≡ q.replay) × (t.emits ≡ q.emits)

-- Nothing changed but what it has loaded, and what it knows of the places by that: no place was opened, and none lost a value. So it is of
-- each look at the cursors.
abbrev pub OnlyLoaded : SequencerSeen → SequencerSeen → Type 0
OnlyLoaded q t = (t ≡ record q { view = t.view }) × (t.view.shape ≡ q.view.shape) × (t.view.seen ≡ q.view.seen) × OpensNone q.view t.view × LosesNone q.view t.view

-- the same of a pass for an acceptance, which may move cursors on, past values that are lost by that
abbrev pub LoadedOrMoved : SequencerSeen → SequencerSeen → Type 0
LoadedOrMoved q t = (t ≡ record q { view = t.view }) × (t.view.shape ≡ q.view.shape) × (t.view.seen ≡ q.view.seen) × OpensNone q.view t.view

-- one pass over the cursors, which found room or not
abbrev pub PassedBy : Policy → ℕ → SequencerSeen → Bool → View → Type 0
PassedBy DropOldest lag q room v = (room ≡ true)
    × ((ns : List ℕ) × (length ns ≡ q.view.shape.places) × WholePass (Cleared (next q) q.view.shape.cells) q.view ns v)
PassedBy Suspend lag q room v = (ns : List ℕ) × (length ns ≡ q.view.shape.places) × WholePass FoundAt q.view ns v × Behind (next q) lag ns (not room)
PassedBy DropLatest lag q room v = (ns : List ℕ) × (length ns ≡ q.view.shape.places) × WholePass FoundAt q.view ns v × Behind (next q) lag ns (not room)

abbrev pub Passed : ℕ → SequencerSeen → Bool → SequencerSeen → Type 0
Passed lag q room t = PassedBy q.policy lag q room t.view

-- From q to t every cursor was found, by one pass and no other, and by what it found there was room or not. Each answer that tells of
-- room says so by this: the loads that t has and q hasn't are those of the pass.
abbrev pub ByCursors : ℕ → SequencerSeen → Bool → SequencerSeen → Type 0
ByCursors lag q room t = LoadedOrMoved q t × Passed lag q room t

-- the first k waiting emissions were accepted, in their order
pub record AcceptedWaiting (k : ℕ) (q t : SequencerSeen) : Type 0 where
  pub few : k ≤ length q.waiting
  pub accepted : seen t ≡ seen q ++ map entry_of (take k q.waiting)
  pub waiting_is : t.waiting ≡ drop k q.waiting
  pub standing_is : t.standing ≡ q.standing ++ stood (next q) (take k q.waiting)
  pub ticket : t.ticket ≡ q.ticket
  pub subscription : t.subscription ≡ q.subscription
  pub cache_is : t.cache ≡ cached q.replay q.cache (take k q.waiting)
  pub later : IsPrefix q.view.loads t.view.loads
  pub none_opened : OpensNone q.view t.view
  pub none_lost : LosesNone q.view t.view
  -- where nothing waited nothing was done
  pub quiet : q.waiting ≡ [] → t ≡ q

-- since q, and last, a pass over the cursors found one that stood as far behind as there are cells
abbrev pub IsStuck : SequencerSeen → SequencerSeen → Type 0
IsStuck q t = (m : SequencerSeen) × IsPrefix q.view.loads m.view.loads × ByCursors t.view.shape.cells m false t

-- the call first accepted waiting emissions, as many as it could, and `then` says what it did after that
abbrev pub AfterScan : SequencerSeen → (SequencerSeen → Type 0) → Type 0
AfterScan q then = (m : SequencerSeen) × (k : ℕ) × IsSameSequencer q m × AcceptedWaiting k q m × (m.waiting ≢ [] → IsStuck q m) × then m

-- the emission is the last of those accepted, and in the cache
abbrev pub accepted_on : Entry → SequencerSeen → SequencerSeen
accepted_on e q = record q {
  view = record q.view { seen = q.view.seen ++ e ∷ [] };
  cache = keep_last q.replay (q.cache ++ e.1 ∷ []);
}

-- the emission was accepted, after a pass over the cursors that found room
abbrev pub AcceptedOn : SequencerSeen → Entry → ℕ → SequencerSeen → Type 0
AcceptedOn q e n t = (q.waiting ≡ []) × (n ≡ next q) × (seen t ≡ seen q ++ e ∷ [])
    × (t.cache ≡ keep_last q.replay (q.cache ++ e.1 ∷ [])) × IsSameTickets q t × (t.subscription ≡ q.subscription)
    × ((m : SequencerSeen) × ByCursors q.capacity q true m × (t ≡ accepted_on e m))

-- an accepted emission's ticket is out
abbrev pub stood_on : ℕ → ℕ → ℕ → SequencerSeen → SequencerSeen
stood_on ticket emitter number q = record q { standing = q.standing ++ record { ticket = ticket; emitter = emitter; number = number } ∷ [] }

-- the emission was accepted, and stands with the next ticket
abbrev pub accepted_with_ticket : Entry → SequencerSeen → SequencerSeen
accepted_with_ticket e q = stood_on q.ticket e.0 (next q) (record (accepted_on e q) { ticket = q.ticket + 1 })

-- there was no room: an emission waits, or a pass over the cursors found none
abbrev pub FoundNoRoom : SequencerSeen → SequencerSeen → Type 0
FoundNoRoom q t = ((q.waiting ≢ []) × (t ≡ q)) ⊎ ByCursors q.capacity q false t

-- an attempt to emit: what is answered, by cursors that were loaded in the call
abbrev pub TriedOn : SequencerSeen → Entry → Tried ℕ → SequencerSeen → Type 0
TriedOn q e (Accepted n) t = AcceptedOn q e n t
TriedOn q e Dropped t = (q.policy ≡ DropLatest) × ByCursors q.capacity q false t
TriedOn q e Full t = (q.policy ≡ Suspend) × FoundNoRoom q t

-- a number is left for one more emission, and for one more ticket
abbrev pub HasNumber : SequencerSeen → Type 0
HasNumber q = next q + length q.waiting < 4611686018427387904

abbrev pub HasTicketNumber : SequencerSeen → Type 0
HasTicketNumber q = q.ticket < 4611686018427387904

-- fewer tickets are out than may be
abbrev pub HasFreeTicket : SequencerSeen → Type 0
HasFreeTicket q = length q.waiting + length q.standing < q.emits

abbrev pub RefusedTry : SequencerSeen → Refusal → SequencerSeen → Type 0
RefusedTry q e t = (e ≡ Spent) × (next q + length q.waiting ≡ 4611686018427387904) × (t ≡ q)

-- the emission waits, with the next ticket, behind those that wait already
abbrev pub waited : Entry → SequencerSeen → SequencerSeen
waited e q = record q { waiting = q.waiting ++ record { ticket = q.ticket; emitter = e.0; word = e.1 } ∷ []; ticket = q.ticket + 1 }

-- the emission was accepted, and its ticket stands at its number
abbrev pub HasStood : SequencerSeen → Entry → SequencerSeen → Type 0
HasStood q e t = (t.ticket ≡ q.ticket + 1) × (t.waiting ≡ q.waiting)
    × (t.standing ≡ q.standing ++ record { ticket = q.ticket; emitter = e.0; number = next q } ∷ [])
    × (seen t ≡ seen q ++ e ∷ []) × (t.cache ≡ keep_last q.replay (q.cache ++ e.1 ∷ [])) × (t.subscription ≡ q.subscription)

-- Where there is no buffer: a first pass found an open cursor, and a second one, right after it, found the one cell free or not.
abbrev pub LookedTwice : Bool → SequencerSeen → SequencerSeen → Type 0
LookedTwice free q t = (q.capacity ≡ 0) × ((m : SequencerSeen) × ByCursors q.capacity q false m × ByCursors 1 m free t)

-- the cursors were loaded, and one of them stood in the way of the emission
abbrev pub FoundInTheWay : SequencerSeen → SequencerSeen → Type 0
FoundInTheWay q t = ((0 < q.capacity) × ByCursors q.capacity q false t) ⊎ LookedTwice false q t

-- the emission waits, behind another one or for a cursor
abbrev pub WaitsOn : SequencerSeen → Entry → SequencerSeen → Type 0
WaitsOn q e t = ((q.waiting ≢ []) × (t ≡ waited e q)) ⊎ ((m : SequencerSeen) × FoundInTheWay q m × (t ≡ waited e m))

-- the start of an emission
abbrev pub BegunOn : SequencerSeen → Entry → Begun ℕ Ticket → SequencerSeen → Type 0
BegunOn q e (begun.Accepted n) t = AcceptedOn q e n t
BegunOn q e begun.Dropped t = (q.policy ≡ DropLatest) × ByCursors q.capacity q false t
-- the value is in its cell already, and some cursor was open; else the emission waits
BegunOn q e (begun.Waiting ticket) t = (q.policy ≡ Suspend) × (ticket.0 ≡ q.ticket) × HasFreeTicket q
    × (((q.waiting ≡ []) × (q.capacity ≡ 0) × HasStood q e t × ((m : SequencerSeen) × LookedTwice true q m × (t ≡ accepted_with_ticket e m)))
    ⊎ ((t ≡ record (waited e q) { view = t.view }) × (seen t ≡ seen q) × WaitsOn q e t))

-- the same, where a number and a ticket are left, after waiting emissions were accepted
abbrev pub BegunAfterScan : SequencerSeen → Entry → Begun ℕ Ticket → SequencerSeen → Type 0
BegunAfterScan q e b t = AfterScan q (λ m. HasNumber m × HasTicketNumber m × BegunOn m e b t)

abbrev pub RefusedStart : SequencerSeen → Refusal → SequencerSeen → Type 0
RefusedStart q Spent t = ((next q + length q.waiting ≡ 4611686018427387904) ⊎ (q.ticket ≡ 4611686018427387904)) × (t ≡ q)
RefusedStart q EmitsFull t = HasNumber q × HasTicketNumber q × (length q.waiting + length q.standing ≡ q.emits) × FoundNoRoom q t
RefusedStart _ _ _ = ⊥

-- nothing was accepted, and no place was opened
abbrev pub IsFresh : Config → SequencerSeen → Type 0
IsFresh config q = (seen q ≡ []) × (q.cache ≡ []) × (q.view.shape ≡ shape_of config) × (q.policy ≡ config.policy)
    × (q.capacity ≡ config.replay + config.extra) × (q.replay ≡ config.replay) × (q.emits ≡ config.emits)
    × (q.waiting ≡ []) × (q.standing ≡ []) × (q.ticket ≡ config.first) × (q.subscription ≡ config.first)
