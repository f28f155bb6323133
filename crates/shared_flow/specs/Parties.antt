-- What contracts see of an owner, an emitter and a subscription, and of their answers.
use Rattle.std.specs.Prelude.{suc, pred, ◌≡◌, ◌⊎◌, ⊤, ℕ, ◌+◌, ◌-◌, ◌∷◌, ◌++◌, [], List, map, drop, slice_get, Option, Some, None, Result, Ok, Err}
use Rattle.std.specs.List.{filter_map}
use Rattle.flow_terms.specs.declared.refusal.Refusal.{Refusal}
use Rattle.futures.specs.declared.task.Poll.{Poll}
use Rattle.futures.specs.declared.task.Poll.TheVariants.{Ready, Pending}
use Rattle.shared_lane.specs.Law.{received as received_at}
use Rattle.shared_lane.specs.declared.reader.Taken.{Taken}
use Rattle.shared_lane.specs.declared.reader.Taken.TheVariants.{Value, Nothing, Overtaken}
use Rattle.flow_terms.specs.declared.answers.Withdrawn.{Withdrawn}
use Rattle.flow_terms.specs.declared.answers.Withdrawn.TheVariants as withdrawn
use Rattle.flow_terms.specs.declared.ids.Ticket.{Ticket}
use Rattle.atomic_table.specs.Seated.{TableId}
use Rattle.shared_lane.specs.Views.{ReaderSeen, ReceiptSeen}
use Rattle.shared_rounds.specs.declared.flag.view.FlagLook.{FlagLook}
use Rattle.shared_rounds.specs.declared.round.Emission.{Emission}
use Rattle.shared_rounds.specs.declared.round.Round.{Round}
use Rattle.shared_rounds.specs.Names.{FlowName}
use Rattle.shared_rounds.specs.Reach.{Party, with_taken}
use Rattle.shared_rounds.specs.Rounds.{after_number, IsReceiptFor, IsReceiptOfOne}

-- a fact about what an emission was given that had been accepted when it was given up
abbrev pub IfLeft : {N : Type 0} → Withdrawn N → (N → Type 0) → Type 0
IfLeft (withdrawn.Left n) P = P n
IfLeft withdrawn.Removed P = ⊤
IfLeft withdrawn.Gone P = ⊤

-- an emitter: its flow and its rounds, its id, the ticket of its emission in flight, and the number of its last receipt
pub record Emitting : Type 0 where
  pub party : Party
  pub id : ℕ
  pub ticket : Option Ticket
  pub last : Option ℕ

-- a subscription: its flow and its rounds, its number, what it was given of its prelude and what is left of that, its reader, and its looks
-- at the flag
pub record Subscribed (T : Type 0) : Type 0 where
  pub party : Party
  pub number : ℕ
  pub given : List T
  pub rest : List T
  pub reader : ReaderSeen
  pub looks : List FlagLook

-- the words of the replay cache at the reader's start, and then of all later accepted emissions, as far as it has seen
abbrev pub since_start : ReaderSeen → List ℕ
since_start r = drop (r.start - r.shape.first) (map (λ emission. emission.1) r.seen)

-- the words that the reader received, in order: of those since its start, the ones of which its story says so
abbrev pub words_received : ReaderSeen → List ℕ
words_received r = filter_map (slice_get (since_start r)) (received_at 0 r.story)

-- the values that a subscription received since it began, in order: those that it was given of its prelude, then those of the flow
abbrev pub received : {T : Type 0} → (ℕ → T) → Subscribed T → List T
received read_as s = s.given ++ map read_as (words_received s.reader)

-- the subscription has the same prelude: what it was given of it, and then what is left
abbrev pub IsSamePrelude : {T : Type 0} → Subscribed T → Subscribed T → Type 0
IsSamePrelude old new = new.given ++ new.rest ≡ old.given ++ old.rest

-- the value in an answer, if there is one, as a list
abbrev pub ok_of : {T : Type 0} → Result T Refusal → List T
ok_of (Ok v) = v ∷ []
ok_of (Err refusal) = []

abbrev pub ready_of : {T : Type 0} → Poll T → List T
ready_of (Ready v) = v ∷ []
ready_of Pending = []

abbrev pub taken_of : {T : Type 0} → Taken T → List T
taken_of (Value v) = v ∷ []
taken_of Nothing = []
taken_of Overtaken = []

-- a party that gave half its share of the lock to another
abbrev pub sharing_of : Party → Party
sharing_of p = record p { halved = suc p.halved }

-- a party that took back the half that it gave to another
abbrev pub whole_again : Party → Party
whole_again p = record p { halved = pred p.halved }

-- a party of the same flow, with this number, which has made no call and has seen as much: it has the other half of the share
abbrev pub newcomer_of : ℕ → Party → Party
newcomer_of pass p = record p { pass = pass; halved = suc p.halved; taken = []; rounds = [] }

-- a party that took in another for good, with its rounds and its share
abbrev pub taking_of : Party → Party → Party
taking_of other p = record p { taken = with_taken other p.taken }

-- a fact about the flow that a party knows
abbrev pub OfFlow : Party → (FlowName → Type 0) → Type 0
OfFlow p F = (name : FlowName) → p.flow ≡ Some name → F name

-- some of these rounds answered with the number n
abbrev pub Answers : ℕ → List Round → Type 0
Answers n [] = ⊥
Answers n (r ∷ rs) = (after_number r ≡ n + 1) ⊎ Answers n rs

-- the last number, if there is one, is what some of these rounds answered with
abbrev pub WasAnswered : Option ℕ → List Round → Type 0
WasAnswered None rounds = ⊤
WasAnswered (Some n) rounds = Answers n rounds

-- of an emission that had not been accepted when it was given up, or whose ticket was not out
abbrev pub UnlessLeft : {N : Type 0} → Withdrawn N → Type 0 → Type 0
UnlessLeft (withdrawn.Left n) P = ⊤
UnlessLeft withdrawn.Removed P = P
UnlessLeft withdrawn.Gone P = P

-- what a caller is told of a withdrawal without a receipt
abbrev pub without_receipt : {N : Type 0} → Withdrawn ℕ → Withdrawn N
without_receipt (withdrawn.Left n) = withdrawn.Gone
without_receipt withdrawn.Removed = withdrawn.Removed
without_receipt withdrawn.Gone = withdrawn.Gone

-- which lock and which flow a party is at
pub record PartyName : Type 0 where
  pub lock : TableId
  pub flow : Option FlowName

abbrev pub named : Party → PartyName
named p = record { lock = p.lock; flow = p.flow }

-- it is the same emitter, at the same flow
abbrev pub IsSameEmitter : Emitting → Emitting → Type 0
IsSameEmitter old new = (named new.party ≡ named old.party) × (new.id ≡ old.id)

-- the receipt is for this emission, and of the flow that the party knows
abbrev pub IsItsReceipt : Party → Emission → ReceiptSeen → Type 0
IsItsReceipt p e r = (r.emitter ≡ e.emitter) × OfFlow p (λ name. IsReceiptFor name.lane e r)

-- the receipt is for an emission of this emitter, and of the flow that the party knows
abbrev pub IsOwnReceipt : Party → ℕ → ReceiptSeen → Type 0
IsOwnReceipt p id r = (r.emitter ≡ id) × OfFlow p (λ name. IsReceiptOfOne name.lane id r)
