-- The calls of a script on a flow for threads, with all the parties that were made of it.
use Rattle.std.specs.Prelude.{◌≡◌, ◌⊎◌, ℕ, Option, Some, None, Result, Ok, Err, List, [], ◌∷◌, ◌++◌, length, slice_get, slice_set}
use Rattle.flow_terms.specs.declared.refusal.Refusal.{Refusal}
use Rattle.flow_terms.specs.declared.refusal.Refusal.TheVariants.{NoMemory}
use Rattle.flow_terms.specs.declared.ids.Ticket.{Ticket}
use Rattle.flow_terms.specs.declared.answers.Tried.{Tried}
use Rattle.flow_terms.specs.declared.answers.Begun.{Begun}
use Rattle.flow_terms.specs.declared.answers.Begun.TheVariants as begun
use Rattle.flow_terms.specs.declared.answers.Emit.{Emit}
use Rattle.flow_terms.specs.declared.answers.Emit.TheVariants as emit
use Rattle.flow_terms.specs.declared.answers.Withdrawn.{Withdrawn}
use Rattle.flow_terms.specs.declared.answers.Withdrawn.TheVariants as withdrawn
use Rattle.shared_core.specs.declared.config.Config.{Config}
use Rattle.shared_lane.specs.Views.{ReceiptSeen}
use Rattle.shared_rounds.specs.declared.round.Round.TheVariants as round
use Rattle.shared_flow.specs.Emitters.{emission_by, after_try, WasStarted, WasFinished, Waits, WasLeft, WasGivenUp}
use Rattle.shared_rounds.specs.Entering.{Made}
use Rattle.shared_rounds.specs.Names.{IsMadeWith}
use Rattle.shared_flow.specs.Owners.{Owning, HasMadeNoCall}
use Rattle.shared_rounds.specs.Reach.{Party}
use Rattle.shared_flow.specs.Parties.{Emitting, newcomer_of, sharing_of, whole_again}
use Rattle.shared_rounds.specs.Rounds.{numbers_tried}
use Rattle.script_calls.specs.Calls.{Receipts, Emissions}
use Rattle.script_engines.specs.Beside.{receipts_beside}
use Rattle.script_engines.specs.Places.{AtPlace}
use Rattle.script_engines.specs.Subscribing.{Subscribing, OwnerMade, subscribing}

-- an owner of a flow with its subscriptions, an emitter that has none in flight, one more that may take its place, and an emitter for each
-- emission that had to wait
pub record Parties : Type 0 where
  pub subscriptions : Subscribing
  pub emitter : Emitting
  pub spare : Option Emitting
  pub emissions : List Emitting

-- an emitter that this party has made, with half its share of the lock, and that has made no call
abbrev pub IsNewcomer : Party → Emitting → Type 0
IsNewcomer p e = (e.party ≡ newcomer_of e.party.pass p) × (e.id ≡ 0) × (e.ticket ≡ None)

-- a flow that was made with this config, of which nobody has made a call: there is the owner, and the emitter that it has made
abbrev pub IsUntouched : Config → Parties → Type 0
IsUntouched config it = IsMadeWith config it.subscriptions.flow.party.flow × HasMadeNoCall 1 it.subscriptions.flow × (it.subscriptions.places ≡ [])
    × IsNewcomer (whole_again it.subscriptions.flow.party) it.emitter × (it.spare ≡ None) × (it.emissions ≡ [])

-- the emitter made the round of a try, with this answer, and nobody else made a call
abbrev pub Tries : Parties → ℕ → Result (Tried ℕ) Refusal → Parties → Type 0
Tries old value reply new = (answer : Result (Tried ReceiptSeen) Refusal) × (reply ≡ numbers_tried answer)
    × (new ≡ record old { emitter = after_try old.emitter (emission_by old.emitter value) answer new.emitter.party.seen })
    × Made (round.Try (emission_by old.emitter value) (numbers_tried answer)) old.emitter.party new.emitter.party

-- this emitter was spared before; or the owner has made it now, and gave it half its share of the lock
abbrev pub Spares : Option Emitting → Owning → Emitting → Owning → Type 0
Spares (Some spare) old e new = (e ≡ spare) × (new ≡ old)
Spares None old e new = IsNewcomer old.party e × (new ≡ record old { party = sharing_of old.party })

-- the parties, where the owner is as it is now, and this emitter stands by
abbrev pub with_spare : Parties → Owning → Emitting → Parties
with_spare it flow spare = record it { subscriptions = record it.subscriptions { flow = flow }; spare = Some spare }

-- the number of the receipt in place of the receipt, and a ticket for what has to wait
abbrev pub begun_as : ℕ → Result (Begun ReceiptSeen (Unit {0})) Refusal → Result (Begun ℕ Ticket) Refusal
begun_as place (Ok (begun.Accepted receipt)) = Ok (begun.Accepted receipt.number)
begun_as place (Ok begun.Dropped) = Ok begun.Dropped
begun_as place (Ok (begun.Waiting it)) = Ok (begun.Waiting (record { 0 = place }))
begun_as place (Err refusal) = Err refusal

-- the emitter is as it was left, and the spare one stands by; where its emission has to wait, it is kept for that, and the spare one is in
-- its place
abbrev pub Stays : Parties → Result (Begun ReceiptSeen (Unit {0})) Refusal → Emitting → Emitting → Parties → Type 0
Stays ready (Ok (begun.Accepted receipt)) spare f new = new ≡ record ready { emitter = f }
Stays ready (Ok begun.Dropped) spare f new = new ≡ record ready { emitter = f }
Stays ready (Ok (begun.Waiting it)) spare f new = new ≡ record ready { emitter = spare; spare = None; emissions = ready.emissions ++ f ∷ [] }
Stays ready (Err refusal) spare f new = new ≡ record ready { emitter = f }

-- A spare emitter is there, and the emitter made the round of a start, with this answer; or there was no memory for a spare one, and nobody
-- made a call
abbrev pub Begins : Parties → ℕ → Result (Begun ℕ Ticket) Refusal → Parties → Type 0
Begins old value reply new = ((reply ≡ Err NoMemory) × (new ≡ old))
    ⊎ ((answer : Result (Begun ReceiptSeen (Unit {0})) Refusal) × (f : Emitting) × WasStarted old.emitter (emission_by old.emitter value) answer f
    × (reply ≡ begun_as (length old.emissions) answer)
    × ((spare : Emitting) × Spares old.spare old.subscriptions.flow spare new.subscriptions.flow × Stays (with_spare old new.subscriptions.flow spare) answer spare f new))

-- a poll of an emitter found this
abbrev pub Polled : Emitting → Emit → Emitting → Type 0
Polled e (emit.Done number) f = (receipt : ReceiptSeen) × (number ≡ receipt.number) × WasFinished e receipt f
Polled e emit.Waiting f = Waits e f
Polled e emit.Gone f = (e.ticket ≡ None) × (f ≡ e)

-- an emitter gave up its emission in flight, if it has one
abbrev pub GaveUp : Emitting → Withdrawn ℕ → Emitting → Type 0
GaveUp e (withdrawn.Left number) f = (receipt : ReceiptSeen) × (number ≡ receipt.number) × WasLeft e receipt f
GaveUp e withdrawn.Removed f = (e.ticket ≡ None → ⊥) × WasGivenUp {N = ReceiptSeen} e withdrawn.Removed f
GaveUp e withdrawn.Gone f = (e.ticket ≡ None → f ≡ e) × WasGivenUp {N = ReceiptSeen} e withdrawn.Gone f

-- the parties, where this emitter stands at a place now
abbrev pub with_emission : Parties → ℕ → Emitting → Parties
with_emission it place left = record it { emissions = slice_set it.emissions place left }

abbrev pub receiving : Receipts Parties
receiving = receipts_beside {R = Emitting × Option Emitting × List Emitting} (λ it. it.subscriptions) (λ it. (it.emitter, it.spare, it.emissions)) subscribing

abbrev pub emitting : Emissions Parties
emitting = record {
  Tries = Tries;
  Begins = Begins;
  Polls = λ old ticket reply new. AtPlace Polled emit.Gone (slice_get old.emissions ticket.0) (with_emission old ticket.0) old reply new;
  Withdraws = λ old ticket reply new. AtPlace GaveUp withdrawn.Gone (slice_get old.emissions ticket.0) (with_emission old ticket.0) old reply new;
  -- the owner made the round that emptied the replay cache
  Resets = λ old new. (new ≡ record old { subscriptions = new.subscriptions }) × OwnerMade round.Reset old.subscriptions new.subscriptions;
}
