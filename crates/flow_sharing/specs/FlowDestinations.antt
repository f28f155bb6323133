-- What the steps of a sharing do at a shared flow: which rounds its owner and its emitter make.
use Rattle.std.specs.Prelude.{◌≡◌, ◌≢◌, ◌⊎◌, ℕ, Bool, true, false, Option, Some, None, Result, Ok, Err}
use Rattle.flow_terms.specs.declared.policy.Policy.TheVariants.{Suspend}
use Rattle.flow_terms.specs.declared.refusal.Refusal.{Refusal}
use Rattle.flow_terms.specs.declared.refusal.Refusal.TheVariants.{Spent, EmitsFull}
use Rattle.flow_terms.specs.declared.answers.Begun.{Begun}
use Rattle.flow_terms.specs.declared.answers.Begun.TheVariants as begun
use Rattle.flow_terms.specs.declared.answers.Withdrawn.{Withdrawn}
use Rattle.shared_lane.specs.Views.{ReceiptSeen}
use Rattle.shared_rounds.specs.declared.round.Round.{Round}
use Rattle.shared_rounds.specs.declared.round.Round.TheVariants as round
use Rattle.shared_rounds.specs.Entering.{Made}
use Rattle.shared_rounds.specs.Names.{FlowName}
use Rattle.shared_rounds.specs.Reach.{Party}
use Rattle.shared_flow.specs.Owners.{Owning, at_rest}
use Rattle.shared_flow.specs.Parties.{Emitting, IfLeft, newcomer_of}
use Rattle.shared_flow.specs.Emitters.{emission_by, WasStarted, Waits, WasFinished, WasLeft, WasGivenUp}
use Rattle.sharing_upstream.specs.Destinations.{Steps}

-- the place where the values go: the owner of the flow that counts and resets, the emitter, and the value that waits
pub record DestinationSeen (T : Type 0) : Type 0 where
  pub owner : Owning
  pub emitter : Emitting
  pub waiting : Option T

-- the flow lets emissions wait
abbrev pub Suspends : Option FlowName → Type 0
Suspends flow = (name : FlowName) → flow ≡ Some name → name.config.policy ≡ Suspend

-- why an emission is refused
abbrev pub IsEmitRefusal : Refusal → Type 0
IsEmitRefusal refusal = (refusal ≡ Spent) ⊎ (refusal ≡ EmitsFull)

-- an emission in flight was given up, with this answer
abbrev pub WasEndedAs : Emitting → Withdrawn ReceiptSeen → Emitting → Type 0
WasEndedAs e answer f = IfLeft answer (λ receipt. WasLeft e receipt f) × WasGivenUp e answer f

module _ {T : Type 0} where
  -- the owner made this round, and nothing else was done
  abbrev pub OwnerMade : Round → DestinationSeen T → DestinationSeen T → Type 0
  OwnerMade r s t = (t ≡ record s { owner = t.owner }) × (t.owner ≡ at_rest t.owner.party) × Made r s.owner.party t.owner.party

  -- nothing but the emitter and what waits has changed, and this waits now
  abbrev pub EmitterDid : Option T → DestinationSeen T → DestinationSeen T → Type 0
  EmitterDid waiting s t = t ≡ record s { emitter = t.emitter; waiting = waiting }

  -- What was found of the waiting value: it waits still, since a poll had no receipt for its emission; or nothing waits any more, since a
  -- poll found that emission finished, or since none was in flight
  abbrev pub Found : DestinationSeen T → Bool → DestinationSeen T → Type 0
  Found s true t = (s.waiting ≢ None) × EmitterDid s.waiting s t × Waits s.emitter t.emitter
  Found s false t = ((s.waiting ≡ None) × (t ≡ s)) ⊎ (EmitterDid None s t × ((receipt : ReceiptSeen) × WasFinished s.emitter receipt t.emitter))

  -- the emission that waits was given up, or nothing waited
  abbrev pub Withdrew : DestinationSeen T → DestinationSeen T → Type 0
  Withdrew s t = ((s.waiting ≡ None) × (t ≡ s))
      ⊎ ((s.waiting ≢ None) × EmitterDid None s t × ((answer : Withdrawn ReceiptSeen) × WasEndedAs s.emitter answer t.emitter))

  -- an owner and an emitter of this party's flow, with the id 0, which have made no call and have seen as much, and each of which has half
  -- as large a share of the lock as the party; and nothing waits
  pub record IsNewDestination (p : Party) (s : DestinationSeen T) : Type 0 where
    pub owner : s.owner ≡ at_rest (newcomer_of s.owner.party.pass p)
    pub emitter : s.emitter.party ≡ newcomer_of s.emitter.party.pass p
    pub id : s.emitter.id ≡ 0
    pub idle : s.emitter.ticket ≡ None
    pub waiting : s.waiting ≡ None

module _ {T : Type 0} (word : T → ℕ) where
  -- an emission of this value was begun, with this answer
  abbrev pub Began : DestinationSeen T → T → Result (Begun ReceiptSeen (Unit {0})) Refusal → DestinationSeen T → Type 0
  Began s x answer t = WasStarted s.emitter (emission_by s.emitter (word x)) answer t.emitter

  -- Each step is a round of the owner or of the emitter. An emission waits only where the flow lets it
  abbrev pub emitting : Steps T (DestinationSeen T)
  emitting = record {
    Counts = λ s count t. OwnerMade (round.Count count) s t;
    Asks = Found;
    Accepts = λ s x t. EmitterDid None s t × (((receipt : ReceiptSeen) × Began s x (Ok (begun.Accepted receipt)) t) ⊎ Began s x (Ok begun.Dropped) t);
    Delays = λ s x t. EmitterDid (Some x) s t × Began s x (Ok (begun.Waiting tt)) t × Suspends s.emitter.party.flow;
    Refuses = λ s x refusal t. EmitterDid None s t × Began s x (Err refusal) t × IsEmitRefusal refusal;
    Withdraws = Withdrew;
    Resets = OwnerMade round.Reset;
  }
