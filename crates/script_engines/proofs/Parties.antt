-- The parties of a flow for threads, as they are made.
use Rattle.std.proofs.Common.{◌≡◌, ℕ, suc, false, List, [], Option, Some, None, is_some, refl, sym, ap, subst, ◌∙◌, ◌<◌, ◌≤◌, true, arith}
use Rattle.shared_core.specs.declared.config.Config.{Config}
use Rattle.shared_rounds.specs.Names.{FlowName, IsMadeWith}
use Rattle.shared_flow.specs.Owners.{Owning, HasMadeNoCall, at_rest}
use Rattle.shared_flow.specs.Parties.{Emitting, Subscribed, newcomer_of, sharing_of, whole_again}
use Rattle.script_engines.specs.Parties.{IsNewcomer, IsUntouched, Parties}
use Rattle.script_engines.specs.Subscribing.{Subscribing}

-- an owner that has made no call, and gave half its share of the lock to another
gave_half : (flow shared : Owning) → HasMadeNoCall 0 flow → shared ≡ record flow { party = sharing_of flow.party } → HasMadeNoCall 1 shared
gave_half flow shared (rests, no_rounds, whole) is = (
  is ∙ ap (λ (o : Owning). record o { party = sharing_of flow.party }) rests ∙ ap at_rest (sym (ap (λ (o : Owning). o.party) is)),
  ap (λ (o : Owning). o.party.rounds) is ∙ no_rounds,
  ap (λ (o : Owning). o.party.halved) is ∙ ap suc whole,
)

-- the parties of a flow, where its owner has made an emitter and nothing else
pub untouched : (config : Config) (flow : Owning) (it : Parties) → IsMadeWith config flow.party.flow → HasMadeNoCall 0 flow
    → it.subscriptions.flow ≡ record flow { party = sharing_of flow.party } → it.subscriptions.places ≡ [] → IsNewcomer flow.party it.emitter
    → it.spare ≡ None → it.emissions ≡ [] → IsUntouched config it
untouched config flow it made no_call half no_places newcomer no_spare no_emissions = (
  subst (λ (known : Option FlowName). IsMadeWith config known) (sym (ap (λ (o : Owning). o.party.flow) half)) made,
  gave_half flow it.subscriptions.flow no_call half,
  no_places,
  (newcomer.0 ∙ ap (λ (o : Owning). newcomer_of it.emitter.party.pass (whole_again o.party)) (sym half), newcomer.1, newcomer.2),
  no_spare,
  no_emissions,
)

-- the spare emitter and the emissions are those of these parties
pub with_equal : (it : Parties) (spare : Option Emitting) (emissions : List Emitting) → spare ≡ it.spare → emissions ≡ it.emissions
    → record it { spare = spare; emissions = emissions } ≡ it
with_equal it spare emissions one other = rw (one, other) refl

pub is_none : {A : Type 0} (o : Option A) → false ≡ is_some o → o ≡ None
is_none None none = refl
is_none (Some x) none = absurd cc

pub too_many : (count : ℕ) → (count ≤ 16 → false ≡ true) → 16 < count
too_many count fits = grind arith

pub both : (flow flow' : Owning) (places places' : List (Option (Subscribed ℕ))) → flow ≡ flow' → places ≡ places'
    → record { flow = flow; places = places } ≡ (let it : Subscribing = record { flow = flow'; places = places' } in it)
both flow flow' places places' one other = rw (one, other) refl
