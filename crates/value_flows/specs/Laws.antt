-- What holds of a flow and of all its owners, between any two calls.
use Rattle.std.specs.Prelude.{◌≡◌, ◌≢◌, ℕ, Some, None, List, [], ◌∷◌}
use Rattle.std.specs.List.{All}
use mathlib.Core.Option.{some}
use lib.ListN.{get_elem?}
use Rattle.round_lock.specs.declared.log.Log.{Log}
use Rattle.flow_terms.specs.Lists.{IsPrefix}
use Rattle.round_lock.specs.History.{own_of, spent}
use Rattle.flow_terms.specs.declared.policy.Policy.TheVariants as policy
use Rattle.value_flows.specs.declared.round.Round.{Round}
use Rattle.value_flows.specs.declared.round.Round.TheVariants as round
use Rattle.value_flows.specs.declared.ring.Ring.{Ring}
use Rattle.value_flows.specs.Accepted.{accepted_in, IsLatest}
use Rattle.value_flows.specs.Keeping.{KeepsTo}

-- a subscription was told that it missed values
abbrev pub IsMiss : Round → Type 0
IsMiss round.Look = ⊥
IsMiss round.Emit = ⊥
IsMiss (round.Begin place start) = ⊥
IsMiss (round.Give place number) = ⊥
IsMiss (round.Miss place from count) = Unit {0}
IsMiss (round.End place) = ⊥
IsMiss round.Forget = ⊥

module _ {T : Type 0} where
  -- There is one list of calls, and so one list of accepted values
  pub record HasOneList (items : List (Ring T)) (views : List (Log (Ring T) Round)) : Type 0 where
    pub calls : List (ℕ × Round × Ring T)
    -- each owner's calls are its part of the list, in its order
    pub parts : (pass : ℕ) (v : Log (Ring T) Round) → get_elem? views pass ≡ some v → v ≢ spent → v.own ≡ own_of pass calls
    -- and the list begins with what each has seen
    pub seen_by : (pass : ℕ) (v : Log (Ring T) Round) → get_elem? views pass ≡ some v → IsPrefix v.seen calls
    -- the latest values are kept, whether they lie under the lock or an owner has them
    pub under : (ring : Ring T) → items ≡ ring ∷ [] → IsLatest (accepted_in calls) ring
    pub taken : (pass : ℕ) (v : Log (Ring T) Round) (ring : Ring T) → get_elem? views pass ≡ some v → v.held ≡ Some ring → IsLatest (accepted_in calls) ring
    -- but under `DropOldest`, none is missed where each owner keeps to its own place, as the clauses of its calls say
    pub none_missed : (ring : Ring T) → items ≡ ring ∷ [] → ring.policy ≢ policy.DropOldest → ((pass : ℕ) → KeepsTo None (own_of pass calls)) → All (λ (t : ℕ × Round × Ring T). ¬ IsMiss t.1) calls
