-- What holds of a state and of all its owners, between any two calls.
use Rattle.std.specs.Prelude.{◌≡◌, ◌≢◌, ℕ, Some, List, [], ◌∷◌}
use mathlib.Core.Option.{some}
use lib.ListN.{get_elem?}
use Rattle.round_lock.specs.declared.log.Log.{Log}
use Rattle.round_lock.specs.History.{IsPrefix, own_of, spent}
use Rattle.value_states.specs.declared.round.Round.{Round}
use Rattle.value_states.specs.declared.versioned.Versioned.{Versioned}
use Rattle.value_states.specs.History.{history_after, IsLast}

module _ {T : Type 0} where
  -- There is one list of calls, and so one history of values: the first value, and those that the calls wrote
  pub record HasOneHistory (items : List (Versioned T)) (views : List (Log (Versioned T) Round)) : Type 0 where
    pub made : Versioned T
    pub calls : List (ℕ × Round × Versioned T)
    -- each owner's calls are its part of the list, in its order
    pub parts : (pass : ℕ) (v : Log (Versioned T) Round) → get_elem? views pass ≡ some v → v ≢ spent → v.own ≡ own_of pass calls
    -- and the list begins with what each has seen
    pub seen_by : (pass : ℕ) (v : Log (Versioned T) Round) → get_elem? views pass ≡ some v → IsPrefix v.seen calls
    -- the value is the last of the history, whether it lies under the lock or an owner has it
    pub under : (state : Versioned T) → items ≡ state ∷ [] → IsLast (history_after (Some made) calls) state
    pub taken : (pass : ℕ) (v : Log (Versioned T) Round) (state : Versioned T) → get_elem? views pass ≡ some v → v.held ≡ Some state → IsLast (history_after (Some made) calls) state
