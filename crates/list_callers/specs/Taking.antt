-- What a program offered and took, by the execution of its calls on a flow.
use Rattle.std.specs.Prelude.{◌≡◌, ℕ, List, ◌∷◌, [], ◌++◌, Option, Some, None}
use Rattle.std.specs.List.{filter_map}
use Rattle.shared_core.specs.Flow.{Parameters}
use Rattle.shared_core.specs.Calls.{Call, trying}
use Rattle.shared_core.specs.Shown.{Seen}
use Rattle.shared_core.specs.Headline.{Execution, received, Headline}
use Rattle.shared_core.specs.Made.{IsExecutionOf}

abbrev pub offered_by : {T : Type 0} → Call T → Option T
offered_by (trying emitter v) = Some v
offered_by _ = None

-- the values that the calls offered by `try_emit`
abbrev pub offered : {T : Type 0} → Execution T → List T
offered execution = filter_map offered_by execution.calls

-- The program's calls on a flow with these parameters made some execution, and left this flow. They offered just these values, and
-- their replies gave the subscription with this number just those.
pub record Took {T : Type 0} (p : Parameters) (n : ℕ) (flow : Seen T) (gave taken : List T) : Type 0 where
  pub execution : Execution T
  pub is_execution : IsExecutionOf p execution
  pub left : execution.seen ≡ flow
  pub gave_them : offered execution ≡ gave
  pub took_them : received n execution ≡ taken

-- One more value is offered, whatever was offered and taken before.
abbrev pub OffersOneMore : {T : Type 0} → ℕ → T → Seen T → List T → Seen T → List T → Type 0
OffersOneMore {T} n v old before new after =
    (p : Parameters) (gave : List T) → Took p n old gave before → Took p n new (gave ++ v ∷ []) after

-- None is offered.
abbrev pub OffersNone : {T : Type 0} → ℕ → Seen T → List T → Seen T → List T → Type 0
OffersNone {T} n old before new after = (p : Parameters) (gave : List T) → Took p n old gave before → Took p n new gave after

-- The headline holds of the execution that was made.
pub record TookByTheHeadline {T : Type 0} (p : Parameters) (n : ℕ) (flow : Seen T) (gave taken : List T) : Type 0 where
  pub by : Took p n flow gave taken
  pub headline : Headline by.execution
