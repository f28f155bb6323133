-- What loading comes to.
use Rattle.std.specs.Prelude.{◌≡◌, ◌⊎◌, ⊤, ℕ, Result, Ok, Err}
use Rattle.futures.specs.declared.task.Poll.{Poll}
use Rattle.futures.specs.declared.task.Poll.TheVariants.{Ready, Pending}
use Rattle.cold_flow.specs.declared.builders.scripted.Step.{Step}
use Rattle.cold_flow.specs.declared.builders.scripted.Step.TheVariants.{Value}
use Rattle.cold_flow.specs.declared.cause.Cause.{Cause}

-- a value that the code may answer, or the other one
abbrev pub IsAnswerOr : (Step ℕ ℕ → Type 0) → ℕ → ℕ → Type 0
IsAnswerOr answers instead v = answers (Value v) ⊎ (v ≡ instead)

-- where a poll is ready, it is so with such a value, and never without one
abbrev pub LoadedOr : (Step ℕ ℕ → Type 0) → ℕ → Poll (Result ℕ (Cause ℕ)) → Type 0
LoadedOr answers instead (Ready (Ok v)) = IsAnswerOr answers instead v
LoadedOr answers instead (Ready (Err k)) = ⊥
LoadedOr answers instead Pending = ⊤
