-- What turns of a thread took, one after another.
use Rattle.std.proofs.Common.{◌≡◌, ◌+◌, ℕ, List, Option, Some, None, Ok, Err, IfOk, IfErr, MatchOption, Result, arith}
use Rattle.futures.specs.declared.task.Poll.{Poll}
use Rattle.futures.specs.declared.task.Poll.TheVariants.{Ready, Pending}
use Rattle.flow_terms.specs.declared.refusal.Refusal.{Refusal}
use Rattle.flow_terms.specs.declared.refusal.Refusal.TheVariants.{NoMemory}
use Rattle.cold_flow.specs.declared.cause.Cause.{Cause}
use Rattle.cold_flow.specs.declared.event.Event.{Event}
use Rattle.cold_flow.specs.Trace.{Trace}
use Rattle.cold_flow.specs.Polled.Gave.{nothing}
use Rattle.hot_sources.specs.Waiting.{TookSome, TookAll, EndedAfter}
use Rattle.hot_sources.specs.WaitingLaws.{Took, TookUpTo, took_on, took_all, took_some, ended_after}

module _ {R A E : Type 0} (polled : R → Poll (Event A E) → R → Type 0) (may : R → Trace A E → Type 0) where
  -- a turn pended: as many were taken as are not left
  pub pended_on : (old mid new : R) (before after more : List A) (n left leaves count : ℕ) → Took polled may old before after mid n → n + left ≡ count
      → TookUpTo polled may mid after left Pending more new leaves → (k : ℕ) × Took polled may old before more new k × (k + leaves ≡ count)
  pended_on old mid new before after more n left leaves count took sum turn =
      (n + turn.0, took_on polled may old mid new before after more n turn.0 took turn.1, omega (arith, sum, turn.2))

  -- with the last turn all were taken, or those up to the end
  pub took_whole : (old mid new : R) (before after more : List A) (n left leaves count : ℕ) (taken : Result (Option (Cause E)) Refusal)
      → Took polled may old before after mid n → n + left ≡ count → TookUpTo polled may mid after left (Ready taken) more new leaves
      → IfOk taken (λ ending. MatchOption ending (TookAll polled count old before more new) (λ cause. EndedAfter polled may old before more cause new))
  took_whole old mid new before after more n left leaves count (Ok None) took sum turn =
      took_all polled may old new before more (n + left) count (took_on polled may old mid new before after more n left took turn) sum
  took_whole old mid new before after more n left leaves count (Ok (Some k)) took sum turn =
      ended_after polled may old turn.1 new before more (n + turn.0) k (took_on polled may old mid turn.1 before after more n turn.0 took turn.2)
      (turn.1, nothing, turn.3) turn.4
  took_whole old mid new before after more n left leaves count (Err e) took sum turn = tt

  -- or some, and memory lacked
  pub took_few : (old mid new : R) (before after more : List A) (n left leaves : ℕ) (taken : Result (Option (Cause E)) Refusal)
      → Took polled may old before after mid n → TookUpTo polled may mid after left (Ready taken) more new leaves
      → IfErr taken (λ refusal. (refusal ≡ NoMemory) × TookSome polled old before more new)
  took_few old mid new before after more n left leaves (Ok o) took turn = tt
  took_few old mid new before after more n left leaves (Err e) took turn =
      (turn.2, took_some polled may old new before more (n + turn.0) (took_on polled may old mid new before after more n turn.0 took turn.1))
