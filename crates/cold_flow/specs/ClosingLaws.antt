-- Laws of operators that may end before their source, or after it.
use Rattle.std.specs.Prelude.{◌≡◌, ◌<◌, ◌||◌, Bool, IsTrue, IsSome, [], Some}
use Rattle.std.proofs.Common.{subst, arith}
use Rattle.std.specs.Iterator.{Count, IsFinite, size, at_most}
use Rattle.cold_flow.specs.declared.cause.Cause.{Cause}
use Rattle.cold_flow.specs.declared.cause.Cause.TheVariants.{Finished}
use Rattle.cold_flow.specs.declared.operators.closing.Closing.{Closing}
use Rattle.cold_flow.specs.declared.operators.closing.Closing.TheVariants.{Open, Last, Over}
use Rattle.cold_flow.specs.Trace.{Trace, ◌⊑◌, so_far, ended_by}
use Rattle.cold_flow.specs.Poll.{Traces}
use Rattle.cold_flow.specs.Closing.{Following, answer, given_cause, is_open, polls_left, is_prompt}
use Rattle.cold_flow.specs.Polled.{Rests}
use Rattle.cold_flow.specs.Laws.{begins-any}

module _ {A E : Type 0} where
  pub Following-begins : (c : Closing E) (going : Traces A E) → going (so_far []) → Following c going (so_far [])
  Following-begins Open going h = h
  Following-begins Last going h = begins-any (ended_by [] Finished)
  Following-begins (Over k) going h = begins-any (ended_by [] k)

  pub Following-over : (c : Closing E) (going : Traces A E) (k : Cause E) → given_cause c ≡ Some k
      → (t : Trace A E) → Following c going t → t ⊑ ended_by [] k
  Following-over Open going k e t h = cc
  Following-over Last going k e t h = cc
  Following-over (Over j) going k e t h =
      let same : j ≡ k = cc in subst (λ (i : Cause E). t ⊑ ended_by [] i) same h

pub given-stops : {E : Type 0} (c : Closing E) (source : Bool) → IsTrue (is_open c || source) → IsSome (given_cause c) → IsTrue source
given-stops Open source stopped h = cc
given-stops Last source stopped h = cc
given-stops (Over k) source stopped h = stopped

pub finite-following : {E : Type 0} (c : Closing E) (source : Count) → IsFinite source → IsFinite (polls_left c source)
finite-following Open source h = h
finite-following Last source h = tt
finite-following (Over k) source h = tt

-- what a poll leaves of an operator that followed its source before
module _ {E : Type 0} where
  pub open_gave : (c : Closing E) (k : Cause E) → c ≡ Open → given_cause c ≡ Some k → ⊥
  open_gave Open k is e = cc
  open_gave Last k is e = cc
  open_gave (Over j) k is e = cc

  -- one that followed its source may have asked it
  pub open_rests : {S : Type 0} (c : Closing E) (old new : S) → c ≡ Open → Rests (answer c) old new
  open_rests Open old new is k e = cc
  open_rests Last old new is k e = cc
  open_rests (Over j) old new is k e = cc

  pub open_approaches : (before after : Closing E) (old new : Count) → before ≡ Open → after ≡ Open
      → (IsFinite old → IsFinite new × (size new < size old))
      → IsFinite (polls_left before old) → IsFinite (polls_left after new) × (size (polls_left after new) < size (polls_left before old))
  open_approaches before after old new was is fewer = rw (was, is) (λ h. let now = fewer h in (now.0, omega arith))

  -- after a last value
  pub open_closes : (before : Closing E) (old : Count) → before ≡ Open
      → IsFinite (polls_left before old) → IsFinite (at_most 0) × (size (at_most 0) < size (polls_left before old))
  open_closes before old was = rw was (λ h. (tt, omega arith))

  pub open_prompt : {Ready : Type 0} (before after : Closing E) (old new : Bool) → before ≡ Open → after ≡ Open
      → (IsTrue old → Ready × IsTrue new) → IsTrue (is_prompt before old) → Ready × IsTrue (is_prompt after new)
  open_prompt before after old new was is prompt = rw (was, is) prompt
