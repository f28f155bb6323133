-- Laws of loops that ask a source again.
use Rattle.std.specs.Prelude.{◌≡◌, ℕ, ◌+◌, ◌<◌, ◌≤◌, Option, Some, None}
use Rattle.std.proofs.Common.{arith}
use Rattle.std.specs.Iterator.{Count, IsFinite, size}
use Rattle.cold_flow.specs.declared.cause.Cause.{Cause}
use Rattle.cold_flow.specs.Polled.{IsNearer, Rests}

-- one more question that brought the end nearer
pub asked_more : (first old new : Count) (n : ℕ) → IsNearer n first old → (IsFinite old → IsFinite new × (size new < size old))
    → IsNearer (n + 1) first new
asked_more first old new n before fewer h = let was = before h in let now = fewer was.0 in (now.0, omega arith)

-- the question that the poll answers
pub asked_last : (first old new : Count) (n : ℕ) → IsNearer n first old → (IsFinite old → IsFinite new × (size new < size old))
    → IsFinite first → IsFinite new × (size new < size first)
asked_last first old new n before fewer h = let was = before h in let now = fewer was.0 in (now.0, omega arith)

-- as many questions as a poll asks
pub asked_all : (first now : Count) (n : ℕ) → IsNearer n first now → 64 ≤ n → IsNearer 64 first now
asked_all first now n before all h = let was = before h in (was.0, omega arith)

pub asked_fewer : (first now : Count) (n : ℕ) → IsNearer n first now → 64 ≤ n → IsFinite first → IsFinite now × (size now < size first)
asked_fewer first now n before all h = let was = before h in (was.0, omega arith)

pub going_no_end : {E : Type 0} (o : Option (Cause E)) (k : Cause E) → o ≡ None → o ≡ Some k → ⊥
going_no_end o k going ended = cc

-- a run that goes on may have asked its source
pub going_rests : {E S : Type 0} (o : Option (Cause E)) (old new : S) → o ≡ None → Rests o old new
going_rests o old new going k gave = absurd (going_no_end o k going gave)
