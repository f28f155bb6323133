-- How a run over a hot flow stands, and what it may still give.
use Rattle.std.specs.Prelude.{◌≡◌, [], Some, Bool, IsSome, IsTrue, is_some, refl}
use Rattle.cold_flow.specs.declared.cause.Cause.{Cause}
use Rattle.cold_flow.specs.Trace.{Trace, ◌⊑◌, so_far, ended_by}
use Rattle.cold_flow.specs.Poll.{Traces, Unless}
use Rattle.cold_flow.specs.Laws.{Unless-begins, Unless-over, some-stops}
use Rattle.hot_sources.specs.declared.sources.ended.Ended.{Ended}
use Rattle.hot_sources.specs.Receiving.{Unended}

-- a run of values without an end, until it is cancelled
abbrev pub Lasting : {A E : Type 0} → Ended E → Traces A E
Lasting e = Unless e.cause Unended

-- it was cancelled: its source is asked no more
abbrev pub is_over : {E : Type 0} → Ended E → Bool
is_over e = is_some e.cause

pub over_halts : {E : Type 0} (e : Ended E) → IsSome e.cause → IsTrue (is_over e)
over_halts e h = some-stops e.cause h

pub lasting_begins : (A : Type 0) {E : Type 0} (e : Ended E) → Lasting {A = A} e (so_far [])
lasting_begins A e = Unless-begins e.cause Unended refl

pub lasting_over : {A E : Type 0} (e : Ended E) (k : Cause E) → e.cause ≡ Some k → (t : Trace A E) → Lasting e t → t ⊑ ended_by [] k
lasting_over e = Unless-over e.cause Unended
