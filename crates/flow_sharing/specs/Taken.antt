-- What a poll of a sharing took of its upstream, in its caller's words.
use Rattle.std.specs.Prelude.{◌≡◌, ◌⊎◌, List, []}
use Rattle.cold_flow.specs.declared.cause.Cause.{Cause}
use Rattle.cold_flow.specs.Trace.{so_far, ended_by}
use Rattle.cold_flow.specs.Poll.{Traces, Within}
use Rattle.cold_flow.specs.Gather.{Gathered}
use Rattle.sharing_upstream.specs.declared.upstream.Course.{Course}
use Rattle.sharing_upstream.specs.declared.upstream.Course.TheVariants.{Idle, Running, Broken}
use Rattle.sharing_upstream.specs.Courses.{stopped}

-- the word `may` says which traces a run may still give
module _ {T E U : Type 0} (may : U → Traces T E) where
  -- A run gave these values, in order, and no others: it goes on, and could give these, then whatever it may give now; or it ended after
  -- them; or it was broken off after them
  abbrev pub RunGave : U → List T → Course U E → Type 0
  RunGave run values (Running now) = Within (may run) (Gathered values (may now))
  RunGave run values Idle = (cause : Cause E) × may run (ended_by values cause)
  RunGave run values (Broken cause) = may run (ended_by values cause) ⊎ may run (so_far values)

  -- These values were taken of an upstream: of the run that was going, or of a new run of its flow, which may give what `new_run` has. Or
  -- none was, and it is as it was, or was stopped
  pub data Took (new_run : Traces T E) (from : Course U E) (taken : List T) (to : Course U E) : Type 0 where
    of_the_run : (run : U) → from ≡ Running run → RunGave run taken to → Took new_run from taken to
    of_a_new_run : (run : U) → Within new_run (may run) → RunGave run taken to → Took new_run from taken to
    nothing : taken ≡ [] → to ≡ from → Took new_run from taken to
    was_stopped : taken ≡ [] → to ≡ stopped from → Took new_run from taken to
