-- What a poll of a sharing does to its upstream, and to the place where its values go.
use Rattle.std.specs.Prelude.{◌≡◌, ℕ, ◌<◌, ◌⊎◌, Bool, true, false, List, [], ◌∷◌, ◌++◌, length, Option, Some, None}
use Rattle.futures.specs.declared.task.Poll.{Poll}
use Rattle.futures.specs.declared.task.Poll.TheVariants.{Pending}
use Rattle.cold_flow.specs.declared.cause.Cause.{Cause}
use Rattle.cold_flow.specs.declared.cause.Cause.TheVariants.{Refused}
use Rattle.cold_flow.specs.declared.event.Event.{Event}
use Rattle.flow_terms.specs.declared.refusal.Refusal.{Refusal}
use Rattle.cold_flow.specs.Poll.{Traces}
use Rattle.flow_terms.specs.declared.command.Command.{Command}
use Rattle.flow_terms.specs.declared.command.Command.TheVariants.{Start, Stop, StopAndReset}
use Rattle.sharing_upstream.specs.declared.upstream.Course.{Course}
use Rattle.sharing_upstream.specs.declared.upstream.Course.TheVariants.{Running, Broken}
use Rattle.sharing_upstream.specs.declared.polling.Polled.{Polled}
use Rattle.sharing_upstream.specs.declared.strategy.Strategy.{Strategy}
use Rattle.sharing_upstream.specs.Courses.{IsNew, GoesOn, Ends, GaveAll, stopped, kept_cause}
use Rattle.sharing_upstream.specs.Destinations.{Steps, AcceptsEach}
use Rattle.sharing_upstream.specs.Polls.{Commands}

module _ {T S : Type 0} (steps : Steps T S) {U E : Type 0} (may : U → Traces T E) (ended : U → Option (Cause E)) where
  -- what a command does, where a new run of the upstream may give these traces
  abbrev pub Obeys : Traces T E → Option Command → Course U E → S → Course U E → S → Type 0
  Obeys new_run None from before to after = (to ≡ from) × (after ≡ before)
  Obeys new_run (Some Start) from before to after = IsNew may ended new_run to × (after ≡ before)
  Obeys new_run (Some Stop) from before to after = (to ≡ stopped from) × steps.Withdraws before after
  Obeys new_run (Some StopAndReset) from before to after = (to ≡ stopped from)
      × ((between : S) × steps.Withdraws before between × steps.Resets between after)

-- the word `polled` says of a poll of a run how the run stood, what it answered, and how the run stood then
module _ {T S : Type 0} (steps : Steps T S) {U E : Type 0} (may : U → Traces T E) (ended : U → Option (Cause E))
    (polled : U → Poll (Event T E) → U → Type 0) where
  -- What a poll takes of the upstream, at most 32 events, where nothing waits, and why it stops there: 32 values were accepted, the run
  -- answered pending, a value waits, no run is going any more, or a value was refused. Each value is offered before the next is asked for,
  -- so only the last one can wait, and a refused one is the last
  pub data Takes (from : Course U E) (before : S) (to : Course U E) (after : S) : Type 0 where
    is_full : (values : List T) → length values ≡ 32 → GoesOn may ended from values to
        → AcceptsEach steps before values after → Takes from before to after
    is_pending : (values : List T) (was is : U) → length values < 32 → GoesOn may ended from values (Running was) → polled was Pending is
        → to ≡ Running is → GoesOn may ended from values to → AcceptsEach steps before values after → Takes from before to after
    last_waits : (values : List T) (last : T) (between : S) → length values < 32 → GoesOn may ended from (values ++ last ∷ []) to
        → AcceptsEach steps before values between → steps.Delays between last after → Takes from before to after
    ends : (values : List T) → length values < 32 → Ends may ended from values to
        → AcceptsEach steps before values after → Takes from before to after
    is_refused : (values : List T) (last : T) (between : S) (refusal : Refusal) → length values < 32
        → GaveAll may ended from (values ++ last ∷ []) → AcceptsEach steps before values between → steps.Refuses between last refusal after
        → to ≡ Broken (Refused refusal) → Takes from before to after

  -- a poll that is on asks the waiting value first, and takes events of the upstream unless that still waits
  abbrev pub Shares : Bool → Course U E → S → Course U E → S → Type 0
  Shares false from before to after = (to ≡ from) × (after ≡ before)
  Shares true from before to after = ((to ≡ from) × steps.Asks before true after)
      ⊎ ((between : S) × steps.Asks before false between × Takes from between to after)

  -- What a poll did after it counted: it obeyed a command, which is the strategy's by every list of polls that the strategy shows, and
  -- then shared. A sharing that ended for good does neither
  abbrev pub Acts : Option (Cause E) → Traces T E → (Option Command → Type 0) → Bool → Course U E → S → Course U E → S → Type 0
  Acts (Some cause) new_run IsCommand on from before to after = (to ≡ from) × (after ≡ before)
  Acts None new_run IsCommand on from before to after = (done : Option Command) × IsCommand done
      × ((between : Course U E) × (middle : S) × Obeys steps may ended new_run done from before between middle × Shares on between middle to after)

  -- what a poll did at this moment that found the strategy so
  abbrev pub ActsAt : Traces T E → Strategy → ℕ → Polled → Course U E → S → Course U E → S → Type 0
  ActsAt new_run strategy now found from before to after = (listened : S) × steps.Counts before found.count listened
      × Acts (kept_cause from) new_run (Commands strategy now found.count) found.on from listened to after

-- a poll at this moment was refused that found the strategy so: it counted, and a start was commanded
abbrev pub IsRefusedAt : {T S : Type 0} → Steps T S → Strategy → ℕ → S → S → Type 0
IsRefusedAt steps strategy now before after = (count : ℕ) × steps.Counts before count after × Commands strategy now count (Some Start)
