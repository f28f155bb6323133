-- The calls of a script on a flow on one thread: whatever state of the model the flow shows, each replies as the model's call does,
-- and the flow shows after it what that leaves.
use Rattle.std.specs.Prelude.{ℕ, Ok}
use Rattle.shared_core.specs.Flow.{cache, live_count}
use Rattle.shared_core.specs.Calls as model
use Rattle.shared_core.specs.Shown.{Seen, Follows, Leaves}
use Rattle.script_calls.specs.Calls.{Receipts, Emissions}
use Rattle.script_engines.specs.Preludes.{subscribed}

abbrev pub receiving : Receipts (Seen ℕ)
receiving = record {
  Subscribes = λ old prelude reply new. Follows (subscribed prelude) old reply new;
  Nexts = λ old id reply new. Follows (model.next_value id.0) old reply new;
  Cancels = λ old id reply new. Follows (model.cancel id.0) old reply new;
  Caches = λ old reply new. Follows (λ M. (Ok (cache M), M)) old reply new;
  Counts = λ old reply new. Follows (λ M. (live_count M, M)) old reply new;
}

-- one emitter stands behind all emissions of a script
abbrev pub emitting : Emissions (Seen ℕ)
emitting = record {
  Tries = λ old value reply new. Follows (model.try_emit 0 value) old reply new;
  Begins = λ old value reply new. Follows (model.start_emit 0 value) old reply new;
  Polls = λ old ticket reply new. Follows (model.poll_emit ticket.0) old reply new;
  Withdraws = λ old ticket reply new. Follows (model.cancel_emit ticket.0) old reply new;
  Resets = λ old new. Leaves model.reset old new;
}
