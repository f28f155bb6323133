use Rattle.std.proofs.Common.{◌≡◌, ◌+◌, length}
use Rattle.log_callers.specs.Logs.{Logs}
use Rattle.log_callers.proofs.event_log.log_events.Given as goal

abbrev pub invariant-loop-turn : goal.invariant-loop-turn
invariant-loop-turn g l = Logs l.initial.log.items l.initial.reader l.log.items l.reader × (length l.log.items ≡ length l.initial.log.items + l._turn)
