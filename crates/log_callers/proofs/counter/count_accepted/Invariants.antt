use Rattle.std.proofs.Common.{◌≡◌, None, take}
use Rattle.log_callers.specs.Counts.{Counts}
use Rattle.log_callers.proofs.counter.count_accepted.Given as goal

abbrev pub invariant-loop-value : goal.invariant-loop-value
invariant-loop-value g l = record {
  idle : l.emitter.ticket ≡ None;
  counted : Counts l.initial.emitter (take l.value-index l.values) l.emitter l.total;
}
