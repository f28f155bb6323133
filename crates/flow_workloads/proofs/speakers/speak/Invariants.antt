use Rattle.std.proofs.Common.{◌≡◌, None}
use Rattle.flow_workloads.proofs.speakers.speak.Given as goal

abbrev pub invariant-loop : goal.invariant-loop
invariant-loop g l = l.emitter.ticket ≡ None
