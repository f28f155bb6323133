use Rattle.std.proofs.Common.{◌≡◌, ◌+◌, length}
use Rattle.script_run.proofs.runner.Runner.close.Given as goal

abbrev pub invariant-loop-object : goal.invariant-loop-object
invariant-loop-object g l = l.closed + length l.objects.items ≡ length l.fn.self.objects.items

abbrev pub decreases-loop-object : goal.decreases-loop-object
decreases-loop-object g l = goal.left-loop-object g l
