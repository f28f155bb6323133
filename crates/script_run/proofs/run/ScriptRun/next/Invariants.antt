use Rattle.std.proofs.Common.{◌≤◌, ◌+◌, [], length}
use Rattle.script_run.specs.Replying.{Comes, run_state}
use Rattle.script_run.proofs.run.ScriptRun.next.Given as goal

abbrev pub invariant-lines : goal.invariant-lines
invariant-lines g l = record {
  came : Comes g.O.ScriptObject.makes g.O.ScriptObject.asks g.O.ScriptObject.joins (run_state l.fn.self) [] (run_state l.self);
  room : l.self.number + length l.self.lines.rest.now ≤ 1048576;
  left : length l.self.lines.rest.now ≤ length l.fn.self.lines.rest.now;
}

abbrev pub decreases-lines : goal.decreases-lines
decreases-lines g l = length l.self.lines.rest.now
