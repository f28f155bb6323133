use Rattle.std.proofs.Common.{◌≤◌, ◌-◌, length}
use Rattle.std.specs.Io.KnownBytes.{Consumes}
use Rattle.script_run.proofs.input.read_script.Given as goal

abbrev pub invariant-loop-reader : goal.invariant-loop-reader
invariant-loop-reader g l = record {
  came : Consumes (g.R.Read.remaining l.fn.reader) (g.R.Read.remaining l.reader) l.script.items;
  within : length l.script.items ≤ 1048577;
}

abbrev pub decreases-loop-reader : goal.decreases-loop-reader
decreases-loop-reader g l = 1048577 - length l.script.items
