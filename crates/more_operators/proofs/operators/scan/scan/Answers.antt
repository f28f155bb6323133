use Rattle.std.specs.Prelude.{true}
use Rattle.cold_flow.specs.Laws.{Through-fixed}
use Rattle.more_operators.specs.Scan.{scan-monotone}
use Rattle.more_operators.proofs.operators.scan.scan.Goals as goal

pub returns-clause-exact : goal.returns-clause-exact
returns-clause-exact g c whole fixed =
    Through-fixed _ (scan-monotone (g.G.Apply.gives c.args.function) true c.args.first) _ whole fixed
