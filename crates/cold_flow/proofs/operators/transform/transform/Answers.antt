use Rattle.flow_terms.specs.declared.few.Few.TheVariants.{Zero}
use Rattle.cold_flow.specs.Laws.{Through-fixed}
use Rattle.cold_flow.specs.FewLaws.{held-monotone}
use Rattle.cold_flow.proofs.operators.transform.transform.Goals as goal

pub returns-clause-exact : goal.returns-clause-exact
returns-clause-exact g c whole fixed =
    Through-fixed _ (held-monotone (g.G.Apply.gives c.args.function) Zero) _ whole fixed
