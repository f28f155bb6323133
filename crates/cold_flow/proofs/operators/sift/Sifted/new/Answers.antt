use Rattle.cold_flow.specs.Laws.{Through-fixed}
use Rattle.cold_flow.specs.SiftLaws.{sift-monotone}
use Rattle.cold_flow.proofs.operators.sift.Sifted.new.Goals as goal

pub returns-clause-exact : goal.returns-clause-exact
returns-clause-exact g c whole fixed =
    let sift = g.M.Sift in
    let laws = g.met.M.Sift in
    Through-fixed _ (sift-monotone sift.passes sift.keeps sift.after laws.none laws.step c.args.sift) _ whole fixed
