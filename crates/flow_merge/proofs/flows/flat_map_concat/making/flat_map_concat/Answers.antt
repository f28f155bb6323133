use Rattle.flow_merge.specs.ConcatLaws.{concat_fixed, concat_joins}
use Rattle.flow_merge.proofs.flows.flat_map_concat.making.flat_map_concat.Goals as goal

pub returns-clause-exact : goal.returns-clause-exact
returns-clause-exact g c o whole of_outer of_inner xs k h =
    concat_fixed (λ x. g.F.Flow.may (g.G.Apply.gives c.args.function x)) whole of_inner (λ x. g.F.Flow.starts (g.G.Apply.gives c.args.function x)) g.F.Running.Run.may (g.S.Flow.may c.args.outer) o of_outer xs k h

pub returns-clause-fixed : goal.returns-clause-fixed
returns-clause-fixed g c o whole each of_outer of_inner =
    concat_joins (λ x. g.F.Flow.may (g.G.Apply.gives c.args.function x)) whole of_inner (λ x. g.F.Flow.starts (g.G.Apply.gives c.args.function x)) g.F.Running.Run.may (g.S.Flow.may c.args.outer) o each of_outer
