use Rattle.flow_merge.specs.CombineLaws.{combine_exact}
use Rattle.flow_merge.proofs.flows.combine.combine.Goals as goal

pub returns-clause-exact : goal.returns-clause-exact
returns-clause-exact g c l r p q of_left of_right = combine_exact _ _ _ _ _ l r p q of_left of_right
