use Rattle.flow_merge.specs.ZipLaws.{zip_fixed}
use Rattle.flow_merge.proofs.flows.zip.zip.Goals as goal

pub returns-clause-exact : goal.returns-clause-exact
returns-clause-exact g c l r of_left of_right = zip_fixed _ _ _ l r of_left of_right
