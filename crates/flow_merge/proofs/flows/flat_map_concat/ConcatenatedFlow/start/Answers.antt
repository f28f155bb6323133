use Rattle.flow_merge.specs.Counting.{rounds_within}
use Rattle.flow_merge.proofs.flows.flat_map_concat.ConcatenatedFlow.start.Goals as goal

pub returns-clause-lasts : goal.returns-clause-lasts
returns-clause-lasts g c = rounds_within _ _ _ c.in_ok-start.ensures.lasts
