use Rattle.cold_flow.specs.Laws.{Through-within}
use Rattle.more_merges.proofs.flows.merge_all.merge_all.Goals as goal

pub returns-clause-gives : goal.returns-clause-gives
returns-clause-gives g c = λ t h. Through-within _ _ _ c.merge_indexed.ensures.gives t (c.map.ensures.gives t h)
