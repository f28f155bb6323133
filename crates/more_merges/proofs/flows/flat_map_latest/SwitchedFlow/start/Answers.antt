use Rattle.more_merges.specs.LatestLaws.{latest_outer_waits}
use Rattle.more_merges.proofs.flows.flat_map_latest.SwitchedFlow.start.Goals as goal

pub returns-clause-gives : goal.returns-clause-gives
returns-clause-gives g c = latest_outer_waits _ _ _ _ _ c.in_ok-start.ensures.gives
