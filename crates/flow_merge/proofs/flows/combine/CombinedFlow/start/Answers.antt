use Rattle.flow_merge.specs.CombineLaws.{combine_starts}
use Rattle.flow_merge.proofs.flows.combine.CombinedFlow.start.Goals as goal

pub returns-in-Ok-clause-gives : goal.returns-in-Ok-clause-gives
returns-in-Ok-clause-gives g c =
    let left = c.new.ensures in
    let right = c.new-in-Ok.ensures in
    rw (left.run, left.latest, left.open, right.run, right.latest, right.open)
    (combine_starts _ _ _ _ _ _ _ _ _ c.in_ok-left.ensures.prompt c.in-Ok.ensures.prompt c.in_ok-left.ensures.gives c.in-Ok.ensures.gives)
