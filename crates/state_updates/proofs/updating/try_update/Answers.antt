use Rattle.std.proofs.Common.{refl, ◌∙◌, arith}
use Rattle.state_updates.proofs.Trying.{missed_none, missed_more, missed_by, updates_after}
use Rattle.state_updates.proofs.updating.try_update.Goals as goal

pub tries-init : goal.tries-init
tries-init g c = record { same_flow = refl; missed = missed_none _ }

pub tries-preserved : goal.tries-preserved
tries-preserved g c = record {
  same_flow = c.try_once.ensures.same_flow ∙ c.tries.invariant.same_flow;
  missed = missed_more _ _ _ _ c.tries.invariant.missed c.in_default.ensures.missed;
}

pub returns-in-Some-clause-has : goal.returns-in-Some-clause-has
returns-in-Some-clause-has g c = updates_after _ _ _ _ _ _ _ c.tries.invariant.missed c.in-Some.ensures.updates

pub returns-clause-missed : goal.returns-clause-missed
returns-clause-missed g c = missed_by _ _ _ _ (omega arith) c.tries.invariant.missed
