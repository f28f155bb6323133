use Rattle.std.proofs.Common.{refl, ◌+◌, ◌∙◌}
use Rattle.state_updates.proofs.Trying.{missed_none, missed_more, updates_after}
use Rattle.state_updates.proofs.updating.update_until_set.Goals as goal

pub tries-init : goal.tries-init
tries-init g c = record { same_flow = refl; missed = (0, missed_none _) }

pub tries-preserved : goal.tries-preserved
tries-preserved g c = record {
  same_flow = c.try_once.ensures.same_flow ∙ c.tries.invariant.same_flow;
  missed = (c.tries.invariant.missed.0 + 1, missed_more _ _ _ _ c.tries.invariant.missed.1 c.in_default.ensures.missed);
}

pub returns-in-Some-try_once-clause-updates : goal.returns-in-Some-try_once-clause-updates
returns-in-Some-try_once-clause-updates g c = updates_after _ _ _ _ _ _ _ c.tries.invariant.missed.1 c.in-Some-try_once.ensures.updates
