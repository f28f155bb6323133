use Rattle.hot_sources.proofs.Made.{not_refused, if_none}
use Rattle.hot_sources.proofs.opening.emitter_and_subscription.Goals as goal

pub returns-in-Ok-clause-refused : goal.returns-in-Ok-clause-refused
returns-in-Ok-clause-refused g c = not_refused _ _ _ c.in_ok-flow.ensures.refused

pub returns-clause-limits : goal.returns-clause-limits
returns-clause-limits g c = if_none _ c.in-Err.ensures.refused
