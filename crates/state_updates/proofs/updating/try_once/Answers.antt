use Rattle.state_updates.proofs.Trying.{try_sets, try_misses}
use Rattle.state_updates.proofs.updating.try_once.Goals as goal

pub returns-then-compare_and_set-clause-updates : goal.returns-then-compare_and_set-clause-updates
returns-then-compare_and_set-clause-updates g c =
    let compared = rw c.if-compare_and_set.true at c.compare_and_set.ensures.has in
    try_sets _ _ _ _ _ _ c.value-found.ensures.has c.function-value.ensures compared

pub returns-clause-missed : goal.returns-clause-missed
returns-clause-missed g c =
    let compared = rw c.if-compare_and_set.false at c.compare_and_set.ensures.has in
    try_misses _ _ _ _ _ c.value-found.ensures.has compared
