use Rattle.std.proofs.Common.{Ok, sym, subst, ◌<◌, ◌+◌}
use Rattle.shared_core.specs.Accepting.{HasFate, waiting_in}
use Rattle.shared_core.specs.Calls as calls
use Rattle.shared_core.specs.Flow.{number_limit}
use Rattle.shared_core.specs.Shown.{Seen, Follows}
use Rattle.shared_core.proofs.state.SharedState.try_beside_many.Goals as goal

pub try_with-requires-clause-fate : goal.try_with-requires-clause-fate
try_with-requires-clause-fate g c = subst (λ (old : Seen _). HasFate old c.fate-fate.result) (sym c.fate-fate.ensures.same) c.fate-fate.ensures.fate

pub try_with-requires-clause-numbers : goal.try_with-requires-clause-numbers
try_with-requires-clause-numbers g c = subst (λ (old : Seen _). old.next_number + waiting_in old < number_limit) (sym c.fate-fate.ensures.same) c.requires

pub returns : goal.returns
returns g c = subst (λ old. Follows (calls.try_emit c.args.emitter c.args.value) old (Ok c.try_with.result) c.try_with.new.self) c.fate-fate.ensures.same c.try_with.ensures
