use Rattle.std.proofs.Common.{Ok, ◌∙◌, sym, subst, ◌<◌, ◌+◌}
use Rattle.shared_core.specs.Accepting.{HasFate, waiting_in}
use Rattle.shared_core.specs.Calls as calls
use Rattle.shared_core.specs.Flow.{number_limit}
use Rattle.shared_core.specs.Shown.{Seen, Follows}
use Rattle.shared_core.proofs.Emitting.{try_spent, within_limit}
use Rattle.shared_core.proofs.state.SharedState.try_emit.Goals as goal

pub returns-then-is_spent : goal.returns-then-is_spent
returns-then-is_spent g c = try_spent c.args.emitter c.args.value c.args.self.now (sym c.is_spent.ensures.spent ∙ c.if-is_spent.true)

pub try_with-requires-clause-fate : goal.try_with-requires-clause-fate
try_with-requires-clause-fate g c = subst (λ (old : Seen _). HasFate old c.fate-fate.result) (sym c.fate-fate.ensures.same) c.fate-fate.ensures.fate

pub try_with-requires-clause-numbers : goal.try_with-requires-clause-numbers
try_with-requires-clause-numbers g c =
    subst (λ (old : Seen _). old.next_number + waiting_in old < number_limit) (sym c.fate-fate.ensures.same)
    (within_limit _ (sym c.is_spent.ensures.spent ∙ c.if-is_spent.false) c.is_spent.ensures.bound)

pub returns : goal.returns
returns g c = subst (λ old. Follows (calls.try_emit c.args.emitter c.args.value) old (Ok c.try_with.result) c.try_with.new.self) c.fate-fate.ensures.same c.try_with.ensures

pub try_beside_many-requires : goal.try_beside_many-requires
try_beside_many-requires g c = within_limit _ (sym c.is_spent.ensures.spent ∙ c.if-is_spent.false) c.is_spent.ensures.bound
