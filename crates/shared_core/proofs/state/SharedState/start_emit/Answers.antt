use Rattle.std.proofs.Common.{◌≡◌, ◌≢◌, ◌∙◌, ◌+◌, ◌<◌, ◌≤◌, ap, sym, subst, arith}
use Rattle.shared_core.specs.Accepting.{HasFate, waiting_in}
use Rattle.shared_core.specs.Calls as calls
use Rattle.shared_core.specs.Flow.{number_limit}
use Rattle.shared_core.specs.Shown.{Seen, Follows}
use Rattle.shared_core.proofs.Emitting.{start_spent, spent_from_emissions, spent_from_tickets, within_limit}
use Rattle.shared_core.proofs.state.SharedState.start_emit.Goals as goal
use Rattle.shared_core.proofs.state.SharedState.start_emit.Goals.{then-is_spent-via-then-is_spent, then-is_spent-via-else-is_spent+then-self-eq-NUMBER_LIMIT}

pub returns-then-is_spent : goal.returns-then-is_spent
returns-then-is_spent g c =
    let now = c.args.self.now in
    let tickets = ap (λ (seen : Seen _). seen.parameters.first + seen.tickets) (sym c.self.view_is) in
    start_spent c.args.emitter c.args.value now
    (elim c.then-is_spent.branch [
      | then-is_spent-via-then-is_spent w ↦ spent_from_emissions c.args.emitter c.args.value now (sym c.is_spent.ensures.spent ∙ w.if-is_spent.true)
      | then-is_spent-via-else-is_spent+then-self-eq-NUMBER_LIMIT w ↦ spent_from_tickets c.args.emitter c.args.value now (tickets ∙ w.if-self-eq-NUMBER_LIMIT.true)
    ])

pub start_with-requires-clause-fate : goal.start_with-requires-clause-fate
start_with-requires-clause-fate g c = subst (λ (old : Seen _). HasFate old c.fate-fate.result) (sym c.fate-fate.ensures.same) c.fate-fate.ensures.fate

pub start_with-requires-clause-numbers : goal.start_with-requires-clause-numbers
start_with-requires-clause-numbers g c =
    subst (λ (old : Seen _). old.next_number + waiting_in old < number_limit) (sym c.fate-fate.ensures.same)
    (within_limit _ (sym c.is_spent.ensures.spent ∙ c.if-is_spent.false) c.is_spent.ensures.bound)

-- a ticket is left
ticket_left : {T : Type 0} (view now : Seen T) → view ≡ now → view.parameters.first + view.tickets ≤ number_limit → view.parameters.first + view.tickets ≢ number_limit → now.parameters.first + now.tickets < number_limit
ticket_left view now is within unspent = omega (arith, within, unspent, ap (λ (seen : Seen _). seen.parameters.first + seen.tickets) is)

pub start_with-requires-clause-tickets : goal.start_with-requires-clause-tickets
start_with-requires-clause-tickets g c =
    subst (λ (old : Seen _). old.parameters.first + old.tickets < number_limit) (sym c.fate-fate.ensures.same)
    (ticket_left _ c.args.self.now c.self.view_is c.self.invariant.numbers.tickets c.if-self-eq-NUMBER_LIMIT.false)

pub returns : goal.returns
returns g c = subst (λ old. Follows (calls.start_emit c.args.emitter c.args.value) old c.start_with.result c.start_with.new.self) c.fate-fate.ensures.same c.start_with.ensures
