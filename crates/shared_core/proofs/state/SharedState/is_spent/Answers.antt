use Rattle.std.proofs.Common.{◌≡◌, ◌+◌, ap, eqb, length, arith}
use Rattle.std.specs.List.{filter}
use Rattle.shared_core.specs.Flow.{number_limit, does_wait}
use Rattle.shared_core.proofs.Ticketing.{shown_out, count_waiting}
use Rattle.shared_core.proofs.state.SharedState.is_spent.Goals as goal

pub returns-clause-spent : goal.returns-clause-spent
returns-clause-spent g c =
    let us = c.self.inside.accepted.values in
    let ws = c.self.inside.waiting.values in
    let total : c.next_number.result + c.len.result ≡ c.self.inside.ring.next_number + length (filter (λ e. does_wait e.1) (shown_out us ws)) =
    omega (arith, c.next_number.ensures.number, c.len.ensures.count, count_waiting us ws) in
    rw (← c.self.view_is) (ap (λ n. eqb n number_limit) total)

pub returns-clause-bound : goal.returns-clause-bound
returns-clause-bound g c =
    rw (← c.self.view_is) (omega (arith, c.self.invariant.numbers.emissions, count_waiting c.self.inside.accepted.values c.self.inside.waiting.values))
