use Rattle.std.proofs.Common.{ap, ◌∙◌, arith}
use Rattle.shared_core.specs.Ringed.{Ringed}
use Rattle.shared_core.proofs.Ticketing.{count_waiting}
use Rattle.shared_core.proofs.state.SharedState.accept.Goals as goal

pub invariant_of-self : goal.invariant_of-self
invariant_of-self g c =
    let kept = c.self.invariant in
    let accepted = c.accept.ensures.accepted in
    let numbers = rw (← c.self.view_is) at c.requires.numbers in
    let waiting = count_waiting c.self.inside.accepted.values c.self.inside.waiting.values in
    let next = ap (λ (r : Ringed _). r.next_number) accepted in
    record {
      numbers = record {
        counted = omega (arith, kept.numbers.counted, next);
        emissions = omega (arith, numbers, waiting, next);
        subscriptions = kept.numbers.subscriptions;
        tickets = kept.numbers.tickets;
      };
      ring = record {
        capacity = kept.ring.capacity;
        replay = ap (λ (r : Ringed _). r.replay) accepted ∙ kept.ring.replay;
        limit = ap (λ (r : Ringed _). r.limit) accepted ∙ kept.ring.limit;
        subscribers = ap (λ (r : Ringed _). r.subscribers) accepted ∙ kept.ring.subscribers;
      };
      tickets = record {
        emits = kept.tickets.emits;
        accepted_limit = kept.tickets.accepted_limit;
        waiting_limit = kept.tickets.waiting_limit;
        within = kept.tickets.within;
        indexes = λ k d within. let this = kept.tickets.indexes k d within in omega (arith, this, next);
      };
      greetings = kept.greetings;
    }
