use Rattle.std.proofs.Common.{◌≡◌, ◌∙◌, ◌+◌, [], ◌∷◌, length, ap, arith, length-append}
use Rattle.shared_core.specs.Queues.{Queued}
use Rattle.shared_core.proofs.Ticketing.{count_waiting, length-out}
use Rattle.shared_core.proofs.state.SharedState.keep_waiting.Goals as goal

pub invariant_of-self : goal.invariant_of-self
invariant_of-self g c =
    let kept = c.self.invariant in
    let us = c.self.inside.accepted.values in
    let ws = c.self.inside.waiting.values in
    let numbers = rw (← c.self.view_is) at c.requires.numbers in
    let room = rw (← c.self.view_is) at c.requires.room in
    let space = rw (← c.self.view_is) at c.requires.space in
    let more : length c.push.new.self.values ≡ length ws + 1 = ap (λ (q : Queued _). length q.values) c.push.ensures ∙ length-append ws (_ ∷ []) in
    record {
      numbers = record {
        counted = kept.numbers.counted;
        emissions = omega (arith, room, more, count_waiting us ws);
        subscriptions = kept.numbers.subscriptions;
        tickets = omega (arith, numbers);
      };
      ring = kept.ring;
      tickets = record {
        emits = kept.tickets.emits;
        accepted_limit = kept.tickets.accepted_limit;
        waiting_limit = ap (λ (q : Queued _). q.limit) c.push.ensures ∙ kept.tickets.waiting_limit;
        within = omega (arith, space, more, length-out us ws);
        indexes = kept.tickets.indexes;
      };
      greetings = kept.greetings;
    }
