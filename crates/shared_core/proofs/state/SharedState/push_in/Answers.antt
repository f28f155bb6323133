use Rattle.std.proofs.Common.{refl, ap, ◌∙◌, arith}
use Rattle.shared_core.specs.Flow.{places}
use Rattle.shared_core.specs.Ringed.{Ringed}
use Rattle.shared_core.specs.Shown.{Seen}
use Rattle.shared_core.proofs.Rings.{push_step}
use Rattle.shared_core.proofs.Ticketing.{count_waiting}
use Rattle.shared_core.proofs.state.SharedState.push_in.Goals as goal

pub invariant_of-self : goal.invariant_of-self
invariant_of-self g c =
    let kept = c.self.invariant in
    let ring = c.push.ensures.pushed in
    let numbers = rw (← c.self.view_is) at c.requires in
    let waiting = count_waiting c.self.inside.accepted.values c.self.inside.waiting.values in
    let next = ap (λ (r : Ringed _). r.next_number) ring in
    record {
      numbers = record {
        counted = omega (arith, kept.numbers.counted, next);
        emissions = omega (arith, numbers, waiting, next);
        subscriptions = kept.numbers.subscriptions;
        tickets = kept.numbers.tickets;
      };
      ring = record {
        capacity = kept.ring.capacity;
        replay = ap (λ (r : Ringed _). r.replay) ring ∙ kept.ring.replay;
        limit = ap (λ (r : Ringed _). r.limit) ring ∙ kept.ring.limit;
        subscribers = ap (λ (r : Ringed _). r.subscribers) ring ∙ kept.ring.subscribers;
      };
      tickets = record {
        emits = kept.tickets.emits;
        accepted_limit = kept.tickets.accepted_limit;
        waiting_limit = kept.tickets.waiting_limit;
        within = kept.tickets.within;
        indexes = λ k d within. let this = kept.tickets.indexes k d within in omega (arith, this, next);
      };
      greetings = kept.greetings;
    }

pub returns-clause-number : goal.returns-clause-number
returns-clause-number g c = c.push.ensures.number ∙ ap (λ (s : Seen _). s.next_number) c.self.view_is

pub returns-clause-accepted : goal.returns-clause-accepted
returns-clause-accepted g c =
    let now = c.args.self.now in
    let kept = c.self.invariant.ring in
    push_step _ now c.self.inside.ring c.push.new.self c.self.view_is refl c.args.value (places now.parameters) kept.replay
    (kept.limit ∙ ap (λ (s : Seen _). places s.parameters) c.self.view_is) c.push.ensures.pushed
