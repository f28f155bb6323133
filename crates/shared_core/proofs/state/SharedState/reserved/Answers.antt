use Rattle.std.proofs.Common.{◌≡◌, ◌+◌, ◌≤◌, Bool, true, false, not, ◌||◌, cond, eqb, leb, Option, Some, None, length, refl, ap, arith}
use Rattle.std.proofs.lemmas.Bool.{leb-true}
use Rattle.flow_terms.specs.declared.refusal.Refusal.{Refusal}
use Rattle.flow_terms.specs.declared.refusal.Refusal.TheVariants.{TooLarge, PolicyNeedsBuffer, BadLimit}
use Rattle.shared_core.specs.declared.config.Config.{Config}
use Rattle.shared_core.specs.Flow.{number_limit}
use Rattle.shared_core.specs.Kept.{making_refusal, parameters_of}
use Rattle.shared_core.specs.Queues.{Queued}
use Rattle.shared_core.specs.Ringed.{Ringed}
use Rattle.shared_core.proofs.Bodies.{shows_empty}
use Rattle.shared_core.proofs.Numbered.{or_false_right}
use Rattle.shared_core.proofs.state.SharedState.reserved.Goals as goal

pub returns : goal.returns
returns g c =
    shows_empty (parameters_of c.args.config) c.in_ok-ring.ring c.in_ok-accepted.accepted.values c.in_ok-waiting.waiting.values c.in_ok-greetings.greetings.values
    c.in_ok-ring.ensures (ap (λ (q : Queued _). q.values) c.in_ok-accepted.ensures) (ap (λ (q : Queued _). q.values) c.in_ok-waiting.ensures) (ap (λ (q : Queued _). q.values) c.in_ok-greetings.ensures)

-- where nothing is refused, no reason to refuse holds
unrefused : (b : Bool) (refusal : Refusal) (later : Option Refusal) → cond b (Some refusal) later ≡ None → (b ≡ false) × (later ≡ None)
unrefused true refusal later is = absurd (cc)
unrefused false refusal later is = (refl, is)

turned : (b : Bool) → not b ≡ false → b ≡ true
turned true is = refl
turned false is = absurd (cc)

-- the bounds of what a flow is made with
record IsBounded (c : Config) : Type 0 where
  capacity : c.replay + c.extra ≤ 65536
  subscribers : c.subscribers ≤ 1024
  emits : c.emits ≤ 1024
  first : c.first ≤ number_limit

bounded : (c : Config) → making_refusal c ≡ None → IsBounded c
bounded c made =
    let large = unrefused _ TooLarge _ made in
    let buffer = unrefused _ PolicyNeedsBuffer _ large.1 in
    let subscribers = unrefused (eqb c.subscribers 0 || not (leb c.subscribers 1024)) BadLimit _ buffer.1 in
    let emits = unrefused (eqb c.emits 0 || not (leb c.emits 1024)) BadLimit _ subscribers.1 in
    let first = unrefused (not (leb c.first number_limit)) BadLimit _ emits.1 in
    record {
      capacity = leb-true (c.replay + c.extra) 65536 (turned (leb (c.replay + c.extra) 65536) large.0);
      subscribers = leb-true c.subscribers 1024 (turned (leb c.subscribers 1024) (or_false_right (eqb c.subscribers 0) (not (leb c.subscribers 1024)) subscribers.0));
      emits = leb-true c.emits 1024 (turned (leb c.emits 1024) (or_false_right (eqb c.emits 0) (not (leb c.emits 1024)) emits.0));
      first = leb-true c.first number_limit (turned (leb c.first number_limit) first.0);
    }

pub new-requires-clause-capacity : goal.new-requires-clause-capacity
new-requires-clause-capacity g c = (bounded c.args.config c.requires).capacity

pub new-requires-clause-subscribers : goal.new-requires-clause-subscribers
new-requires-clause-subscribers g c = (bounded c.args.config c.requires).subscribers

pub new-requires-clause-first : goal.new-requires-clause-first
new-requires-clause-first g c = (bounded c.args.config c.requires).first

pub invariant_of-result : goal.invariant_of-result
invariant_of-result g c =
    let config = c.args.config in
    let bounds = bounded config c.requires in
    let ring = c.in_ok-ring.ensures in
    let next = ap (λ (r : Ringed _). r.next_number) ring in
    let no_accepted = ap (λ (q : Queued _). length q.values) c.in_ok-accepted.ensures in
    let no_waiting = ap (λ (q : Queued _). length q.values) c.in_ok-waiting.ensures in
    record {
      numbers = record {
        counted = omega (arith, next);
        emissions = omega (arith, next, no_waiting, bounds.first);
        subscriptions = omega (arith, bounds.first);
        tickets = omega (arith, bounds.first);
      };
      ring = record {
        capacity = bounds.capacity;
        replay = ap (λ (r : Ringed _). r.replay) ring;
        limit = ap (λ (r : Ringed _). r.limit) ring;
        subscribers = ap (λ (r : Ringed _). r.subscribers) ring;
      };
      tickets = record {
        emits = bounds.emits;
        accepted_limit = ap (λ (q : Queued _). q.limit) c.in_ok-accepted.ensures;
        waiting_limit = ap (λ (q : Queued _). q.limit) c.in_ok-waiting.ensures;
        within = omega (arith, no_accepted, no_waiting);
        indexes = λ k d within. absurd (omega (arith, within, no_accepted));
      };
      greetings = ap (λ (q : Queued _). q.limit) c.in_ok-greetings.ensures;
    }
