use Rattle.std.proofs.Common.{◌∙◌, ◌+◌, ◌<◌, ap, sym, subst, arith, length}
use Rattle.std.proofs.lemmas.List.Edits.{length-remove}
use Rattle.std.proofs.lemmas.Option.{slice_get_within}
use Rattle.std.specs.List.{remove}
use Rattle.shared_core.specs.declared.tickets.OutTicket.{OutTicket}
use Rattle.shared_core.specs.declared.tickets.Accepted.{Accepted}
use Rattle.flow_terms.specs.declared.answers.Withdrawn.TheVariants as withdrawn
use Rattle.shared_core.specs.Calls.{cancel_emit}
use Rattle.shared_core.specs.Queues.{Queued}
use Rattle.shared_core.specs.Shown.{Seen, Follows}
use Rattle.shared_core.proofs.Rising.{missing_accepted, missing_waiting}
use Rattle.shared_core.proofs.Ticketing.{shown_out, still_indexes, holds_there, held_nowhere, held_accepted, held_waiting, without_accepted, without_waiting, withdraw_missing, withdraw_stands, withdraw_waiting}
use Rattle.shared_core.proofs.state.SharedState.cancel_emit.Goals as goal

pub invariant_of-self : goal.invariant_of-self
invariant_of-self g c =
    let kept = c.self.invariant.tickets in
    let us = c.self.inside.accepted.values in
    let rest = ap (λ (q : Queued _). q.values) c.remove-accepted.ensures.rest in
    let shorter = length-remove us c.in-Some.at (slice_get_within us c.in-Some.at c.remove-accepted.result c.remove-accepted.ensures.value) in
    record {
      numbers = c.self.invariant.numbers;
      ring = c.self.invariant.ring;
      tickets = record {
        emits = kept.emits;
        accepted_limit = ap (λ (q : Queued _). q.limit) c.remove-accepted.ensures.rest ∙ kept.accepted_limit;
        waiting_limit = kept.waiting_limit;
        within = omega (arith, kept.within, ap length rest, shorter);
        indexes = still_indexes (λ (h : OutTicket Accepted). c.self.inside.config.first + h.emission.index < c.self.inside.ring.next_number) us c.remove-accepted.new.self.values c.in-Some.at rest kept.indexes;
      };
      greetings = c.self.invariant.greetings;
    }

pub returns-in-Some : goal.returns-in-Some
returns-in-Some g c =
    let now = c.args.self.now in
    let us = c.self.inside.accepted.values in
    let ws = c.self.inside.waiting.values in
    let at = c.in-Some.at in
    let held = c.remove-accepted.result in
    let out = ap (λ (seen : Seen _). seen.out) (sym c.self.view_is) in
    let follows = withdraw_stands now at c.args.ticket.0 held.emission.index (held_accepted now us ws out at c.args.ticket.0 held c.remove-accepted.ensures.value c.in-Some.ensures.found) in
    let numbered = subst (λ n. Follows (cancel_emit c.args.ticket.0) now (withdrawn.Left (n + held.emission.index)) (record now { out = remove now.out at })) (ap (λ (seen : Seen _). seen.parameters.first) (sym c.self.view_is)) follows in
    subst (Follows (cancel_emit c.args.ticket.0) now (withdrawn.Left (c.self.inside.config.first + held.emission.index)))
    (sym (ap (λ (seen : Seen _). record seen { out = shown_out c.remove-accepted.new.self.values ws }) c.self.view_is
    ∙ without_accepted now us ws out at c.remove-accepted.new.self.values (slice_get_within us at held c.remove-accepted.ensures.value) (ap (λ (q : Queued _). q.values) c.remove-accepted.ensures.rest))) numbered

pub remove-waiting-requires : goal.remove-waiting-requires
remove-waiting-requires g c = let found = c.in-Some-out_at.ensures.found in slice_get_within c.self.inside.waiting.values c.in-Some-out_at.at found.0 found.1

pub returns-in-None : goal.returns-in-None
returns-in-None g c M shows =
    let now = c.args.self.now in
    let n = c.args.ticket.0 in
    let us = c.self.inside.accepted.values in
    let ws = c.self.inside.waiting.values in
    let out = ap (λ (seen : Seen _). seen.out) (sym c.self.view_is) in
    withdraw_missing now n
    (held_nowhere now us ws out n (missing_accepted now M shows n us ws out c.in_default.ensures.none) (missing_waiting now M shows n us ws out c.in-None.ensures.none))
    M shows

pub returns-in-Some-out_at : goal.returns-in-Some-out_at
returns-in-Some-out_at g c =
    let now = c.args.self.now in
    let us = c.self.inside.accepted.values in
    let ws = c.self.inside.waiting.values in
    let at = c.in-Some-out_at.at in
    let found = c.in-Some-out_at.ensures.found in
    let out = ap (λ (seen : Seen _). seen.out) (sym c.self.view_is) in
    subst (Follows (cancel_emit c.args.ticket.0) now withdrawn.Removed)
    (sym (ap (λ (seen : Seen _). record seen { out = shown_out us c.remove-waiting.new.self.values }) c.self.view_is
    ∙ without_waiting now us ws out at c.remove-waiting.new.self.values (ap (λ (q : Queued _). q.values) c.remove-waiting.ensures.rest)))
    (withdraw_waiting now (length us + at) c.args.ticket.0 found.0.emission.emitter found.0.emission.value (held_waiting now us ws out at c.args.ticket.0 found))

pub remove-accepted-requires : goal.remove-accepted-requires
remove-accepted-requires g c = let found = c.in-Some.ensures.found in slice_get_within c.self.inside.accepted.values c.in-Some.at found.0 found.1

pub overflow_add-result : goal.overflow_add-result
overflow_add-result g c =
    let flow = c.self.inside in
    let accepted = holds_there (λ (h : OutTicket Accepted). flow.config.first + h.emission.index < flow.ring.next_number) flow.accepted.values c.in-Some.at c.remove-accepted.result c.self.invariant.tickets.indexes c.remove-accepted.ensures.value in
    omega (arith, accepted, c.self.invariant.numbers.emissions)

pub invariant_of-self-in-Some-out_at : goal.invariant_of-self-in-Some-out_at
invariant_of-self-in-Some-out_at g c =
    let numbers = c.self.invariant.numbers in
    let kept = c.self.invariant.tickets in
    let ws = c.self.inside.waiting.values in
    let at = c.in-Some-out_at.at in
    let rest = ap (λ (q : Queued _). q.values) c.remove-waiting.ensures.rest in
    let shorter = length-remove ws at (slice_get_within ws at c.remove-waiting.result c.remove-waiting.ensures.value) in
    record {
      numbers = record {
        counted = numbers.counted;
        emissions = omega (arith, numbers.emissions, ap length rest, shorter);
        subscriptions = numbers.subscriptions;
        tickets = numbers.tickets;
      };
      ring = c.self.invariant.ring;
      tickets = record {
        emits = kept.emits;
        accepted_limit = kept.accepted_limit;
        waiting_limit = ap (λ (q : Queued _). q.limit) c.remove-waiting.ensures.rest ∙ kept.waiting_limit;
        within = omega (arith, kept.within, ap length rest, shorter);
        indexes = kept.indexes;
      };
      greetings = c.self.invariant.greetings;
    }
