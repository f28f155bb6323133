use Rattle.std.proofs.Common.{ℕ, List, Some, slice_get, ◌∙◌, ◌≡◌, ◌+◌, ◌<◌, ap, sym, subst, arith, length}
use Rattle.std.proofs.lemmas.List.Edits.{length-remove}
use Rattle.std.proofs.lemmas.Option.{slice_get_within}
use Rattle.std.specs.List.{All, remove}
use Rattle.shared_core.specs.declared.config.Config.{Config}
use Rattle.shared_core.specs.declared.tickets.OutTicket.{OutTicket}
use Rattle.shared_core.specs.declared.tickets.Accepted.{Accepted}
use Rattle.flow_terms.specs.declared.answers.Emit.TheVariants as emit
use Rattle.shared_core.specs.Calls.{poll_emit}
use Rattle.shared_core.specs.Queues.{Queued}
use Rattle.shared_core.specs.Shown.{Seen, Follows}
use Rattle.shared_core.proofs.Rising.{missing_accepted, missing_waiting}
use Rattle.shared_core.proofs.Ticketing.{shown_out, still_indexes, holds_there, held_nowhere, held_accepted, held_waiting, without_accepted, poll_missing, poll_waiting, poll_unfinished, poll_done}
use Rattle.shared_core.proofs.state.SharedState.poll_emit.Goals as goal
use Rattle.shared_core.proofs.state.SharedState.poll_emit.Goals.{in-None, in-Some-out_at}

pub returns-in_default : goal.returns-in_default
returns-in_default g c M shows =
    let now = c.args.self.now in
    let us = c.self.inside.accepted.values in
    let ws = c.self.inside.waiting.values in
    let out = ap (λ (seen : Seen _). seen.out) (sym c.self.view_is) in
    elim c.match-out_at-2.branch [
      | in-None w ↦ subst (λ answer. Follows (poll_emit c.args.ticket.0) now answer now) (sym w.result-is)
          (poll_missing now c.args.ticket.0
          (held_nowhere now us ws out c.args.ticket.0 (missing_accepted now M shows c.args.ticket.0 us ws out c.in_default.ensures.none) (missing_waiting now M shows c.args.ticket.0 us ws out w.in-None.ensures.none)))
          M shows
      | in-Some-out_at w ↦ let found = w.in-Some-out_at.ensures.found in
          subst (λ answer. Follows (poll_emit c.args.ticket.0) now answer now) (sym w.result-is)
          (poll_waiting now (length us + w.in-Some-out_at.field-0) c.args.ticket.0 found.0.emission.emitter found.0.emission.value (held_waiting now us ws out w.in-Some-out_at.field-0 c.args.ticket.0 found))
          M shows
    ]

pub get-index-requires : goal.get-index-requires
get-index-requires g c = let found = c.in-Some.ensures.found in slice_get_within c.self.inside.accepted.values c.in-Some.at found.0 found.1

pub remove-done-requires : goal.remove-done-requires
remove-done-requires g c = let found = c.in-Some.ensures.found in slice_get_within c.self.inside.accepted.values c.in-Some.at found.0 found.1

-- the emission was accepted
is_accepted : (config : Config) (next : ℕ) (us : List (OutTicket Accepted)) (at : ℕ) (h : OutTicket Accepted) → All (λ h. config.first + h.emission.index < next) us → slice_get us at ≡ Some h → config.first + h.emission.index < next
is_accepted config next us at h indexes gets = holds_there (λ (h : OutTicket Accepted). config.first + h.emission.index < next) us at h indexes gets

pub is_finished-requires : goal.is_finished-requires
is_finished-requires g c =
    rw (← c.self.view_is) (is_accepted c.self.inside.config c.self.inside.ring.next_number c.self.inside.accepted.values c.in-Some.at c.get-index.result c.self.invariant.tickets.indexes c.get-index.ensures)

pub overflow_add-result : goal.overflow_add-result
overflow_add-result g c =
    let accepted = is_accepted c.self.inside.config c.self.inside.ring.next_number c.self.inside.accepted.values c.in-Some.at c.get-index.result c.self.invariant.tickets.indexes c.get-index.ensures in
    omega (arith, accepted, c.self.invariant.numbers.emissions)

pub invariant_of-self : goal.invariant_of-self
invariant_of-self g c =
    let kept = c.self.invariant.tickets in
    let us = c.self.inside.accepted.values in
    let rest = ap (λ (q : Queued _). q.values) c.remove-done.ensures.rest in
    let shorter = length-remove us c.in-Some.at (slice_get_within us c.in-Some.at c.remove-done.result c.remove-done.ensures.value) in
    record {
      numbers = c.self.invariant.numbers;
      ring = c.self.invariant.ring;
      tickets = record {
        emits = kept.emits;
        accepted_limit = ap (λ (q : Queued _). q.limit) c.remove-done.ensures.rest ∙ kept.accepted_limit;
        waiting_limit = kept.waiting_limit;
        within = omega (arith, kept.within, ap length rest, shorter);
        indexes = still_indexes (λ (h : OutTicket Accepted). c.self.inside.config.first + h.emission.index < c.self.inside.ring.next_number) us c.remove-done.new.self.values c.in-Some.at rest kept.indexes;
      };
      greetings = c.self.invariant.greetings;
    }

pub returns-then-not-is_finished : goal.returns-then-not-is_finished
returns-then-not-is_finished g c =
    let now = c.args.self.now in
    let held = c.get-index.result in
    let accepted = is_accepted c.self.inside.config c.self.inside.ring.next_number c.self.inside.accepted.values c.in-Some.at held c.self.invariant.tickets.indexes c.get-index.ensures in
    poll_unfinished now c.in-Some.at c.args.ticket.0 held.emission.index
    (held_accepted now c.self.inside.accepted.values c.self.inside.waiting.values (ap (λ (seen : Seen _). seen.out) (sym c.self.view_is)) c.in-Some.at c.args.ticket.0 held c.get-index.ensures c.in-Some.ensures.found)
    (subst (λ (seen : Seen _). seen.parameters.first + held.emission.index < seen.next_number) c.self.view_is accepted)
    (sym c.is_finished.ensures ∙ c.if-not-is_finished.true)

pub returns : goal.returns
returns g c =
    let now = c.args.self.now in
    let us = c.self.inside.accepted.values in
    let ws = c.self.inside.waiting.values in
    let at = c.in-Some.at in
    let held = c.get-index.result in
    let out = ap (λ (seen : Seen _). seen.out) (sym c.self.view_is) in
    let accepted = is_accepted c.self.inside.config c.self.inside.ring.next_number us at held c.self.invariant.tickets.indexes c.get-index.ensures in
    let follows = poll_done now at c.args.ticket.0 held.emission.index (held_accepted now us ws out at c.args.ticket.0 held c.get-index.ensures c.in-Some.ensures.found)
    (subst (λ (seen : Seen _). seen.parameters.first + held.emission.index < seen.next_number) c.self.view_is accepted)
    (sym c.is_finished.ensures ∙ c.if-not-is_finished.false) in
    let numbered = subst (λ n. Follows (poll_emit c.args.ticket.0) now (emit.Done (n + held.emission.index)) (record now { out = remove now.out at })) (ap (λ (seen : Seen _). seen.parameters.first) (sym c.self.view_is)) follows in
    subst (Follows (poll_emit c.args.ticket.0) now (emit.Done (c.self.inside.config.first + held.emission.index)))
    (sym (ap (λ (seen : Seen _). record seen { out = shown_out c.remove-done.new.self.values ws }) c.self.view_is
    ∙ without_accepted now us ws out at c.remove-done.new.self.values (slice_get_within us at held c.get-index.ensures) (ap (λ (q : Queued _). q.values) c.remove-done.ensures.rest))) numbered
