use Rattle.std.proofs.Common.{◌≡◌, ◌∙◌, ◌+◌, ◌-◌, ◌<◌, [], ◌∷◌, ◌++◌, length, drop, ap, sym, arith}
use Rattle.std.proofs.lemmas.List.{length_push}
use Rattle.std.proofs.lemmas.List.Elements.{All-push, All-same}
use Rattle.shared_core.specs.declared.tickets.OutTicket.{OutTicket}
use Rattle.shared_core.specs.declared.tickets.Accepted.{Accepted}
use Rattle.shared_core.specs.Queues.{Queued}
use Rattle.shared_core.specs.Shown.{Seen}
use Rattle.shared_core.specs.Accepting.{with_accepted}
use Rattle.shared_core.proofs.Entries.{none_first, some_first}
use Rattle.shared_core.proofs.Ticketing.{shown_out, count_waiting, length-out, landed, one_more_accepted, settles_none, settles_once}
use Rattle.shared_core.proofs.state.SharedState.accept_oldest.Goals as goal

pub returns-in_default : goal.returns-in_default
returns-in_default g c =
    let us = c.self.inside.accepted.values in
    settles_none c.args.self.now us (ap (λ (seen : Seen _). seen.out) (sym c.self.view_is) ∙ ap (shown_out us) (none_first c.self.inside.waiting.values (sym c.in_default.ensures)))

-- the queue before its first was taken
taken_first : {X : Type 0} (before after : Queued X) (x : X) → x ∷ drop 1 before.values ≡ before.values → after ≡ record before { values = drop 1 before.values } → before.values ≡ x ∷ after.values
taken_first before after x more rest = sym more ∙ ap (λ (q : Queued _). x ∷ q.values) (sym rest)

pub accept-requires-clause-numbers : goal.accept-requires-clause-numbers
accept-requires-clause-numbers g c =
    let ws = c.self.inside.waiting.values in
    let before = taken_first c.self.inside.waiting c.pop-oldest.new.self c.in-Some.oldest (sym (some_first ws c.in-Some.oldest (sym c.in-Some.ensures))) c.pop-oldest.ensures.rest in
    omega (arith, c.self.invariant.numbers.emissions, ap length before, count_waiting c.self.inside.accepted.values c.pop-oldest.new.self.values)

pub invariant_of-self : goal.invariant_of-self
invariant_of-self g c =
    let numbers = c.self.invariant.numbers in
    let kept = c.self.invariant.tickets in
    let ws = c.self.inside.waiting.values in
    let before = taken_first c.self.inside.waiting c.pop-oldest.new.self c.in-Some.oldest (sym (some_first ws c.in-Some.oldest (sym c.in-Some.ensures))) c.pop-oldest.ensures.rest in
    record {
      numbers = record {
        counted = numbers.counted;
        emissions = omega (arith, numbers.emissions, ap length before);
        subscriptions = numbers.subscriptions;
        tickets = numbers.tickets;
      };
      ring = c.self.invariant.ring;
      tickets = record {
        emits = kept.emits;
        accepted_limit = kept.accepted_limit;
        waiting_limit = ap (λ (q : Queued _). q.limit) c.pop-oldest.ensures.rest ∙ kept.waiting_limit;
        within = omega (arith, kept.within, ap length before);
        indexes = kept.indexes;
      };
      greetings = c.self.invariant.greetings;
    }

pub invariant_of-self-2 : goal.invariant_of-self-2
invariant_of-self-2 g c =
    let us = c.self.inside.accepted.values in
    let ws = c.self.inside.waiting.values in
    let before = taken_first c.self.inside.waiting c.pop-oldest.new.self c.in-Some.oldest (sym (some_first ws c.in-Some.oldest (sym c.in-Some.ensures))) c.pop-oldest.ensures.rest in
    let seen = c.self-2.view_is ∙ c.accept.ensures.accepted in
    let kept = c.self-2.invariant.tickets in
    let config = c.self-2.inside.config in
    let i = c.accept.result - c.self-2.inside.config.first in
    let pushed : c.push.new.self.values ≡ c.self-2.inside.accepted.values ++ landed i c.in-Some.oldest ∷ [] = ap (λ (q : Queued _). q.values) c.push.ensures in
    let is_index = λ (h : OutTicket Accepted). config.first + h.emission.index < c.self-2.inside.ring.next_number in
    record {
      numbers = c.self-2.invariant.numbers;
      ring = c.self-2.invariant.ring;
      tickets = record {
        emits = kept.emits;
        accepted_limit = ap (λ (q : Queued _). q.limit) c.push.ensures ∙ kept.accepted_limit;
        waiting_limit = kept.waiting_limit;
        within = omega (
          arith,
          c.self.invariant.tickets.within,
          ap length before,
          ap length pushed,
          length_push c.self-2.inside.accepted.values (landed i c.in-Some.oldest),
          length-out us c.pop-oldest.new.self.values,
          length-out c.self-2.inside.accepted.values c.self-2.inside.waiting.values,
          ap (λ (s : Seen _). length s.out) seen,
          ap (λ (s : Seen _). s.parameters.emits) seen,
        );
        indexes =
            All-same is_index c.push.new.self.values (c.self-2.inside.accepted.values ++ landed i c.in-Some.oldest ∷ []) pushed
            (All-push is_index c.self-2.inside.accepted.values (landed i c.in-Some.oldest) kept.indexes
            (omega (arith, c.accept.ensures.number, c.self.invariant.numbers.counted, ap (λ (s : Seen _). s.next_number) seen, ap (λ (s : Seen _). s.parameters.first) seen)));
      };
      greetings = c.self-2.invariant.greetings;
    }

pub returns : goal.returns
returns g c =
    let now = c.args.self.now in
    let us = c.self.inside.accepted.values in
    let ws = c.self.inside.waiting.values in
    let oldest = c.in-Some.oldest in
    let rest = c.pop-oldest.new.self.values in
    let i = c.accept.result - c.self-2.inside.config.first in
    let before = taken_first c.self.inside.waiting c.pop-oldest.new.self oldest (sym (some_first ws oldest (sym c.in-Some.ensures))) c.pop-oldest.ensures.rest in
    let seen = c.self-2.view_is ∙ c.accept.ensures.accepted in
    let us_after = c.self-2.inside.accepted.values in
    let ws_after = c.self-2.inside.waiting.values in
    let index_is =
    ap (λ n. n - c.self-2.inside.config.first) c.accept.ensures.number
    ∙ ap (λ (s : Seen _). c.self.inside.ring.next_number - s.parameters.first) seen
    ∙ ap (λ (s : Seen _). s.next_number - s.parameters.first) c.self.view_is in
    let shown =
    ap (λ vs. shown_out vs ws_after) (ap (λ (q : Queued _). q.values) c.push.ensures) ∙ one_more_accepted us_after us ws_after rest (landed i oldest) (ap (λ (s : Seen _). s.out) seen) in
    settles_once now _ us oldest rest i index_is
    (ap (λ (s : Seen _). s.out) (sym c.self.view_is) ∙ ap (shown_out us) before)
    c.requires
    (ap (λ (s : Seen _). record s { out = shown_out c.push.new.self.values ws_after }) c.self-2.view_is
    ∙ ap (λ xs. record c.accept.new.self { out = xs }) shown
    ∙ ap (λ (s : Seen _). record s { out = shown_out (us ++ landed i oldest ∷ []) rest }) c.accept.ensures.accepted
    ∙ ap (λ (s : Seen _). record (with_accepted oldest.emission.value s) { out = shown_out (us ++ landed i oldest ∷ []) rest }) c.self.view_is)
