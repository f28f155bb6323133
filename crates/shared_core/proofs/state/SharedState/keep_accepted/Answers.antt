use Rattle.std.proofs.Common.{◌≡◌, ◌∙◌, ◌+◌, ◌<◌, [], ◌∷◌, ◌++◌, List, length, ap, sym, arith, refl}
use Rattle.std.proofs.lemmas.List.{append-nil, map-append, length_push}
use Rattle.std.proofs.lemmas.List.Elements.{All-push, All-same}
use Rattle.shared_core.specs.declared.tickets.OutTicket.{OutTicket}
use Rattle.shared_core.specs.declared.tickets.Accepted.{Accepted}
use Rattle.shared_core.specs.declared.tickets.Waiting.{Waiting}
use Rattle.shared_core.specs.Flow.{stands}
use Rattle.shared_core.specs.Queues.{Queued}
use Rattle.shared_core.specs.Shown.{Seen}
use Rattle.shared_core.specs.Kept.{shown_accepted}
use Rattle.shared_core.proofs.Ticketing.{shown_out, count_waiting, length-out}
use Rattle.shared_core.proofs.state.SharedState.keep_accepted.Goals as goal

none_left : {X : Type 0} (xs : List X) → length xs ≡ 0 → xs ≡ []
none_left [] none = refl
none_left (x ∷ xs) none = absurd (omega arith)

-- where none waits, one more accepted emission has the last ticket
last_ticket : {T : Type 0} (us : List (OutTicket Accepted)) (ws : List (OutTicket (Waiting T))) (h : OutTicket Accepted) → ws ≡ [] → shown_out (us ++ h ∷ []) ws ≡ shown_out us ws ++ shown_accepted h ∷ []
last_ticket us ws h none =
    ap (shown_out (us ++ h ∷ [])) none ∙ append-nil _ ∙ map-append shown_accepted us (h ∷ []) ∙ ap (λ xs. xs ++ shown_accepted h ∷ []) (sym (append-nil _) ∙ ap (shown_out us) (sym none))

pub overflow_add-ticket : goal.overflow_add-ticket
overflow_add-ticket g c = omega (arith, c.self.invariant.numbers.tickets)

pub push-requires : goal.push-requires
push-requires g c =
    let space = rw (← c.self.view_is) at c.requires.space in
    omega (arith, space, length-out c.self.inside.accepted.values c.self.inside.waiting.values, c.self.invariant.tickets.accepted_limit)

pub overflow_add-self : goal.overflow_add-self
overflow_add-self g c = omega (arith, c.self.invariant.numbers.tickets)

pub invariant_of-self : goal.invariant_of-self
invariant_of-self g c =
    let kept = c.self.invariant in
    let flow = c.self.inside in
    let us = flow.accepted.values in
    let numbers = rw (← c.self.view_is) at c.requires.numbers in
    let space = rw (← c.self.view_is) at c.requires.space in
    let accepted = rw (← c.self.view_is) at c.requires.accepted in
    let h : OutTicket Accepted = record { ticket = flow.config.first + flow.given; emission = record { index = c.args.index } } in
    let pushed : c.push.new.self.values ≡ us ++ h ∷ [] = ap (λ (q : Queued _). q.values) c.push.ensures in
    let is_index = λ (h : OutTicket Accepted). flow.config.first + h.emission.index < flow.ring.next_number in
    record {
      numbers = record {
        counted = kept.numbers.counted;
        emissions = kept.numbers.emissions;
        subscriptions = kept.numbers.subscriptions;
        tickets = omega (arith, numbers);
      };
      ring = kept.ring;
      tickets = record {
        emits = kept.tickets.emits;
        accepted_limit = ap (λ (q : Queued _). q.limit) c.push.ensures ∙ kept.tickets.accepted_limit;
        waiting_limit = kept.tickets.waiting_limit;
        within = omega (arith, space, ap length pushed, length_push us h, length-out us flow.waiting.values);
        indexes = All-same is_index c.push.new.self.values (us ++ h ∷ []) pushed (All-push is_index us h kept.tickets.indexes accepted);
      };
      greetings = kept.greetings;
    }

pub returns-clause-ticket : goal.returns-clause-ticket
returns-clause-ticket g c = ap (λ (seen : Seen _). seen.parameters.first + seen.tickets) c.self.view_is

pub returns-clause-given : goal.returns-clause-given
returns-clause-given g c =
    let now = c.args.self.now in
    let us = c.self.inside.accepted.values in
    let ws = c.self.inside.waiting.values in
    let h : OutTicket Accepted = record { ticket = c.self.inside.config.first + c.self.inside.given; emission = record { index = c.args.index } } in
    let none : ws ≡ [] = none_left ws (sym (count_waiting us ws) ∙ rw (← c.self.view_is) at c.requires.alone) in
    let out = ap (λ vs. shown_out vs ws) (ap (λ (q : Queued _). q.values) c.push.ensures) ∙ last_ticket us ws h none in
    ap (λ (seen : Seen _). record seen { tickets = seen.tickets + 1; out = shown_out c.push.new.self.values ws }) c.self.view_is
    ∙ ap (λ xs. record now { tickets = now.tickets + 1; out = xs }) out
    ∙ ap (λ (seen : Seen _). record now { tickets = now.tickets + 1; out = seen.out ++ (seen.parameters.first + seen.tickets, stands c.args.index) ∷ [] }) c.self.view_is
