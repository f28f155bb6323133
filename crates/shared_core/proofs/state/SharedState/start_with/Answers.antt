use Rattle.std.proofs.Common.{◌≡◌, ◌∙◌, ◌+◌, ◌-◌, ◌<◌, ◌≤◌, ℕ, Bool, true, false, not, Ok, inl, inr, length, ap, sym, refl, subst, arith, ltb-true}
use Rattle.flow_terms.specs.declared.answers.Begun.TheVariants as begun
use Rattle.shared_core.specs.Flow.{number_limit, stands}
use Rattle.shared_core.specs.Calls.{start_emit, handed_over, held_up}
use Rattle.shared_core.specs.Shown.{Seen, Follows}
use Rattle.shared_core.specs.Accepting.{with_ticket, with_accepted, waiting_in, HasFate}
use Rattle.shared_core.proofs.Emitting.{below_limit, spent_in, unspent_from, start_enters, start_pushes, start_dropped, start_full, start_hands, start_waits}
use Rattle.shared_core.proofs.state.SharedState.start_with.Goals as goal

not_false : (b : Bool) → false ≡ not b → b ≡ true
not_false true h = refl
not_false false h = absurd (cc)

not_true : (b : Bool) → true ≡ not b → b ≡ false
not_true true h = absurd (cc)
not_true false h = refl

pub accept-requires-clause-numbers : goal.accept-requires-clause-numbers
accept-requires-clause-numbers g c = c.requires.numbers

pub push_in-requires : goal.push_in-requires
push_in-requires g c = c.requires.numbers

pub accept-requires-in-HandedOver-clause-numbers : goal.accept-requires-in-HandedOver-clause-numbers
accept-requires-in-HandedOver-clause-numbers g c = c.requires.numbers

pub keep_waiting-requires-clause-numbers : goal.keep_waiting-requires-clause-numbers
keep_waiting-requires-clause-numbers g c = c.requires.tickets

pub keep_waiting-requires-clause-space : goal.keep_waiting-requires-clause-space
keep_waiting-requires-clause-space g c = ltb-true (length c.args.self.now.out) c.args.self.now.parameters.emits (not_false _ (sym c.if-is_full-2.false ∙ c.is_full-in-HeldUp.ensures))

pub keep_accepted-requires-clause-numbers : goal.keep_accepted-requires-clause-numbers
keep_accepted-requires-clause-numbers g c =
    subst (λ (seen : Seen _). seen.parameters.first + seen.tickets < number_limit) (sym c.accept-in-HandedOver.ensures.accepted)
    (c.requires.tickets)

pub keep_accepted-requires-clause-space : goal.keep_accepted-requires-clause-space
keep_accepted-requires-clause-space g c =
    subst (λ (seen : Seen _). length seen.out < seen.parameters.emits) (sym c.accept-in-HandedOver.ensures.accepted)
    (ltb-true (length c.args.self.now.out) c.args.self.now.parameters.emits (not_false _ (sym c.if-is_full.false ∙ c.is_full.ensures)))

-- where the first emission's number is
first_there : {T : Type 0} (view now after : Seen T) (v : T) → view ≡ now → after ≡ with_accepted v now → view.parameters.first ≤ view.next_number
    → (view.parameters.first ≡ after.parameters.first) × (view.parameters.first ≤ now.next_number) × (after.next_number ≡ now.next_number + 1)
first_there view now after v is accepted counted =
    let numbers = ap (λ (s : Seen _). s.next_number) is in
    let first = ap (λ (s : Seen _). s.parameters.first) is in
    let next = ap (λ (s : Seen _). s.next_number) accepted in
    let same = ap (λ (s : Seen _). s.parameters.first) accepted in
    (omega (arith, first, same), omega (arith, numbers, counted), next)

pub overflow_sub-index : goal.overflow_sub-index
overflow_sub-index g c =
    let there = first_there _ c.args.self.now c.accept-in-HandedOver.new.self c.args.value c.self.view_is c.accept-in-HandedOver.ensures.accepted c.self.invariant.numbers.counted in
    omega (arith, there.1, c.accept-in-HandedOver.ensures.number)

pub keep_accepted-requires-clause-accepted : goal.keep_accepted-requires-clause-accepted
keep_accepted-requires-clause-accepted g c =
    let there = first_there _ c.args.self.now c.accept-in-HandedOver.new.self c.args.value c.self.view_is c.accept-in-HandedOver.ensures.accepted c.self.invariant.numbers.counted in
    omega (arith, there.0, there.1, there.2, c.accept-in-HandedOver.ensures.number)

pub keep_waiting-requires-clause-room : goal.keep_waiting-requires-clause-room
keep_waiting-requires-clause-room g c = c.requires.numbers

-- the numbers aren't used up
none_spent : {T : Type 0} (emitter : ℕ) (v : T) (now : Seen T) → now.next_number + waiting_in now < number_limit → now.parameters.first + now.tickets < number_limit → spent_in emitter v now ≡ false
none_spent emitter v now numbers tickets = unspent_from emitter v now (below_limit _ numbers) (λ spent. omega (arith, tickets, spent))

pub returns-in-Enters : goal.returns-in-Enters
returns-in-Enters g c =
    rw (c.accept.ensures.number, c.accept.ensures.accepted)
    (start_enters c.args.emitter c.args.value c.args.self.now
    (none_spent c.args.emitter c.args.value c.args.self.now c.requires.numbers c.requires.tickets) (subst (HasFate c.args.self.now) c.in-Enters.is c.requires.fate))

pub returns-in-PushesIn : goal.returns-in-PushesIn
returns-in-PushesIn g c =
    rw (c.push_in.ensures.number, c.push_in.ensures.accepted)
    (start_pushes c.args.emitter c.args.value c.args.self.now
    (none_spent c.args.emitter c.args.value c.args.self.now c.requires.numbers c.requires.tickets) (subst (HasFate c.args.self.now) c.in-PushesIn.is c.requires.fate))

pub returns-in-Dropped : goal.returns-in-Dropped
returns-in-Dropped g c =
    start_dropped c.args.emitter c.args.value c.args.self.now
    (none_spent c.args.emitter c.args.value c.args.self.now c.requires.numbers c.requires.tickets) (subst (HasFate c.args.self.now) c.in-Dropped.is c.requires.fate)

pub returns-then-is_full : goal.returns-then-is_full
returns-then-is_full g c =
    start_full c.args.emitter c.args.value c.args.self.now
    (none_spent c.args.emitter c.args.value c.args.self.now c.requires.numbers c.requires.tickets) handed_over (subst (HasFate c.args.self.now) c.in-HandedOver.is c.requires.fate) (inl refl)
    (not_true _ (sym c.if-is_full.true ∙ c.is_full.ensures))

pub returns-then-is_full-2 : goal.returns-then-is_full-2
returns-then-is_full-2 g c =
    start_full c.args.emitter c.args.value c.args.self.now
    (none_spent c.args.emitter c.args.value c.args.self.now c.requires.numbers c.requires.tickets) held_up (subst (HasFate c.args.self.now) c.in-HeldUp.is c.requires.fate) (inr refl)
    (not_true _ (sym c.if-is_full-2.true ∙ c.is_full-in-HeldUp.ensures))

pub returns-else-is_full : goal.returns-else-is_full
returns-else-is_full g c =
    let now = c.args.self.now in
    let ticket : Ok (begun.Waiting c.keep_accepted.result) ≡ Ok (begun.Waiting (record { 0 = now.parameters.first + now.tickets })) =
    ap (λ n. Ok (begun.Waiting (record { 0 = n }))) (c.keep_accepted.ensures.ticket ∙ ap (λ (seen : Seen _). seen.parameters.first + seen.tickets) c.accept-in-HandedOver.ensures.accepted) in
    let left : c.keep_accepted.new.self ≡ with_ticket (stands (now.next_number - now.parameters.first)) (with_accepted c.args.value now) =
    c.keep_accepted.ensures.given
    ∙ ap (λ n. with_ticket (stands (n - c.self.inside.config.first)) c.accept-in-HandedOver.new.self) c.accept-in-HandedOver.ensures.number
    ∙ ap (λ (seen : Seen _). with_ticket (stands (now.next_number - seen.parameters.first)) c.accept-in-HandedOver.new.self) c.self.view_is
    ∙ ap (with_ticket (stands (now.next_number - now.parameters.first))) c.accept-in-HandedOver.ensures.accepted in
    let follows = start_hands c.args.emitter c.args.value now
    (none_spent c.args.emitter c.args.value now c.requires.numbers c.requires.tickets)
    (not_false _ (sym c.if-is_full.false ∙ c.is_full.ensures)) (subst (HasFate c.args.self.now) c.in-HandedOver.is c.requires.fate) in
    subst (λ result. Follows (start_emit c.args.emitter c.args.value) now result c.keep_accepted.new.self) (sym ticket)
    (subst (Follows (start_emit c.args.emitter c.args.value) now (Ok (begun.Waiting (record { 0 = now.parameters.first + now.tickets })))) (sym left) follows)

pub returns-else-is_full-2 : goal.returns-else-is_full-2
returns-else-is_full-2 g c =
    let now = c.args.self.now in
    let ticket : Ok (begun.Waiting c.keep_waiting.result) ≡ Ok (begun.Waiting (record { 0 = now.parameters.first + now.tickets })) = ap (λ n. Ok (begun.Waiting (record { 0 = n }))) c.keep_waiting.ensures.ticket in
    let follows = start_waits c.args.emitter c.args.value now
    (none_spent c.args.emitter c.args.value now c.requires.numbers c.requires.tickets)
    (not_false _ (sym c.if-is_full-2.false ∙ c.is_full-in-HeldUp.ensures)) (subst (HasFate c.args.self.now) c.in-HeldUp.is c.requires.fate) in
    subst (λ result. Follows (start_emit c.args.emitter c.args.value) now result c.keep_waiting.new.self) (sym ticket)
    (subst (Follows (start_emit c.args.emitter c.args.value) now (Ok (begun.Waiting (record { 0 = now.parameters.first + now.tickets })))) (sym c.keep_waiting.ensures.given) follows)
