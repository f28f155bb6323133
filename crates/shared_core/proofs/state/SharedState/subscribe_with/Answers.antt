use Rattle.std.proofs.Common.{◌+◌, ◌<◌, Ok, length, refl, ap, sym, subst, ◌∙◌, arith}
use Rattle.shared_core.specs.Calls.{subscribe_with}
use Rattle.shared_core.specs.Preludes.{prelude_values, begun_with}
use Rattle.shared_core.specs.Shown.{Seen, Follows}
use Rattle.shared_core.proofs.Bodies.{subscribe_follows-spent, subscribe_follows-full, subscribe_follows}
use Rattle.shared_core.proofs.Rings.{open_step}
use Rattle.shared_core.proofs.state.SharedState.subscribe_with.Goals as goal

pub returns-then-number-eq-NUMBER_LIMIT : goal.returns-then-number-eq-NUMBER_LIMIT
returns-then-number-eq-NUMBER_LIMIT g c =
    subscribe_follows-spent c.args.self.now (prelude_values c.args.prelude)
    (ap (λ (seen : Seen _). seen.parameters.first + seen.subscriptions) (sym c.self.view_is) ∙ c.if-number-eq-NUMBER_LIMIT.true)

pub returns-then-live_len-self : goal.returns-then-live_len-self
returns-then-live_len-self g c =
    subscribe_follows-full c.args.self.now (prelude_values c.args.prelude)
    (λ spent. c.if-number-eq-NUMBER_LIMIT.false (ap (λ (seen : Seen _). seen.parameters.first + seen.subscriptions) c.self.view_is ∙ spent))
    (ap (λ (seen : Seen _). length seen.live) (sym c.self.view_is) ∙ sym c.live_len.ensures.count ∙ c.if-live_len-self.true ∙ ap (λ (seen : Seen _). seen.parameters.subscribers) c.self.view_is)

pub returns : goal.returns
returns g c =
    let now = c.args.self.now in
    let n = c.self.inside.config.first + c.self.inside.subscribed in
    let view = c.self.view_is in
    let follows = subscribe_follows now (prelude_values c.args.prelude) n c.self.inside.greetings.limit c.begin.new.self.values
    (ap (λ (seen : Seen _). seen.parameters.first + seen.subscriptions) view) c.if-number-eq-NUMBER_LIMIT.false
    (λ full. c.if-live_len-self.false
    (c.live_len.ensures.count ∙ ap (λ (seen : Seen _). length seen.live) view ∙ full ∙ ap (λ (seen : Seen _). seen.parameters.subscribers) (sym view)))
    (omega (arith, c.live_len.ensures.bound.0, c.self.invariant.ring.subscribers, ap (λ (seen : Seen _). length seen.live) view, ap (λ (seen : Seen _). seen.parameters.subscribers) view))
    (c.self.invariant.greetings ∙ ap (λ (seen : Seen _). seen.parameters.subscribers) view)
    (λ room. c.begin.ensures.begun (subst (λ (seen : Seen _). length seen.rests < c.self.inside.greetings.limit) (sym view) room) ∙ ap (λ (seen : Seen _). begun_with n (prelude_values c.args.prelude) seen.rests) view) in
    subst (Follows (subscribe_with (prelude_values c.args.prelude)) now (Ok (record { 0 = n })))
    (sym (ap (λ (seen : Seen _). record seen { rests = c.begin.new.self.values }) (open_step _ now c.self.inside.ring c.open.new.self view refl n c.open.ensures))) follows
