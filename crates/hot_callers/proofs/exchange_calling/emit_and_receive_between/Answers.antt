use Rattle.std.proofs.Common.{Option, [], sym, ap, subst, ◌∙◌, rules}
use Rattle.shared_core.specs.Kept.{making_refusal}
use Rattle.shared_rounds.proofs.Refusals.{none_if_ok, whatever}
use Rattle.shared_rounds.specs.Names.{FlowName, IsMadeWith}
use Rattle.shared_rounds.specs.Reach.{Party}
use Rattle.shared_flow.specs.Owners.{Owning}
use Rattle.shared_flow.specs.Parties.{Emitting}
use Rattle.shared_core.specs.Preludes.{prelude_values}
use Rattle.hot_callers.proofs.Exchanging.{IsQuietWith, late, quiet_new, quiet_newcomer, quiet_sharing, tries_on}
use Rattle.hot_callers.proofs.exchange_calling.emit_and_receive_between.Goals as goal

pub end_emitters-requires-clause-idle : goal.end_emitters-requires-clause-idle
end_emitters-requires-clause-idle g c =
    let told = c.tell_both.ensures in (
      ap (λ (e : Emitting). e.ticket) told.only_first ∙ c.in-Ok-between.ensures.one.5,
      ap (λ (e : Emitting). e.ticket) told.only_second ∙ c.try_each-2.ensures.tries.5,
    )

pub returns : goal.returns
returns g c =
    let between = c.receive_between-between in
    let early = c.args.early.now in
    let first = c.args.first.now in
    let new = c.in_ok-flow.flow.party in
    let with_one = c.emitter.new.self.party in
    let rounds = c.in_ok-flow.ensures.rounds in
    let half = c.in_ok-one.ensures.half in
    let quarter = c.in-Ok.ensures.half in
    let quiet = quiet_new new rounds.1 rounds.2 rounds.3 in
    let halved = subst (λ (o : Owning). IsQuietWith 1 [] o.party) (sym half) (quiet_sharing 0 [] new quiet) in
    let owner = subst (λ (o : Owning). IsQuietWith 2 [] o.party) (sym quarter) (quiet_sharing 1 [] with_one halved) in
    let flow_is = ap (λ (o : Owning). o.party.flow) quarter ∙ ap (λ (o : Owning). o.party.flow) half in
    let made = subst (λ (known : Option FlowName). IsMadeWith c.args.config known) (sym flow_is) c.in_ok-flow.ensures.config in
    let exchange = late c.args.config (prelude_values c.args.prelude) _ c.args.second.now c.args.late.now c.in-Ok-between.received.items c.emitter-2.new.self.party between.new.flow.party
    c.tell_both.new.flow.party c.end_emitters.new.flow.party c.in_ok-one.one between.new.one c.tell_both.new.one c.in-Ok.two between.new.two c.try_each-2.new.emitter c.tell_both.new.two
    made c.each_subscription_receives_prelude_cache_then_later.ensures owner
    (ap (λ (p : Party). p.rounds) c.in_ok-one.ensures.flow) c.in_ok-one.ensures.id (quiet_newcomer 0 [] new c.in_ok-one.one.party quiet c.in_ok-one.ensures.flow).0
    (ap (λ (p : Party). p.rounds) c.in-Ok.ensures.flow) c.in-Ok.ensures.id (quiet_newcomer 1 [] with_one c.in-Ok.two.party halved c.in-Ok.ensures.flow).0
    (tries_on early first c.in_ok-one.one c.try_each.new.emitter between.new.one c.try_each.ensures.tries c.in-Ok-between.ensures.one)
    c.in-Ok-between.ensures.two c.try_each-2.ensures.tries c.in-Ok-between.ensures.receives c.tell_both.ensures c.end_emitters.ensures in
    record {
      has = exchange.received_with_others_is_prelude_then_both;
      exchange = exchange;
      refused = none_if_ok (making_refusal c.args.config) c.in_ok-flow.flow _ c.in_ok-flow.ensures.refused;
      otherwise = whatever (making_refusal c.args.config) _ tt;
    }

pub returns-in_err-one-clause-refused : goal.returns-in_err-one-clause-refused
returns-in_err-one-clause-refused g c = none_if_ok (making_refusal c.args.config) c.in_ok-flow.flow _ c.in_ok-flow.ensures.refused

pub returns-in_err-one-clause-otherwise : goal.returns-in_err-one-clause-otherwise
returns-in_err-one-clause-otherwise g c = whatever (making_refusal c.args.config) _ (search rules)

pub returns-in-Err-clause-refused : goal.returns-in-Err-clause-refused
returns-in-Err-clause-refused g c = none_if_ok (making_refusal c.args.config) c.in_ok-flow.flow _ c.in_ok-flow.ensures.refused

pub returns-in-Err-clause-otherwise : goal.returns-in-Err-clause-otherwise
returns-in-Err-clause-otherwise g c = whatever (making_refusal c.args.config) _ (search rules)

pub returns-in-Err-between-clause-refused : goal.returns-in-Err-between-clause-refused
returns-in-Err-between-clause-refused g c = none_if_ok (making_refusal c.args.config) c.in_ok-flow.flow _ c.in_ok-flow.ensures.refused

pub returns-in-Err-between-clause-otherwise : goal.returns-in-Err-between-clause-otherwise
returns-in-Err-between-clause-otherwise g c = whatever (making_refusal c.args.config) _ c.in-Err-between.ensures.refused
