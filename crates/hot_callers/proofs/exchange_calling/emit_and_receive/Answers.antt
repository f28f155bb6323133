use Rattle.std.proofs.Common.{ℕ, List, [], sym, ap, subst, rules}
use Rattle.shared_core.specs.Kept.{making_refusal}
use Rattle.shared_rounds.proofs.Refusals.{none_if_ok, whatever}
use Rattle.shared_rounds.specs.Names.{IsMadeWith}
use Rattle.shared_flow.specs.Owners.{Owning}
use Rattle.shared_rounds.specs.Reach.{Party}
use Rattle.hot_callers.specs.Exchanges.{Exchange, TakesInTurn}
use Rattle.hot_callers.specs.Receiving.{ReceivesItsOwn}
use Rattle.hot_callers.proofs.Exchanging.{IsQuietWith, exchanged, quiet_new, quiet_newcomer, quiet_sharing}
use Rattle.hot_callers.proofs.exchange_calling.emit_and_receive.Goals as goal

pub returns : goal.returns
returns g c =
    let config = c.args.config in
    let words = c.args.values.now in
    let received = c.in_two_threads-taken.new.received.items in
    let owner = c.emitter.new.self in
    let half = c.in_ok-emitter.ensures.half in
    let new = c.in_ok-flow.flow.party in
    let rounds = c.in_ok-flow.ensures.rounds in
    let quiet = quiet_new new rounds.1 rounds.2 rounds.3 in
    let shared = subst (λ (o : Owning). IsQuietWith 1 [] o.party) (sym half) (quiet_sharing 0 [] new quiet) in
    let made = subst (λ (o : Owning). IsMadeWith config o.party.flow) (sym half) c.in_ok-flow.ensures.config in
    let takes = subst (λ (l : List ℕ). TakesInTurn l c.in-Ok.subscription received c.in_two_threads-taken.new.subscription) c.new-received.ensures.items c.in_two_threads-taken.ensures.turns in
    let met = c.meet_both.ensures in
    let last = c.end_both.new.flow.party in
    let both = subst (λ (prelude : List ℕ). ReceivesItsOwn config.policy prelude words received × Exchange config prelude words received last) c.in-Ok.ensures.prelude
    (exchanged config words received owner.party c.subscribe_with.new.self.party c.meet_both.new.flow.party last c.in-Ok.subscription c.in_two_threads-taken.new.subscription
    c.meet_both.new.subscription c.in_ok-emitter.emitter c.in_two_threads-taken.new.emitter c.meet_both.new.emitter met.counts made
    c.each_subscription_receives_prelude_cache_then_later.ensures c.an_emitter_alone.ensures shared c.in-Ok.ensures.flow c.in-Ok.ensures.begins takes met.meets
    (ap (λ (p : Party). p.rounds) c.in_ok-emitter.ensures.flow) c.in_ok-emitter.ensures.id
    (quiet_newcomer 0 [] new c.in_ok-emitter.emitter.party quiet c.in_ok-emitter.ensures.flow).0
    c.in_two_threads-taken.ensures.emits met.emitter c.emissions_are_its_part.ensures c.end_both.ensures) in
    record {
      has = both.0;
      exchange = both.1;
      refused = none_if_ok (making_refusal config) c.in_ok-flow.flow _ c.in_ok-flow.ensures.refused;
      otherwise = whatever (making_refusal config) _ tt;
    }

pub returns-in_err-emitter-clause-refused : goal.returns-in_err-emitter-clause-refused
returns-in_err-emitter-clause-refused g c = none_if_ok (making_refusal c.args.config) c.in_ok-flow.flow _ c.in_ok-flow.ensures.refused

pub returns-in_err-emitter-clause-otherwise : goal.returns-in_err-emitter-clause-otherwise
returns-in_err-emitter-clause-otherwise g c = whatever (making_refusal c.args.config) _ (search rules)

pub returns-in-Err-clause-refused : goal.returns-in-Err-clause-refused
returns-in-Err-clause-refused g c = none_if_ok (making_refusal c.args.config) c.in_ok-flow.flow _ c.in_ok-flow.ensures.refused

pub returns-in-Err-clause-otherwise : goal.returns-in-Err-clause-otherwise
returns-in-Err-clause-otherwise g c = whatever (making_refusal c.args.config) _ c.in-Err.ensures.refused

pub returns-in_err-taken-clause-refused : goal.returns-in_err-taken-clause-refused
returns-in_err-taken-clause-refused g c = none_if_ok (making_refusal c.args.config) c.in_ok-flow.flow _ c.in_ok-flow.ensures.refused

pub returns-in_err-taken-clause-otherwise : goal.returns-in_err-taken-clause-otherwise
returns-in_err-taken-clause-otherwise g c = whatever (making_refusal c.args.config) _ (search rules)
