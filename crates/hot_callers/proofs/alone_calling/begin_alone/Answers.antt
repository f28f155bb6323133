use Rattle.std.proofs.Common.{◌≡◌, ◌++◌, ◌∙◌, [], sym, ap, subst, rules}
use Rattle.shared_core.specs.Kept.{making_refusal}
use Rattle.shared_rounds.specs.Names.{IsMadeWith}
use Rattle.shared_rounds.specs.Reach.{Party}
use Rattle.shared_rounds.proofs.Refusals.{none_if_ok, whatever}
use Rattle.shared_flow.specs.Emitted.{emitted_in}
use Rattle.shared_flow.specs.Owners.{Owning}
use Rattle.hot_callers.proofs.Keeping.{begins_whole}
use Rattle.hot_callers.proofs.Whole.{new_given}
use Rattle.hot_callers.proofs.alone_calling.begin_alone.Goals as goal

pub returns-in-Ok-clause-has : goal.returns-in-Ok-clause-has
returns-in-Ok-clause-has g c =
    let o = c.in_ok-flow.flow.party in
    let p = c.emitter.new.self.party in
    let q = c.subscribe_with.new.self.party in
    let e = c.in_ok-emitter.emitter in
    let s = c.in-Ok.subscription in
    let new = c.in_ok-flow.ensures.rounds in
    let shares = ap (λ (x : Owning). x.party) c.in_ok-emitter.ensures.half in
    let lets_in = ap (λ (x : Owning). x.party) c.in-Ok.ensures.round in
    let same_flow = ap (λ (x : Party). x.flow) lets_in ∙ ap (λ (x : Party). x.flow) shares in
    let given : s.given ≡ [] = new_given s.given _ c.in-Ok.ensures.has.0 in
    record {
      whole = begins_whole o p q e.party s.party s.number new.1 new.2 new.3 c.in_ok-emitter.ensures.flow shares c.in-Ok.ensures.flow lets_in;
      config_is = subst (IsMadeWith c.args.config) (sym same_flow) c.in_ok-flow.ensures.config;
      idle = c.in_ok-emitter.ensures.idle;
      nothing_emitted = ap emitted_in (ap (λ (x : Party). x.rounds) c.in_ok-emitter.ensures.flow);
      nothing_received = c.in-Ok.ensures.has.0;
      prelude_is = λ i. given i ++ c.in-Ok.ensures.has.1 i;
    }

pub returns-in-Ok-clause-refused : goal.returns-in-Ok-clause-refused
returns-in-Ok-clause-refused g c = none_if_ok (making_refusal c.args.config) c.in_ok-flow.flow _ c.in_ok-flow.ensures.refused

pub returns-in-Err-clause-refused : goal.returns-in-Err-clause-refused
returns-in-Err-clause-refused g c = none_if_ok (making_refusal c.args.config) c.in_ok-flow.flow _ c.in_ok-flow.ensures.refused

pub returns-in-Err-clause-otherwise : goal.returns-in-Err-clause-otherwise
returns-in-Err-clause-otherwise g c = whatever (making_refusal c.args.config) _ c.in-Err.ensures.refused

pub returns-in_err-emitter-clause-refused : goal.returns-in_err-emitter-clause-refused
returns-in_err-emitter-clause-refused g c = none_if_ok (making_refusal c.args.config) c.in_ok-flow.flow _ c.in_ok-flow.ensures.refused

pub returns-in_err-emitter-clause-otherwise : goal.returns-in_err-emitter-clause-otherwise
returns-in_err-emitter-clause-otherwise g c = whatever (making_refusal c.args.config) _ (search rules)
