use Rattle.std.proofs.Common.{subst, sym}
use Rattle.value_flows.specs.Receiving.{Takes}
use Rattle.value_flows.proofs.Calling.{count_within}
use Rattle.value_flows.proofs.Passing.{kept_is, value_is}
use Rattle.value_flows.proofs.subscription.Subscription.give_clone.Goals as goal

pub value-requires : goal.value-requires
value-requires g c =
    let before = c.requires.0 in
    let took = subst (λ o. Takes before c.args.guarded.state c.requires.1 o) (sym c.self.view_is) c.requires.2 in record {
      count = count_within before c.args.guarded.state c.self.inside.lock took.holds;
      kept = kept_is before c.self.inside.lock c.args.guarded.state c.requires.1 c.self.inside.place c.self.inside.next c.self.invariant took;
    }

pub give-requires : goal.give-requires
give-requires g c = c.requires

pub pass-requires : goal.pass-requires
pass-requires g c = c.requires

pub returns-in-Ok-clause-given : goal.returns-in-Ok-clause-given
returns-in-Ok-clause-given g c = λ before value takes.
    let took = subst (λ o. Takes before c.args.guarded.state value o) (sym c.self.view_is) takes in
    let same = value_is before c.self.inside.lock c.args.guarded.state value c.value.result.now c.self.inside.place c.self.inside.next c.self.invariant took c.value.ensures in
    (c.give.ensures before value takes, subst (λ v. g.T.Clone.is_clone v c.in-Ok.answer) same c.in-Ok.ensures.cases)

pub returns-in-Err-clause-refused : goal.returns-in-Err-clause-refused
returns-in-Err-clause-refused g c = λ before value takes.
    let took = subst (λ o. Takes before c.args.guarded.state value o) (sym c.self.view_is) takes in
    let same = value_is before c.self.inside.lock c.args.guarded.state value c.value.result.now c.self.inside.place c.self.inside.next c.self.invariant took c.value.ensures in
    (c.pass.ensures before value takes, subst (λ v. ¬ g.T.Clone.is_infallible v) same c.in-Err.ensures.cases)
