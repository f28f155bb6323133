use Rattle.std.proofs.Common.{subst, sym}
use Rattle.value_flows.specs.Receiving.{Takes}
use Rattle.value_flows.proofs.Calling.{held_is}
use Rattle.value_flows.proofs.Passing.{keeps_looked, leaves_it}
use Rattle.value_flows.proofs.subscription.Subscription.pass.Goals as goal

pub leave-requires : goal.leave-requires
leave-requires g c =
    let took = subst (λ o. Takes c.requires.0 c.args.guarded.state c.requires.1 o) (sym c.self.view_is) c.requires.2 in
    held_is c.requires.0 c.args.guarded.state c.self.inside.lock took.holds

pub returns : goal.returns
returns g c = λ before value takes.
    let took = subst (λ o. Takes before c.args.guarded.state value o) (sym c.self.view_is) takes in
    leaves_it before c.self.inside.lock c.leave.new.lock c.args.guarded.state value c.self.inside.place c.self.inside.next c.self.invariant took c.leave.ensures

pub invariant_of-self : goal.invariant_of-self
invariant_of-self g c = keeps_looked c.self.inside.lock c.leave.new.lock c.args.guarded.state c.self.inside.place c.self.inside.next c.self.invariant c.leave.ensures
