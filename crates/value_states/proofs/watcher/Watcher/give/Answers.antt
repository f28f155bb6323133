use Rattle.std.proofs.Common.{Some, refl, subst, sym}
use Rattle.value_states.specs.Watching.{Takes}
use Rattle.value_states.proofs.Calling.{held_is}
use Rattle.value_states.proofs.Given.{gives, keeps_gave}
use Rattle.value_states.proofs.watcher.Watcher.give.Goals as goal

pub put-requires : goal.put-requires
put-requires g c =
    let took = subst (λ o. Takes c.requires.0 c.args.guarded.state o) (sym c.self.view_is) c.requires.1 in
    record { call = (c.args.guarded.state, held_is c.requires.0 c.args.guarded.state c.self.inside.lock took.holds, (refl, refl)) }

pub returns : goal.returns
returns g c = λ before takes.
    let took = subst (λ o. Takes before c.args.guarded.state o) (sym c.self.view_is) takes in
    gives before c.args.guarded.state c.self.inside.lock c.put.new.self (Some c.args.guarded.state.version) took c.put.ensures.given
    (keeps_gave before c.args.guarded.state c.self.inside.lock c.put.new.self c.self.inside.latest c.self.invariant took c.put.ensures.given)

pub invariant_of-self : goal.invariant_of-self
invariant_of-self g c =
    let took = subst (λ o. Takes c.requires.0 c.args.guarded.state o) (sym c.self.view_is) c.requires.1 in
    keeps_gave c.requires.0 c.args.guarded.state c.self.inside.lock c.put.new.self c.self.inside.latest c.self.invariant took c.put.ensures.given
