use Rattle.std.proofs.Common.{subst, sym}
use Rattle.value_states.specs.Calls.{Holds}
use Rattle.value_states.proofs.Calling.{held_is, reads}
use Rattle.value_states.proofs.Given.{keeps_read}
use Rattle.value_states.proofs.watcher.Watcher.pass.Goals as goal

pub leave-requires : goal.leave-requires
leave-requires g c =
    let has = subst (λ o. Holds c.requires.0 c.args.guarded.state o) (sym c.self.view_is) c.requires.1 in
    held_is c.requires.0 c.args.guarded.state c.self.inside.lock has

pub returns : goal.returns
returns g c = λ before holds.
    let has = subst (λ o. Holds before c.args.guarded.state o) (sym c.self.view_is) holds in
    reads before c.args.guarded.state c.self.inside.lock c.leave.new.lock has c.leave.ensures

pub invariant_of-self : goal.invariant_of-self
invariant_of-self g c = keeps_read c.self.inside.lock c.leave.new.lock c.args.guarded.state c.self.inside.latest c.self.invariant c.leave.ensures
