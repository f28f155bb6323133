use Rattle.std.proofs.Common.{subst, sym}
use Rattle.value_states.specs.Calls.{Writes}
use Rattle.value_states.proofs.Calling.{writes_of, held_is}
use Rattle.value_states.proofs.state.ValueState.replace.Goals as goal

pub write-old-requires : goal.write-old-requires
write-old-requires g c = held_is c.self.inside.lock c.enter-guarded.result.state c.enter-guarded.new.lock c.enter-guarded.ensures

pub returns : goal.returns
returns g c =
    let state = c.enter-guarded.result.state in
    subst (λ found. Writes c.args.self.now found c.args.value c.write-old.new.lock) (sym c.write-old.ensures.old)
    (writes_of c.self.inside.lock c.args.self.now c.self.view_is state c.enter-guarded.new.lock c.write-old.new.lock c.args.value c.enter-guarded.ensures c.write-old.ensures.written)
