use Rattle.value_states.proofs.Calling.{held_is, reads_of}
use Rattle.value_states.proofs.state.ValueState.value.Goals as goal

pub leave-requires : goal.leave-requires
leave-requires g c = held_is c.self.inside.lock c.enter-guarded.result.state c.enter-guarded.new.lock c.enter-guarded.ensures

pub returns : goal.returns
returns g c =
    let state = c.enter-guarded.result.state in (
      state.value,
      reads_of c.self.inside.lock c.args.self.now c.self.view_is state c.enter-guarded.new.lock c.leave.new.lock c.enter-guarded.ensures c.leave.ensures,
      c.clone-answer.ensures.cases,
    )
