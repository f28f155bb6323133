use Rattle.std.proofs.Common.{sym, ◌∙◌}
use Rattle.value_states.proofs.Calling.{held_is, reads_of, writes_of}
use Rattle.value_states.proofs.state.ValueState.set_distinct.Goals as goal

pub leave-requires : goal.leave-requires
leave-requires g c = held_is c.self.inside.lock c.enter-guarded.result.state c.enter-guarded.new.lock c.enter-guarded.ensures

pub write-old-requires : goal.write-old-requires
write-old-requires g c = held_is c.self.inside.lock c.enter-guarded.result.state c.enter-guarded.new.lock c.enter-guarded.ensures

pub returns-then-is_equal : goal.returns-then-is_equal
returns-then-is_equal g c =
    let state = c.enter-guarded.result.state in (
      state.value,
      (
        sym c.eq-is_equal.ensures ∙ c.if-is_equal.true,
        reads_of c.self.inside.lock c.args.self.now c.self.view_is state c.enter-guarded.new.lock c.leave.new.lock c.enter-guarded.ensures c.leave.ensures,
      ),
    )

pub returns : goal.returns
returns g c =
    let state = c.enter-guarded.result.state in (
      state.value,
      (
        sym c.eq-is_equal.ensures ∙ c.if-is_equal.false,
        writes_of c.self.inside.lock c.args.self.now c.self.view_is state c.enter-guarded.new.lock c.write-old.new.lock c.args.value c.enter-guarded.ensures c.write-old.ensures.written,
      ),
    )
