use Rattle.std.proofs.Common.{◌≡◌, subst}
use Rattle.value_states.specs.declared.round.Round.TheVariants as round
use Rattle.value_states.specs.Calls.{giving}
use Rattle.value_states.proofs.Calling.{held_is, writes_of}
use Rattle.value_states.proofs.state.ValueState.update.Goals as goal

pub put-requires : goal.put-requires
put-requires g c = record {
  call = (
    c.enter-guarded.result.state,
    held_is c.self.inside.lock c.enter-guarded.result.state c.enter-guarded.new.lock c.enter-guarded.ensures,
    c.next_version-version.ensures,
  );
}

pub returns : goal.returns
returns g c =
    let state = c.enter-guarded.result.state in
    let value = c.changed-answer.new.value in
    let given = subst (λ n. c.put.new.self ≡ giving round.Write (record { value = value; version = n }) c.enter-guarded.new.lock) c.next_version-version.ensures c.put.ensures.given in (
      state.value,
      value,
      writes_of c.self.inside.lock c.args.self.now c.self.view_is state c.enter-guarded.new.lock c.put.new.self value c.enter-guarded.ensures given,
      c.changed-answer.ensures,
    )
