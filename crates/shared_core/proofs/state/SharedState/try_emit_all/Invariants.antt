use Rattle.std.proofs.Common.{◌≡◌, drop}
use Rattle.shared_core.proofs.Blocks.{Tries}
use Rattle.shared_core.proofs.state.SharedState.try_emit_all.Given as goal

abbrev pub invariant-loop-value : goal.invariant-loop-value
invariant-loop-value g l =
    record {
      count : l.accepted ≡ l.value-index;
      tries : Tries l.emitter l.values l.fn.self l.accepted (drop l.value-index l.values) l.self;
    }
