use Rattle.std.proofs.Common.{◌≡◌, ◌-◌, ◌≤◌, None, length, map, take}
use Rattle.shared_flow.specs.Blocks.{EmitsOn}
use Rattle.shared_flow.specs.Parties.{IsSameEmitter}
use Rattle.shared_flow.proofs.emitter.Emitter.emit_all.Given as goal

abbrev pub invariant-loop-emitted : goal.invariant-loop-emitted
invariant-loop-emitted g l = (l.self.ticket ≡ None) × IsSameEmitter l.initial.self l.self × (l.emitted ≤ length l.values) × (l.accepted ≤ l.emitted)
    × EmitsOn l.initial.self (map g.T.Word.word (take l.emitted l.values)) l.accepted l.self

abbrev pub decreases-loop-emitted : goal.decreases-loop-emitted
decreases-loop-emitted g l = length l.values - l.emitted
