use Rattle.std.proofs.Common.{◌≡◌}
use Rattle.state_waiting.specs.Waits.{MissedOn}
use Rattle.paired_states.proofs.waiting.look_on.Given as goal

abbrev pub invariant-looks : goal.invariant-looks
invariant-looks g l = record {
  first_flow : l.first.flow ≡ l.initial.first.flow;
  second_flow : l.second.flow ≡ l.initial.second.flow;
  first_missed : MissedOn l.initial.first.view l.first.view;
  second_missed : MissedOn l.initial.second.view l.second.view;
}
