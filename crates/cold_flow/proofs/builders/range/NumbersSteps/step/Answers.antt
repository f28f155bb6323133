use Rattle.std.proofs.Common.{arith, ◌≡◌, ◌-◌, ◌+◌, suc}
use Rattle.std.specs.List.{range_with_len}
use Rattle.cold_flow.specs.declared.cause.Cause.TheVariants.{Finished}
use Rattle.cold_flow.specs.Trace.{ended_by}
use Rattle.cold_flow.specs.Laws.{led-begins}
use Rattle.cold_flow.proofs.builders.range.NumbersSteps.step.Goals as goal

pub returns-then-self-clause-narrows : goal.returns-then-self-clause-narrows
returns-then-self-clause-narrows g c t h =
    let from = c.args.self.now.from in
    let to = c.args.self.now.to in
    let first : to - from ≡ suc (to - (from + 1)) = omega (arith, c.if-self.true) in
    rw first (led-begins from t (ended_by (range_with_len (from + 1) (to - (from + 1))) Finished) h)
