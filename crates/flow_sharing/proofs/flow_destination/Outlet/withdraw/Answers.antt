use Rattle.std.proofs.Common.{refl, inr}
use Rattle.flow_sharing.proofs.Places.{some_waits}
use Rattle.flow_sharing.proofs.flow_destination.Outlet.withdraw.Goals as goal

pub returns-clause-withdrew : goal.returns-clause-withdrew
returns-clause-withdrew g c = λ owner. inr (
  some_waits c.args.self.now.waiting c.if-is_none.ensures,
  refl,
  (c.cancel_emit-withdrawn.result, (c.cancel_emit-withdrawn.ensures.left, c.cancel_emit-withdrawn.ensures.removed)),
)
