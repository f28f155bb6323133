use Rattle.cold_flow.specs.Polled.Gave.{nothing, waited}
use Rattle.hot_sources.proofs.ringing.wait.Goals as goal

pub turns-init : goal.turns-init
turns-init g c = record { gave = nothing; within = λ t h. h; kept = λ fact h. h }

pub turns-preserved : goal.turns-preserved
turns-preserved g c =
    let it = c.turns.invariant in
    let pended = c.in_default.ensures in
    record {
      gave = waited it.gave pended.polled;
      within = λ t h. it.within t (pended.narrows t h);
      kept = λ fact h. pended.kept fact (it.kept fact h);
    }

pub returns-then-is_let_go-clause-came : goal.returns-then-is_let_go-clause-came
returns-then-is_let_go-clause-came g c = waited c.turns.invariant.gave c.in_default.ensures.polled
