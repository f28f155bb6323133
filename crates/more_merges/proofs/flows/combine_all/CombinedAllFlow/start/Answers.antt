use Rattle.cold_flow.specs.Laws.{Through-within}
use Rattle.cold_flow.specs.Trace.{on_values}
use Rattle.std.proofs.Common.{None, replicate, vec_len}
use Rattle.more_merges.specs.Row.{combined}
use Rattle.more_merges.proofs.flows.combine_all.CombinedAllFlow.start.Goals as goal

pub returns-clause-gives : goal.returns-clause-gives
returns-clause-gives g c =
    let gives = rw c.in_ok-start.ensures.fresh at c.in_ok-start.ensures.gives in
    let flow = c.args.self.now in
    rw (c.over_run.ensures.0, c.over_run.ensures.1, c.in_ok-row.ensures.fresh, c.in_ok-start.ensures.fresh, c.len.ensures)
    (Through-within (on_values (combined (g.G.ApplyAll.gives flow.function) (replicate (vec_len flow.source.flows) None))) _ _ gives)
