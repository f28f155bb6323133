use Rattle.std.proofs.Common.{◌-◌}
use Rattle.std.specs.List.{range_with_len}
use Rattle.cold_flow.specs.declared.cause.Cause.TheVariants.{Finished}
use Rattle.cold_flow.specs.Trace.{ended_by}
use Rattle.more_operators.specs.PacedLaws.{fixed-fresh}
use Rattle.example_operators.proofs.lists.quiet.Goals as goal

pub returns : goal.returns
returns c =
    let made = c.debounce-run.ensures in
    let whole = ended_by (range_with_len 1 (c.args.to - 1)) Finished in
    rw (made.1, made.2) at (c.list_at.ensures.exact whole
    (rw made.0 (fixed-fresh _ _ whole c.in_ok-start.ensures.fresh (λ t h. c.range.ensures.exact t (c.in_ok-start.ensures.gives t h))))
    (rw made.0 (c.in_ok-start.ensures.prompt c.range.ensures.prompt)))
