use Rattle.cold_flow.specs.Polled.Gave.{nothing, waited}
use Rattle.hot_sources.proofs.waiting.next_of.Goals as goal

pub turns-init : goal.turns-init
turns-init g c = record { gave = nothing; within = λ t h. h }

pub turns-preserved : goal.turns-preserved
turns-preserved g c =
    let polled = rw c.in_default-polled.is at c.poll_next-polled.ensures.polled in
    let within = rw c.in_default-polled.is at c.poll_next-polled.ensures.narrows in
    record { gave = waited c.turns.invariant.gave polled; within = λ t h. c.turns.invariant.within t (within t h) }
