use Rattle.cold_callers.proofs.Halves.{handed-out}
use Rattle.cold_callers.proofs.source_calling.gathered_halves.Goals as goal

pub returns-in-Ok : goal.returns-in-Ok
returns-in-Ok c =
    let made = c.collect-gathering.ensures in
    let gathered = rw (made.2, made.1, made.0) at c.poll.ensures.gathers in
    handed-out c.args.number _ (λ t h. c.unfold.ensures.gives t (c.in-Ok.ensures.gives t h)) _ _ _ _ gathered
