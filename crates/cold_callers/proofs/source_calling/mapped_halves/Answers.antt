use Rattle.cold_flow.specs.Laws.{Through-within}
use Rattle.cold_callers.proofs.source_calling.mapped_halves.Goals as goal

pub returns : goal.returns
returns g c t h = Through-within _ _ _ c.unfold.ensures.gives t (c.map.ensures.gives t h)
