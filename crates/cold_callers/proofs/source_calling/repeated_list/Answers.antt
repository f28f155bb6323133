use Rattle.cold_callers.proofs.source_calling.repeated_list.Goals as goal

pub returns : goal.returns
returns g c = c.to_list.ensures.exact _ c.in_ok-start.ensures.gives
