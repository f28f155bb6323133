use Rattle.std.proofs.Common.{[], refl}
use Rattle.cold_flow.specs.Polled.Gave.{nothing}
use Rattle.hot_sources.proofs.ringing.collect_list.Goals as goal

-- no task: nothing was asked
pub returns-in_default-clause-refused : goal.returns-in_default-clause-refused
returns-in_default-clause-refused g c = (refl, ([], nothing))
