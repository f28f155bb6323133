use Rattle.hot_callers.proofs.Alone.{alone_law}
use Rattle.hot_callers.proofs.alone_calling.an_emitter_alone.Goals as goal

pub returns : goal.returns
returns g c = λ e s t own settled alone. alone_law e s t own settled alone
