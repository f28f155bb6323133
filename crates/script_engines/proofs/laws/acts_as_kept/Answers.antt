use Rattle.script_engines.proofs.Keeping.{acts_as_kept}
use Rattle.script_engines.proofs.laws.acts_as_kept.Goals as goal

pub returns : goal.returns
returns c = acts_as_kept
