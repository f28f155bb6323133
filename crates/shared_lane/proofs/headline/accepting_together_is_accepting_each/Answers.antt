use Rattle.shared_lane.proofs.Together.{together_is_each}
use Rattle.shared_lane.proofs.headline.accepting_together_is_accepting_each.Goals as goal

pub returns : goal.returns
returns c = together_is_each
