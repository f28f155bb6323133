use Rattle.shared_lane.proofs.Lives.{took_all_lived}
use Rattle.shared_lane.proofs.headline.taking_all_is_taking_each.Goals as goal

pub returns : goal.returns
returns c = took_all_lived
