use Rattle.shared_flow.proofs.Histories.{each_subscription}
use Rattle.shared_flow.proofs.laws.each_subscription_receives_prelude_cache_then_later.Goals as goal

pub returns : goal.returns
returns g c = each_subscription g.T.Word.read_as
