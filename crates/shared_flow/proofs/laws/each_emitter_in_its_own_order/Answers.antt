use Rattle.shared_flow.proofs.Histories.{one_flow}
use Rattle.shared_flow.proofs.laws.each_emitter_in_its_own_order.Goals as goal

pub returns : goal.returns
returns c = one_flow
