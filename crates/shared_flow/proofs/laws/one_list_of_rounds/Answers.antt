use Rattle.shared_flow.proofs.Histories.{one_list}
use Rattle.shared_flow.proofs.laws.one_list_of_rounds.Goals as goal

pub returns : goal.returns
returns c = one_list (λ s. s.value)
