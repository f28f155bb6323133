use Rattle.shared_flow.proofs.Histories.{one_list}
use Rattle.shared_flow.proofs.laws.each_lock_has_one_list.Goals as goal

pub returns : goal.returns
returns c = λ table law. (law.items, law.lies, law.history, one_list (λ s. s.value) law.items table.views law.history)
