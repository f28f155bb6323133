use Rattle.shared_flow.proofs.Turns.{taking_all}
use Rattle.shared_flow.proofs.laws.taking_all_is_taking_each.Goals as goal

pub returns : goal.returns
returns g c = taking_all g.T.Word.read_as
