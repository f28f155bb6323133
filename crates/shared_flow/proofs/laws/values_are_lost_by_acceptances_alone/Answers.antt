use Rattle.shared_flow.proofs.Losing.{only_acceptances_lose}
use Rattle.shared_flow.proofs.laws.values_are_lost_by_acceptances_alone.Goals as goal

pub returns : goal.returns
returns c = only_acceptances_lose
