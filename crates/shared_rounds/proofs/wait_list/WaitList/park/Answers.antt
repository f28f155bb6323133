use Rattle.std.proofs.Common.{rules}
use Rattle.shared_rounds.proofs.wait_list.WaitList.park.Goals as goal

-- A wrong body makes this false: so answered, it is refused at once.
pub returns-then-len-capacity-clause-full : goal.returns-then-len-capacity-clause-full
returns-then-len-capacity-clause-full c = search rules
