use Rattle.std.proofs.Common.{rules}
use Rattle.shared_rounds.proofs.wait_list.WaitList.is_in.Goals as goal

-- A wrong body makes this false: so answered, it is refused at once.
pub returns-in-Some-get : goal.returns-in-Some-get
returns-in-Some-get c = search rules
