use Rattle.std.proofs.Common.{rules}
use Rattle.shared_rounds.proofs.Flags.{looks}
use Rattle.shared_rounds.proofs.access.looked.Goals as goal

pub load-requires : goal.load-requires
load-requires g c = (search rules, search rules, looks _ _ _ _ _)
