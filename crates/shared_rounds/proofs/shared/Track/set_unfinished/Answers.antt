use Rattle.std.proofs.Common.{rules}
use Rattle.shared_rounds.proofs.Flags.{sets}
use Rattle.shared_rounds.proofs.shared.Track.set_unfinished.Goals as goal

pub store-requires : goal.store-requires
store-requires c = (search rules, search rules, sets _ _ _ _ (search rules))
