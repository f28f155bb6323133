use Rattle.std.proofs.Common.{rules}
use Rattle.shared_rounds.proofs.Flags.{raises}
use Rattle.shared_rounds.proofs.shared.Track.raise.Goals as goal

pub store-requires : goal.store-requires
store-requires g c = (search rules, search rules, raises _ _ _ _ _ (search rules))
