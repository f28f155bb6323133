use Rattle.std.proofs.Common.{rules}
use Rattle.shared_rounds.proofs.Flags.{splits}
use Rattle.shared_rounds.proofs.shared.Track.looker.Goals as goal

pub split_seat-seat-requires : goal.split_seat-seat-requires
split_seat-seat-requires c = (search rules, search rules, splits _ _)
