use Rattle.std.proofs.Common.{sym, ◌∙◌}
use Rattle.shared_lane.proofs.Makes.{within_bounds}
use Rattle.shared_lane.proofs.lane.Lane.new.Goals as goal

pub allocated-requires : goal.allocated-requires
allocated-requires g c = within_bounds c.args.config (sym c.refusal.ensures ∙ c.in-None.is)
