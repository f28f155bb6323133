use Rattle.std.proofs.Common.{rules}
use Rattle.shared_core.specs.Kept.{making_refusal}
use Rattle.shared_rounds.proofs.Refusals.{none_if_ok, whatever}
use Rattle.shared_rounds.proofs.shared.Shared.new.Goals as goal

pub returns-in_err-on_lane-clause-refused : goal.returns-in_err-on_lane-clause-refused
returns-in_err-on_lane-clause-refused c = none_if_ok (making_refusal c.args.config) (c.in_ok-lane.lane, c.in_ok-lane.sequencer) _ c.in_ok-lane.ensures.refused

pub returns-in_err-on_lane-clause-made : goal.returns-in_err-on_lane-clause-made
returns-in_err-on_lane-clause-made c = whatever (making_refusal c.args.config) _ (search rules)

pub returns-clause-refused : goal.returns-clause-refused
returns-clause-refused c = none_if_ok (making_refusal c.args.config) (c.in_ok-lane.lane, c.in_ok-lane.sequencer) _ c.in_ok-lane.ensures.refused

pub returns-clause-made : goal.returns-clause-made
returns-clause-made c = whatever (making_refusal c.args.config) _ (search rules)
