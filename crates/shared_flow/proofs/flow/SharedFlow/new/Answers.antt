use Rattle.std.proofs.Common.{rules}
use Rattle.shared_core.specs.Kept.{making_refusal}
use Rattle.shared_rounds.proofs.Refusals.{none_if_ok, whatever}
use Rattle.shared_flow.proofs.flow.SharedFlow.new.Goals as goal

pub returns-in_err-access-clause-refused : goal.returns-in_err-access-clause-refused
returns-in_err-access-clause-refused g c = none_if_ok (making_refusal c.args.config) c.in_ok-shared.shared _ c.in_ok-shared.ensures.refused

pub returns-in_err-access-clause-made : goal.returns-in_err-access-clause-made
returns-in_err-access-clause-made g c = whatever (making_refusal c.args.config) _ (search rules)

pub returns-clause-refused : goal.returns-clause-refused
returns-clause-refused g c = none_if_ok (making_refusal c.args.config) c.in_ok-shared.shared _ c.in_ok-shared.ensures.refused

pub returns-clause-made : goal.returns-clause-made
returns-clause-made g c = whatever (making_refusal c.args.config) _ (search rules)
