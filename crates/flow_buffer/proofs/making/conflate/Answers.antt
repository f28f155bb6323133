use Rattle.std.proofs.Common.{rules, refl}
use Rattle.flow_terms.specs.declared.policy.Policy.TheVariants.{DropOldest}
use Rattle.flow_buffer.proofs.Deliveries.{gives_latest}
use Rattle.flow_buffer.proofs.making.conflate.Goals as goal

pub returns-clause-latest : goal.returns-clause-latest
returns-clause-latest g c = gives_latest 1 DropOldest refl _

-- A wrong body makes these false: so answered, it is refused at once.
pub returns-clause-made : goal.returns-clause-made
returns-clause-made g c = search rules

pub returns-clause-gives : goal.returns-clause-gives
returns-clause-gives g c = search rules
