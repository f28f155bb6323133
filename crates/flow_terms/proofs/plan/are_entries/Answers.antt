use Rattle.std.proofs.Common.{rules, tests}
use Rattle.std.proofs.lemmas.Iterator.{YieldsList-from_slice}
use Rattle.std.proofs.lemmas.Iterator.Search.{all_from_yields_List}
use Rattle.flow_terms.specs.Plans.{is_entry}
use Rattle.flow_terms.proofs.plan.are_entries.Goals as goal

pub returns : goal.returns
returns c = all_from_yields_List is_entry _ _ _ c.all.ensures.ran (YieldsList-from_slice c.args.entries.now cc) (λ x b q k. search (rules, tests))
