use Rattle.std.proofs.Common.{Some}
use Rattle.paired_states.proofs.Asking.{both_after, both_has}
use Rattle.paired_states.proofs.waiting.next_of_two.Goals as goal

pub returns-in-Some-clause-has : goal.returns-in-Some-clause-has
returns-in-Some-clause-has g c = both_has _ _ _ _ (Some c.in-Some.fresh) c.in-Some.ensures.asked

pub returns-clause-has : goal.returns-clause-has
returns-clause-has g c =
    both_has _ _ _ _ c.wait-fresh.result
    (both_after _ _ _ _ _ _ c.wait-fresh.result c.in_default.ensures.missed.0 c.in_default.ensures.missed.1 c.wait-fresh.ensures.asked)

pub returns-clause-asked : goal.returns-clause-asked
returns-clause-asked g c =
    both_after _ _ _ _ _ _ c.wait-fresh.result c.in_default.ensures.missed.0 c.in_default.ensures.missed.1 c.wait-fresh.ensures.asked
