use Rattle.cold_flow.proofs.operators.distinct.distinct.Goals as goal

pub returns-clause-gives : goal.returns-clause-gives
returns-clause-gives g c = rw c.new.ensures at c.new-2.ensures.gives

pub returns-clause-exact : goal.returns-clause-exact
returns-clause-exact g c = rw c.new.ensures at c.new-2.ensures.exact
