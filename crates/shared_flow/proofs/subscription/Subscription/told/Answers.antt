use Rattle.std.proofs.Common.{◌++◌, map, ap, ◌∙◌}
use Rattle.shared_flow.proofs.Received.{told_on, still_reads, still_first}
use Rattle.shared_flow.proofs.subscription.Subscription.told.Goals as goal

pub invariant_of-self : goal.invariant_of-self
invariant_of-self g c =
    let inside = c.self.inside in
    let same = c.told.ensures.same in
    let told = told_on inside.reader c.told.new.self c.self.invariant.4 same.1 same.2 in (
      c.self.invariant.0,
      still_reads inside.access.flow inside.reader c.told.new.self c.self.invariant.1 same.1,
      c.self.invariant.2,
      same.1.5 ∙ c.self.invariant.3,
      told.0,
      still_first inside.rest inside.reader c.told.new.self told.1 c.self.invariant.5,
    )

pub returns-clause-has : goal.returns-clause-has
returns-clause-has g c =
    let inside = c.self.inside in
    let told = told_on inside.reader c.told.new.self c.self.invariant.4 c.told.ensures.same.1 c.told.ensures.same.2 in
    rw (← c.self.view_is) (ap (λ l. inside.rest.given ++ map g.T.Word.read_as l) told.1)
