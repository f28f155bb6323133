use Rattle.std.proofs.Common.{◌++◌, map, ap, ◌∙◌}
use Rattle.shared_lane.specs.Readers.{at}
use Rattle.shared_flow.proofs.Received.{found_on, still_reads, still_first}
use Rattle.shared_flow.proofs.subscription.Subscription.meet.Goals as goal

pub invariant_of-self : goal.invariant_of-self
invariant_of-self g c =
    let inside = c.self.inside in
    let t = c.meet.new.reader in
    let same = c.meet.ensures.met.same in
    let found = found_on inside.reader t (at t) c.self.invariant.4 same c.meet.ensures.met.went in (
      c.self.invariant.0,
      still_reads inside.access.flow inside.reader t c.self.invariant.1 same,
      c.self.invariant.2,
      same.5 ∙ c.self.invariant.3,
      found.0,
      still_first inside.rest inside.reader t found.1 c.self.invariant.5,
    )

pub returns-clause-has : goal.returns-clause-has
returns-clause-has g c =
    let inside = c.self.inside in
    let t = c.meet.new.reader in
    let found = found_on inside.reader t (at t) c.self.invariant.4 c.meet.ensures.met.same c.meet.ensures.met.went in
    rw (← c.self.view_is) (ap (λ l. inside.rest.given ++ map g.T.Word.read_as l) found.1)
