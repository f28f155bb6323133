use Rattle.std.proofs.Common.{inl, map, ◌∙◌}
use Rattle.shared_flow.proofs.Received.{took_all, still_reads, received_more}
use Rattle.shared_flow.proofs.subscription.Subscription.try_next_all.Goals as goal

pub invariant_of-self-2 : goal.invariant_of-self-2
invariant_of-self-2 g c =
    let inside = c.self.inside in
    let t = c.try_next_all.new.self in
    let same = c.try_next_all.ensures.same.1 in
    let words = c.try_next_all.ensures.has in (
      c.self.invariant.0,
      still_reads inside.access.flow inside.reader t c.self.invariant.1 same,
      c.self.invariant.2,
      same.5 ∙ c.self.invariant.3,
      (took_all inside.reader t _ c.try_next_all.result words.0 c.self.invariant.4 (same, words.2)).0,
      inl (c.is_empty.ensures.0 c.if-not-is_empty.false),
    )

pub returns-clause-has : goal.returns-clause-has
returns-clause-has g c =
    let inside = c.self.inside in
    let t = c.try_next_all.new.self in
    let words = c.try_next_all.ensures.has in
    let took = took_all inside.reader t _ c.try_next_all.result words.0 c.self.invariant.4 (c.try_next_all.ensures.same.1, words.2) in (
      map g.T.Word.read_as words.0,
      words.1,
      rw (← c.self.view_is) (received_more g.T.Word.read_as inside.rest.given inside.reader t words.0 took.1),
    )
