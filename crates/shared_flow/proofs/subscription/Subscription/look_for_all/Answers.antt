use Rattle.std.proofs.Common.{rules, inl, inr, length, map, sym, ap, subst, ◌∙◌}
use Rattle.shared_lane.specs.Readers.{at}
use Rattle.shared_rounds.specs.Names.{FoundUp}
use Rattle.shared_flow.specs.Looks.{MadeRoom}
use Rattle.shared_flow.specs.Parties.{Subscribed, received}
use Rattle.shared_flow.proofs.Received.{took_all, still_reads, received_more}
use Rattle.shared_flow.proofs.subscription.Subscription.look_for_all.Goals as goal

pub returns-then-waits-clause-room : goal.returns-then-waits-clause-room
returns-then-waits-clause-room g c = λ k is.
    let inside = c.self.inside in
    subst (λ (x : Subscribed _). MadeRoom x c.accept_waiting.new.self) c.self.view_is (inr (
      c.accept_waiting.ensures.made,
      subst (λ (x : Subscribed _). FoundUp (at x.reader) (length inside.access.rounds) inside.looker.looks x.looks) (sym c.accept_waiting.ensures.same) (c.has_unfinished-waits.ensures.some c.if-waits.true),
    ))

pub invariant_of-self : goal.invariant_of-self
invariant_of-self g c =
    let inside = c.self.inside in
    let t = c.try_next_all-taken.new.self in
    let same = c.try_next_all-taken.ensures.same.1 in
    let words = c.try_next_all-taken.ensures.has in (
      c.self.invariant.0,
      still_reads inside.access.flow inside.reader t c.self.invariant.1 same,
      search rules,
      same.5 ∙ c.self.invariant.3,
      (took_all inside.reader t _ c.try_next_all-taken.result words.0 c.self.invariant.4 (same, words.2)).0,
      inl (ap (λ (s : Subscribed _). s.rest) c.self.view_is ∙ c.requires.past),
    )

pub invariant_of-self-else-waits : goal.invariant_of-self-else-waits
invariant_of-self-else-waits g c =
    let inside = c.self.inside in
    let t = c.try_next_all-taken.new.self in
    let same = c.try_next_all-taken.ensures.same.1 in
    let words = c.try_next_all-taken.ensures.has in (
      c.self.invariant.0,
      still_reads inside.access.flow inside.reader t c.self.invariant.1 same,
      search rules,
      same.5 ∙ c.self.invariant.3,
      (took_all inside.reader t _ c.try_next_all-taken.result words.0 c.self.invariant.4 (same, words.2)).0,
      inl (ap (λ (s : Subscribed _). s.rest) c.self.view_is ∙ c.requires.past),
    )

pub invariant_of-self-in_default : goal.invariant_of-self-in_default
invariant_of-self-in_default g c =
    let inside = c.self.inside in
    let t = c.try_next_all-taken.new.self in
    let same = c.try_next_all-taken.ensures.same.1 in
    let words = c.try_next_all-taken.ensures.has in (
      c.self.invariant.0,
      still_reads inside.access.flow inside.reader t c.self.invariant.1 same,
      search rules,
      same.5 ∙ c.self.invariant.3,
      (took_all inside.reader t _ c.try_next_all-taken.result words.0 c.self.invariant.4 (same, words.2)).0,
      inl (ap (λ (s : Subscribed _). s.rest) c.self.view_is ∙ c.requires.past),
    )

pub returns-then-waits-clause-has : goal.returns-then-waits-clause-has
returns-then-waits-clause-has g c =
    let inside = c.self.inside in
    let t = c.try_next_all-taken.new.self in
    let words = c.try_next_all-taken.ensures.has in
    let took = took_all inside.reader t _ c.try_next_all-taken.result words.0 c.self.invariant.4 (c.try_next_all-taken.ensures.same.1, words.2) in (
      map g.T.Word.read_as words.0,
      words.1,
      rw (← c.self.view_is) (ap (received g.T.Word.read_as) c.accept_waiting.ensures.same ∙ received_more g.T.Word.read_as inside.rest.given inside.reader t words.0 took.1),
    )

pub returns-else-waits-clause-has : goal.returns-else-waits-clause-has
returns-else-waits-clause-has g c =
    let inside = c.self.inside in
    let t = c.try_next_all-taken.new.self in
    let words = c.try_next_all-taken.ensures.has in
    let took = took_all inside.reader t _ c.try_next_all-taken.result words.0 c.self.invariant.4 (c.try_next_all-taken.ensures.same.1, words.2) in (
      map g.T.Word.read_as words.0,
      words.1,
      rw (← c.self.view_is) (received_more g.T.Word.read_as inside.rest.given inside.reader t words.0 took.1),
    )

pub returns-in_default-clause-has : goal.returns-in_default-clause-has
returns-in_default-clause-has g c =
    let inside = c.self.inside in
    let t = c.try_next_all-taken.new.self in
    let words = c.try_next_all-taken.ensures.has in
    let took = took_all inside.reader t _ c.try_next_all-taken.result words.0 c.self.invariant.4 (c.try_next_all-taken.ensures.same.1, words.2) in (
      map g.T.Word.read_as words.0,
      words.1,
      rw (← c.self.view_is) (received_more g.T.Word.read_as inside.rest.given inside.reader t words.0 took.1),
    )
