use Rattle.std.proofs.Common.{rules, ◌≡◌, inl, inr, [], ◌∷◌, ◌++◌, length, map, refl, sym, ap, subst, ◌∙◌}
use Rattle.shared_lane.specs.Readers.{at}
use Rattle.shared_rounds.specs.Names.{FoundUp}
use Rattle.shared_rounds.specs.Reach.{party_of}
use Rattle.shared_flow.specs.Looks.{MadeRoom}
use Rattle.shared_flow.specs.Parties.{Subscribed, received, words_received, taken_of}
use Rattle.shared_flow.proofs.Received.{took_next, took_none, still_reads, received_more}
use Rattle.shared_flow.proofs.subscription.Subscription.look.Goals as goal
use Rattle.shared_flow.proofs.subscription.Subscription.look.Goals.{then-waits, else-waits}

pub invariant_of-self : goal.invariant_of-self
invariant_of-self g c =
    let inside = c.self.inside in
    let t = c.try_next.new.self in
    let same = c.try_next.ensures.same.1 in (
      c.self.invariant.0,
      still_reads inside.access.flow inside.reader t c.self.invariant.1 same,
      c.self.invariant.2,
      same.5 ∙ c.self.invariant.3,
      (took_next inside.reader t c.try_next.result c.self.invariant.4 (same, c.try_next.ensures.has)).0,
      inl (ap (λ (s : Subscribed _). s.rest) c.self.view_is ∙ c.requires.past),
    )

pub invariant_of-self-then-waits : goal.invariant_of-self-then-waits
invariant_of-self-then-waits g c =
    let inside = c.self.inside in
    let t = c.try_next.new.self in
    let same = c.try_next.ensures.same.1 in (
      c.self.invariant.0,
      still_reads inside.access.flow inside.reader t c.self.invariant.1 same,
      search rules,
      same.5 ∙ c.self.invariant.3,
      (took_next inside.reader t c.try_next.result c.self.invariant.4 (same, c.try_next.ensures.has)).0,
      inl (ap (λ (s : Subscribed _). s.rest) c.self.view_is ∙ c.requires.past),
    )

pub invariant_of-self-else-waits : goal.invariant_of-self-else-waits
invariant_of-self-else-waits g c =
    let inside = c.self.inside in
    let t = c.try_next.new.self in
    let same = c.try_next.ensures.same.1 in (
      c.self.invariant.0,
      still_reads inside.access.flow inside.reader t c.self.invariant.1 same,
      search rules,
      same.5 ∙ c.self.invariant.3,
      (took_next inside.reader t c.try_next.result c.self.invariant.4 (same, c.try_next.ensures.has)).0,
      inl (ap (λ (s : Subscribed _). s.rest) c.self.view_is ∙ c.requires.past),
    )

pub returns-in_default-clause-has : goal.returns-in_default-clause-has
returns-in_default-clause-has g c =
    let inside = c.self.inside in
    let t = c.try_next.new.self in
    let took = took_next inside.reader t c.try_next.result c.self.invariant.4 (c.try_next.ensures.same.1, c.try_next.ensures.has) in
    let none = took.1 ∙ ap (λ l. words_received inside.reader ++ l) (took_none c.try_next.result c.in_default.not-Value) in
    rw (← c.self.view_is) (received_more g.T.Word.read_as inside.rest.given inside.reader t [] none)

pub returns-clause-has : goal.returns-clause-has
returns-clause-has g c =
    let inside = c.self.inside in
    let read = g.T.Word.read_as in
    let t = c.try_next.new.self in
    let took = took_next inside.reader t c.try_next.result c.self.invariant.4 (c.try_next.ensures.same.1, c.try_next.ensures.has) in
    let one = took.1 ∙ ap (λ x. words_received inside.reader ++ taken_of x) c.in-Value.is in
    let same : received read c.if-waits.self ≡ inside.rest.given ++ map read (words_received t) = elim c.if-waits.branch [
      | then-waits w ↦ ap (received read) (w.self-is ∙ w.accept_waiting.ensures.same)
      | else-waits w ↦ ap (received read) w.self-is
    ] in
    rw (← c.self.view_is) (same ∙ received_more read inside.rest.given inside.reader t (c.in-Value.word ∷ []) one
    ∙ ap (λ v. (inside.rest.given ++ map read (words_received inside.reader)) ++ v ∷ []) (sym c.from_word.ensures))

pub returns-clause-room : goal.returns-clause-room
returns-clause-room g c =
    let inside = c.self.inside in
    let s : Subscribed _ = record { party = party_of inside.access; number = inside.number; given = inside.rest.given; rest = inside.rest.left; reader = inside.reader; looks = inside.looker.looks } in
    subst (λ (x : Subscribed _). MadeRoom x c.if-waits.self) c.self.view_is (elim c.if-waits.branch [
      | then-waits w ↦ subst (MadeRoom s) (sym w.self-is) (inr (
        w.accept_waiting.ensures.made,
        subst (λ (x : Subscribed _). FoundUp (at x.reader) (length inside.access.rounds) inside.looker.looks x.looks) (sym w.accept_waiting.ensures.same) (c.has_unfinished-waits.ensures.some w.if-waits.true),
      ))
      | else-waits w ↦ subst (MadeRoom s) (sym w.self-is) (inl (refl, c.has_unfinished-waits.ensures.none w.if-waits.false))
    ])
