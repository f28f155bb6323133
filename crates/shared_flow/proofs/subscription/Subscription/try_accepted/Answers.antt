use Rattle.std.proofs.Common.{◌≡◌, inl, [], ◌∷◌, ◌++◌, map, sym, ap, ◌∙◌}
use Rattle.shared_flow.specs.Parties.{Subscribed, words_received, taken_of}
use Rattle.shared_flow.proofs.Received.{took_next, still_reads, received_more}
use Rattle.shared_flow.proofs.subscription.Subscription.try_accepted.Goals as goal
use Rattle.shared_flow.proofs.subscription.Subscription.try_accepted.Goals.{in-Value, in-Nothing, in-Overtaken}

pub invariant_of-self : goal.invariant_of-self
invariant_of-self g c =
    let inside = c.self.inside in
    let same = c.try_next.ensures.same.1 in (
      c.self.invariant.0,
      still_reads inside.access.flow inside.reader c.try_next.new.self c.self.invariant.1 same,
      c.self.invariant.2,
      same.5 ∙ c.self.invariant.3,
      (took_next inside.reader c.try_next.new.self c.try_next.result c.self.invariant.4 (same, c.try_next.ensures.has)).0,
      inl (ap (λ (s : Subscribed _). s.rest) c.self.view_is ∙ c.requires.past),
    )

pub returns-clause-has : goal.returns-clause-has
returns-clause-has g c =
    let inside = c.self.inside in
    let read = g.T.Word.read_as in
    let took = took_next inside.reader c.try_next.new.self c.try_next.result c.self.invariant.4 (c.try_next.ensures.same.1, c.try_next.ensures.has) in
    let value : map read (taken_of c.try_next.result) ≡ taken_of c.match-try_next.result = elim c.match-try_next.branch [
      | in-Value w ↦ ap (λ x. map read (taken_of x)) w.in-Value.is ∙ ap (λ v. v ∷ []) (sym w.from_word.ensures) ∙ ap taken_of (sym w.result-is)
      | in-Nothing w ↦ ap (λ x. map read (taken_of x)) w.in-Nothing.is ∙ ap taken_of (sym w.result-is)
      | in-Overtaken w ↦ ap (λ x. map read (taken_of x)) w.in-Overtaken.is ∙ ap taken_of (sym w.result-is)
    ] in
    rw (← c.self.view_is) (received_more read inside.rest.given inside.reader c.try_next.new.self (taken_of c.try_next.result) took.1
    ∙ ap (λ l. (inside.rest.given ++ map read (words_received inside.reader)) ++ l) value)
