use Rattle.std.proofs.Common.{ℕ, IsSome, sym, ◌∙◌, ap, subst}
use Rattle.state_flow.specs.declared.view.View.{View}
use Rattle.state_callers.proofs.Waiting.{first_is_given, given_is_last, never_again}
use Rattle.state_callers.proofs.word_calling.awaited_twice.Goals as goal

pub returns-clause-first : goal.returns-clause-first
returns-clause-first g c =
    subst IsSome (sym c.given-first.ensures)
    (first_is_given c.collect-watcher.result.view c.next.new.self.view c.next.result (ap (λ (v : View ℕ). v.collected) c.collect-watcher.ensures.has.only) c.next.ensures.awaits)

pub returns-clause-differs : goal.returns-clause-differs
returns-clause-differs g c =
    λ x is again.
    never_again c.next.new.self.view c.next-2.new.self.view c.next-2.result x
    (given_is_last c.collect-watcher.result.view c.next.new.self.view c.next.result x (sym c.given-first.ensures ∙ is) c.next.ensures.awaits)
    c.next-2.ensures.awaits (sym c.given-second.ensures ∙ again)
