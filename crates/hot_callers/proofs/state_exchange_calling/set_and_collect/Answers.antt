use Rattle.std.proofs.Common.{ℕ, ◌-◌, List, sym, ap, subst, ◌∙◌}
use Rattle.state_flow.specs.declared.view.View.{View}
use Rattle.state_flow.specs.History.{Picks}
use Rattle.state_flow.proofs.Lists.{picks_none}
use Rattle.hot_callers.specs.StateExchanges.{history_of}
use Rattle.hot_callers.proofs.StateExchanging.{both}
use Rattle.hot_callers.proofs.state_exchange_calling.set_and_collect.Goals as goal

pub returns : goal.returns
returns g c =
    let opened = c.in_ok-seat.ensures.has in
    let left = c.in_ok-take_seat.ensures.left in
    let taken = c.in_ok-take_seat.ensures.has.1 in
    let began = c.collect-collector.ensures.has.only in
    let asked = c.set_beside_asks-asked in
    subst (λ (l : List ℕ). Picks l (history_of c.args.first c.args.values.now)) (sym asked.ensures.listed) (
    both c.args.first c.args.values.now c.take_seat.new.self.view asked.new.seat.view c.collect-collector.result asked.new.collector c.cancel.result.view c.give_back.new.self.view
    (ap (λ (v : View ℕ). v.seen) left ∙ ap (λ (v : View ℕ). v.seen) opened)
    (ap (λ (v : View ℕ). v.writes) left ∙ ap (λ (v : View ℕ). v.writes) opened)
    (ap (λ (v : View ℕ). v.share) left ∙ ap (λ (v : View ℕ). v.share - 1) opened)
    (ap (λ (v : View ℕ). v.seats) left ∙ ap (λ (v : View ℕ). v.seats) opened)
    asked.ensures.sets.1
    (ap (λ (v : View ℕ). v.writes) began ∙ ap (λ (v : View ℕ). v.writes) taken)
    (ap (λ (v : View ℕ). v.share) began ∙ ap (λ (v : View ℕ). v.share) taken)
    (subst (λ (l : List ℕ). Picks l c.collect-collector.result.view.seen) (sym (ap (λ (v : View ℕ). v.collected) began)) (picks_none c.collect-collector.result.view.seen))
    asked.ensures.asks c.cancel.ensures.has c.give_back.ensures.has c.give_back.ensures.alone
    )
