use Rattle.std.proofs.Common.{ℕ, List, take, get_or, refl, sym, subst, ◌∙◌}
use Rattle.std.proofs.lemmas.List.{take_all, take_more}
use Rattle.hot_callers.specs.StateExchanges.{SetsEach}
use Rattle.hot_callers.proofs.StateExchanging.{sets_more}
use Rattle.hot_callers.proofs.state_exchange_calling.set_each.Goals as goal

pub loop-value-init : goal.loop-value-init
loop-value-init c = (refl, refl)

pub loop-value-preserved : goal.loop-value-preserved
loop-value-preserved c =
    let i = c.loop-value.value-index in
    let values = c.args.values.now in
    let was = c.loop-value.invariant in
    subst (λ (l : List ℕ). SetsEach l c.args.seat.now c.set.new.self) (sym (take_more values i 0 c.loop-value-test.true))
    (c.set.ensures.same_flow ∙ was.0, sets_more (take i values) (get_or values i 0) c.args.seat.now.view c.loop-value.seat.view c.set.new.self.view was.1 c.set.ensures.has)

pub returns : goal.returns
returns c =
    let values = c.args.values.now in
    subst (λ (l : List ℕ). SetsEach l c.args.seat.now c.loop-value.seat) (take_all c.loop-value.value-index values c.loop-value-test.false) c.loop-value.invariant
