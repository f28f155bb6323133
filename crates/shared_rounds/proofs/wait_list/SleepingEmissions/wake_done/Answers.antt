use Rattle.std.proofs.Common.{rules, ◌≡◌, None, sym, subst}
use Rattle.shared_lane.specs.Ordering.{IsBefore}
use Rattle.shared_rounds.specs.Sleeping.{OnlyThese, SleepsOn}
use Rattle.shared_rounds.proofs.Parked.{none_gone, gone_before, gone_after}
use Rattle.shared_rounds.proofs.wait_list.SleepingEmissions.wake_done.Goals as goal

pub returns-then-not-is_before-clause-done : goal.returns-then-not-is_before-clause-done
returns-then-not-is_before-clause-done c =
    subst (λ gone. OnlyThese (SleepsOn c.args.first gone) c.args.self.now c.wake.new.self) (sym c.in-Some.is) (
    gone_after c.args.first c.in-Some.gone c.args.self.now c.wake_before.new.self c.wake.new.self c.wake_before.ensures.others c.wake.ensures.others)

pub returns-else-not-is_before-clause-done : goal.returns-else-not-is_before-clause-done
returns-else-not-is_before-clause-done c =
    let before : IsBefore c.in-Some.gone c.args.first = search rules in
    subst (λ gone. OnlyThese (SleepsOn c.args.first gone) c.args.self.now c.wake_before.new.self) (sym c.in-Some.is) (
    gone_before c.args.first c.in-Some.gone c.args.self.now c.wake_before.new.self before c.wake_before.ensures.others)

pub returns-in_default-clause-done : goal.returns-in_default-clause-done
returns-in_default-clause-done c =
    let none : c.args.gone ≡ None = search rules in
    subst (λ gone. OnlyThese (SleepsOn c.args.first gone) c.args.self.now c.wake_before.new.self) (sym none) (
    none_gone c.args.first c.args.self.now c.wake_before.new.self c.wake_before.ensures.others)
