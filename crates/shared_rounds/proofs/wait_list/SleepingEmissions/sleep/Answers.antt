use Rattle.std.proofs.Common.{rules, refl, sym, subst, inl}
use Rattle.shared_rounds.specs.Sleeping.{Parks, SleepsAt}
use Rattle.shared_rounds.proofs.Rises.{asleep_still}
use Rattle.shared_rounds.proofs.wait_list.SleepingEmissions.sleep.Goals.{else-not-is_in-via-then-not-is_in+else-not-park, else-not-is_in-via-else-not-is_in}
use Rattle.shared_rounds.proofs.wait_list.SleepingEmissions.sleep.Goals as goal

pub returns-clause-asleep : goal.returns-clause-asleep
returns-clause-asleep c =
    let mid = c.else-not-is_in.self in
    let lain : Parks c.args.ticket.0 c.args.self.now mid = elim c.else-not-is_in.branch [
      | else-not-is_in-via-then-not-is_in+else-not-park w ↦ subst (Parks c.args.ticket.0 c.args.self.now) (sym w.self-is) w.park.ensures.others
      | else-not-is_in-via-else-not-is_in w ↦ subst (Parks c.args.ticket.0 c.args.self.now) (sym w.self-is) (λ key. inl refl)
    ] in
    let there : SleepsAt mid c.else-not-is_in.wait_key.key c.args.ticket.0 = elim c.else-not-is_in.branch [
      | else-not-is_in-via-then-not-is_in+else-not-park w ↦ search rules
      | else-not-is_in-via-else-not-is_in w ↦ search rules
    ] in
    asleep_still c.args.self.now mid c.register.new.self.sleeping c.args.ticket.0 c.else-not-is_in.wait_key.key lain there c.register.ensures.sleeps (search rules)
