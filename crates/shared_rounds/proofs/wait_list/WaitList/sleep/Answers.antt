use Rattle.std.proofs.Common.{rules, refl, sym, ap, subst, inl}
use Rattle.shared_rounds.specs.Sleeping.{Parks, SleepsAt}
use Rattle.shared_rounds.proofs.Rises.{asleep_still}
use Rattle.shared_rounds.proofs.wait_list.WaitList.sleep.Goals.{else-not-is_in-via-then-not-is_in+else-not-park, else-not-is_in-via-else-not-is_in}
use Rattle.shared_rounds.proofs.wait_list.WaitList.sleep.Goals as goal

pub returns-clause-asleep : goal.returns-clause-asleep
returns-clause-asleep c =
    let mid = c.else-not-is_in.self.sleeping in
    let lain : Parks c.args.number c.args.self.now.sleeping mid = elim c.else-not-is_in.branch [
      | else-not-is_in-via-then-not-is_in+else-not-park w ↦ subst (Parks c.args.number c.args.self.now.sleeping) (sym (ap (λ s. s.sleeping) w.self-is)) w.park.ensures.others
      | else-not-is_in-via-else-not-is_in w ↦ subst (Parks c.args.number c.args.self.now.sleeping) (sym (ap (λ s. s.sleeping) w.self-is)) (λ key. inl refl)
    ] in
    let there : SleepsAt mid c.else-not-is_in.wait_key.key c.args.number = elim c.else-not-is_in.branch [
      | else-not-is_in-via-then-not-is_in+else-not-park w ↦ search rules
      | else-not-is_in-via-else-not-is_in w ↦ search rules
    ] in
    asleep_still c.args.self.now.sleeping mid c.register.new.self.sleeping c.args.number c.else-not-is_in.wait_key.key lain there c.register.ensures.sleeps c.register.ensures.others
