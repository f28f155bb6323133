use Rattle.std.proofs.Common.{rules, refl, inl, inr}
use Rattle.shared_rounds.proofs.Doing.{look_freed, look_frees, look_makes, none_freed}
use Rattle.shared_rounds.proofs.shared.Shared.look.Goals as goal

pub returns-in-Value-clause-does : goal.returns-in-Value-clause-does
returns-in-Value-clause-does c = (
  search rules,
  search rules,
  (
    c.scan.new.self,
    c.scan.result,
    search rules,
    search rules,
    search rules,
    (
      c.scan.new.self,
      look_makes _ c.scan.new.self c.args.number c.look-taken.result,
      (c.scan-in-Value.new.self, inr (c.scan-in-Value.new.self, c.scan-in-Value.result, search rules, search rules, search rules, refl), (refl, refl, refl, λ _. refl, λ _. refl)),
      look_frees c.scan.new.self _ c.args.number c.look-taken.result,
    ),
  ),
)

pub returns-in_default-clause-does : goal.returns-in_default-clause-does
returns-in_default-clause-does c = rw c.look-taken.ensures.sequencer (
  search rules,
  search rules,
  (
    c.scan.new.self,
    c.scan.result,
    search rules,
    search rules,
    search rules,
    (
      c.scan.new.self,
      look_makes _ c.scan.new.self c.args.number c.look-taken.result,
      (c.scan.new.self, inl refl, (refl, refl, refl, λ _. refl, λ _. refl)),
      look_frees c.scan.new.self _ c.args.number c.look-taken.result,
    ),
  ),
)

pub returns-in-Value-clause-freed : goal.returns-in-Value-clause-freed
returns-in-Value-clause-freed c = look_freed c.look-taken.result _ _ (
  c.scan.new.self,
  c.scan.result,
  search rules,
  search rules,
  search rules,
  (c.scan-in-Value.new.self, (c.scan-in-Value.new.self, c.scan-in-Value.result, search rules, search rules, search rules, refl), (refl, refl, refl, λ _. refl, λ _. refl)),
)

pub returns-in_default-clause-freed : goal.returns-in_default-clause-freed
returns-in_default-clause-freed c = none_freed c.look-taken.result _ _ c.in_default.not-Value
