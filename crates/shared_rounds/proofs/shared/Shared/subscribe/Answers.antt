use Rattle.std.proofs.Common.{rules, refl, inl}
use Rattle.shared_rounds.proofs.Doing.{if_ok, if_err, only_refusals}
use Rattle.shared_rounds.proofs.shared.Shared.subscribe.Goals as goal

pub returns-clause-ok : goal.returns-clause-ok
returns-clause-ok c = if_ok c.admit-reader.result _ _ (λ r p. (
  (search rules, search rules, (c.scan.new.self, c.scan.result, search rules, search rules, search rules, (c.admit-reader.new.self, (c.next_subscription-number.ensures, (r, search rules)), (c.admit-reader.new.self, inl refl, (refl, refl, refl, λ _. refl, λ _. refl)), tt))),
  (c.scan.new.self, c.scan.result, search rules, search rules, search rules, (c.next_subscription-number.ensures, search rules)),
)) c.admit-reader.ensures.ok

pub returns-clause-err : goal.returns-clause-err
returns-clause-err c = if_err c.admit-reader.result _ _ (λ e p. (
  (search rules, search rules, (c.scan.new.self, c.scan.result, search rules, search rules, search rules, (c.admit-reader.new.self, p, (c.admit-reader.new.self, inl refl, (refl, refl, refl, λ _. refl, λ _. refl)), tt))),
  only_refusals c.scan.new.self e c.admit-reader.new.self p,
)) c.admit-reader.ensures.err
