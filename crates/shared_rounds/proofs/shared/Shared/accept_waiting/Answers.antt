use Rattle.std.proofs.Common.{rules, refl, inl}
use Rattle.shared_rounds.proofs.shared.Shared.accept_waiting.Goals as goal

pub returns-clause-does : goal.returns-clause-does
returns-clause-does c = (search rules, search rules, (c.scan.new.self, c.scan.result, search rules, search rules, search rules, (c.scan.new.self, refl, (c.scan.new.self, inl refl, (refl, refl, refl, λ _. refl, λ _. refl)), tt)))
