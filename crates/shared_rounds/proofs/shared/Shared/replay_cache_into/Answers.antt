use Rattle.std.proofs.Common.{rules, refl, inl}
use Rattle.shared_rounds.proofs.Doing.{on_ok, on_err}
use Rattle.shared_rounds.proofs.shared.Shared.replay_cache_into.Goals as goal

pub returns-clause-read : goal.returns-clause-read
returns-clause-read g c = on_ok c.read_cache.result _ (search rules, search rules, (c.scan.new.self, c.scan.result, search rules, search rules, search rules, (c.scan.new.self, (refl, refl), (c.scan.new.self, inl refl, (refl, refl, refl, λ _. refl, λ _. refl)), tt)))

pub returns-clause-unread : goal.returns-clause-unread
returns-clause-unread g c = on_err c.read_cache.result _ (search rules, search rules, (c.scan.new.self, c.scan.result, search rules, search rules, search rules, (c.scan.new.self, (refl, refl), (c.scan.new.self, inl refl, (refl, refl, refl, λ _. refl, λ _. refl)), tt)))
