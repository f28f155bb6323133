use Rattle.std.proofs.Common.{◌≡◌, ℕ, ◌+◌, ◌%◌, ◌^◌, rules}
use Rattle.source_callers.proofs.Counting.{updates_as}
use Rattle.source_callers.proofs.updating_calling.count_one.Goals as goal

pub returns : goal.returns
returns g c =
    let u = c.update_and_get.ensures.has in
    let fact : c.update_and_get.result ≡ (u.0 + 1) % 2 ^ 64 = let p = u.1.answered in search rules in
    (u.0, fact, updates_as _ (λ x y. y ≡ (x + 1) % 2 ^ 64) _ _ _ _ (λ x y p. search rules) u.1)
