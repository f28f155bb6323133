use Rattle.std.proofs.Common.{◌≡◌, ℕ, ◌+◌, ◌%◌, ◌^◌, rules, subst}
use Rattle.state_updates.specs.Updating.{Updates}
use Rattle.source_callers.proofs.Counting.{updates_as}
use Rattle.source_callers.proofs.updating_calling.count_within.Goals as goal

pub returns : goal.returns
returns c =
    let u = c.in_ok-updated.ensures.has in
    let found = c.in_ok-updated.updated.found in
    let fact : c.in_ok-updated.updated.value ≡ (found + 1) % 2 ^ 64 = let p = u.answered in search rules in
    subst (λ (w : ℕ). Updates (λ x y. y ≡ (x + 1) % 2 ^ 64) c.args.seat.now.view found w c.try_update.new.seat.view) fact
    (updates_as _ (λ x y. y ≡ (x + 1) % 2 ^ 64) _ _ _ _ (λ x y p. search rules) u)
