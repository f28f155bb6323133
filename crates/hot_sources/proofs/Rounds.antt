-- The rounds of one call that receives.
use Rattle.std.proofs.Common.{◌≡◌, ◌⊎◌, ℕ, inl, inr, sym, subst}
use Rattle.shared_rounds.specs.declared.round.Round.TheVariants as round
use Rattle.shared_rounds.specs.Entering.{Made}
use Rattle.shared_rounds.specs.Reach.{Party}
use Rattle.shared_flow.specs.Looks.{OnlyNext, by_none, by_one, by_pending}

pub rounds_given : (n : ℕ) (p q : Party) → (q ≡ p) ⊎ Made (round.Next n) p q → OnlyNext n p q
rounds_given n p q (inl e) = subst (λ (r : Party). OnlyNext n p r) (sym e) (by_none p)
rounds_given n p q (inr made) = by_one p p q (by_none p) made

pub rounds_looked : (n : ℕ) (p q : Party) → Made (round.Pending n) p q → OnlyNext n p q
rounds_looked n p q made = by_pending p p q (by_none p) made
