-- A number, and then its half.
use Rattle.std.specs.Prelude.{◌≡◌, ℕ, ◌/◌, ◌<◌, List, [], ◌∷◌}
use Rattle.std.proofs.Common.{zero, suc}
use Rattle.cold_flow.specs.declared.builders.unfold.Unfolded.{Unfolded}
use Rattle.cold_flow.specs.declared.builders.unfold.Unfolded.TheVariants.{Next, Finish}

-- the number, and then what its half gives, until nothing is left
abbrev pub half_on : ℕ → Unfolded ℕ ℕ ℕ
half_on zero = Finish
half_on (suc n) = Next (suc n) (suc n / 2)

-- the number, its half, the half of that and so on, as long as it is not 0
abbrev pub AreHalves : ℕ → List ℕ → Type 0
AreHalves number [] = number ≡ 0
AreHalves number (first ∷ rest) = (0 < number) × (first ≡ number) × AreHalves (number / 2) rest
