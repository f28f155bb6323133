-- What a maker comes to.
use Rattle.std.specs.Prelude.{◌≡◌, ◌⊎◌, Option, Some, None, Result, MatchResult}
use Rattle.flow_terms.specs.declared.refusal.Refusal.{Refusal}
use Rattle.flow_terms.specs.declared.refusal.Refusal.TheVariants.{NoMemory}

-- it is refused for this reason where there is one, and else for want of memory alone
abbrev pub RefusedFor : Option Refusal → Refusal → Type 0
RefusedFor why refusal = (why ≡ Some refusal) ⊎ ((why ≡ None) × (refusal ≡ NoMemory))

-- it was made where there is no reason against it, and this holds of it then; else it is refused
abbrev pub MadeUnless : {M : Type 0} → Option Refusal → Result M Refusal → (M → Type 0) → Type 0
MadeUnless why result holds = MatchResult result (λ made. (why ≡ None) × holds made) (RefusedFor why)
