-- What a new flow is refused by.
use Rattle.std.proofs.Common.{◌≡◌, ◌⊎◌, Option, Some, None, Ok, Err, IfSome, IfNone, Result, sym, ap, inl, inr, ⊎_elim}

-- what was made wasn't refused by this
pub not_refused : {A B E : Type 0} (refusal : Option E) (x : A) (y : B) → IfSome refusal (λ r. ◌≡◌ {A = Result A E} (Ok x) (Err r))
    → IfSome refusal (λ r. ◌≡◌ {A = Result B E} (Ok y) (Err r))
not_refused None x y h = tt
not_refused (Some r) x y h = absurd (cc)

pub if_none : {A P : Type 0} (x : Option A) → P → IfNone x P
if_none None p = p
if_none (Some x) p = tt

-- what a flow is refused by: memory, its config, or another limit
pub refused_by : (A : Type 0) {E : Type 0} (refusal : Option E) (r : E) (P Q : Type 0) → IfSome refusal (λ x. ◌≡◌ {A = Result A E} (Err r) (Err x))
    → IfNone refusal (P ⊎ Q) → P ⊎ ((refusal ≡ Some r) ⊎ Q)
refused_by A None r P Q some none = ⊎_elim (λ p. inl p) (λ q. inr (inr q)) none
refused_by A (Some x) r P Q some none = let same : r ≡ x = cc in inr (inl (ap Some (sym same)))
