-- Why nothing is made.
use Rattle.std.proofs.Common.{◌≡◌, Option, None, Some, IfSome, IfNone, Result, Ok, Err}
use Rattle.flow_terms.specs.declared.refusal.Refusal.{Refusal}

-- what was made isn't refused
pub none_if_ok : {A : Type 0} (o : Option Refusal) (x : A) (P : Refusal → Type 0) → IfSome o (λ e. ◌≡◌ {A = Result A Refusal} (Ok x) (Err e)) → IfSome o P
none_if_ok None x P was = tt
none_if_ok (Some e) x P was = absurd (cc)

pub whatever : (o : Option Refusal) (P : Type 0) → P → IfNone o P
whatever None P it = it
whatever (Some e) P it = tt
