-- Why a flow for threads is not made.
use Rattle.std.proofs.Common.{◌≡◌, inl, inr, Option, Some, None, Result, Ok, Err, refl}
use Rattle.std.specs.Prelude.{IfSome, IfNone}
use Rattle.flow_terms.specs.declared.refusal.Refusal.{Refusal}
use Rattle.flow_terms.specs.declared.refusal.Refusal.TheVariants.{NoMemory}
use Rattle.script_calls.specs.Makings.{RefusedFor}

-- there is no reason against what was made
pub no_reason : {M : Type 0} (why : Option Refusal) (made : M) → IfSome why (λ reason. Ok made ≡ Err reason) → why ≡ None
no_reason (Some reason) made refused = let differ : Ok made ≡ Err reason = refused in cc
no_reason None made refused = refl

pub refused_for : {M : Type 0} (why : Option Refusal) (refusal : Refusal) (result : Result M Refusal) → result ≡ Err refusal → IfSome why (λ reason. result ≡ Err reason)
    → IfNone why (refusal ≡ NoMemory) → RefusedFor why refusal
refused_for (Some reason) refusal result is refused memory = let why_not : result ≡ Err reason = refused in inl cc
refused_for None refusal result is refused memory = inr (refl, memory)
