-- Why a caller is refused: as its flow is, or by a later call.
use Rattle.std.proofs.Common.{◌≡◌, ◌⊎◌, ⊎_elim, inl, inr, Option, Some, None, Result, Ok, Err, IfOk, IfErr, IfNone}
use Rattle.flow_terms.specs.declared.refusal.Refusal.{Refusal}
use Rattle.flow_terms.specs.declared.refusal.Refusal.TheVariants.{EmitsFull, NoMemory, Spent}
use Rattle.shared_rounds.specs.Rounds.{IsAtLimit}

pub then_too : (o : Option Refusal) (P Q : Type 0) → (P → Q) → IfNone o P → IfNone o Q
then_too None P Q leads it = leads it
then_too (Some e) P Q leads it = tt

-- what holds anyhow, and what is less than was said
pub if_ok_anyhow : {A : Type 0} (r : Result A Refusal) (P : Type 0) → P → IfOk r (λ _. P)
if_ok_anyhow (Ok x) P it = it
if_ok_anyhow (Err e) P it = tt

pub if_err_too : {A : Type 0} (r : Result A Refusal) (P Q : Refusal → Type 0) → ((refusal : Refusal) → P refusal → Q refusal) → IfErr r P → IfErr r Q
if_err_too (Ok x) P Q leads it = tt
if_err_too (Err e) P Q leads it = leads e it

-- a beginning is refused for these reasons, or an emission is
pub by_beginning : (refusal : Refusal) → (refusal ≡ NoMemory) ⊎ IsAtLimit refusal → (refusal ≡ NoMemory) ⊎ (IsAtLimit refusal ⊎ (refusal ≡ EmitsFull))
by_beginning refusal why = ⊎_elim (λ memory. inl memory) (λ limit. inr (inl limit)) why

pub by_emitting : (refusal : Refusal) → (refusal ≡ NoMemory) ⊎ ((refusal ≡ Spent) ⊎ (refusal ≡ EmitsFull)) → (refusal ≡ NoMemory) ⊎ (IsAtLimit refusal ⊎ (refusal ≡ EmitsFull))
by_emitting refusal why = ⊎_elim (λ memory. inl memory) (λ other. inr (⊎_elim (λ spent. inl (inl spent)) (λ full. inr full) other)) why
