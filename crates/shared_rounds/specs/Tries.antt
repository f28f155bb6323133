-- The answers of a try and of a start, with a receipt, a number or a ticket in them.
use Rattle.std.specs.Prelude.{◌≡◌, ⊤, ℕ, Option, Some, None, Result, Ok, Err}
use Rattle.flow_terms.specs.declared.refusal.Refusal.{Refusal}
use Rattle.flow_terms.specs.declared.policy.Policy.{Policy}
use Rattle.flow_terms.specs.declared.policy.Policy.TheVariants.{Suspend, DropLatest}
use Rattle.flow_terms.specs.declared.answers.Tried.{Tried}
use Rattle.flow_terms.specs.declared.answers.Tried.TheVariants as tried
use Rattle.flow_terms.specs.declared.answers.Begun.{Begun}
use Rattle.flow_terms.specs.declared.answers.Begun.TheVariants as begun

-- a fact about what an accepted try was given
abbrev pub IfTried : {N : Type 0} → Result (Tried N) Refusal → (N → Type 0) → Type 0
IfTried (Ok (tried.Accepted n)) P = P n
IfTried (Ok tried.Dropped) P = ⊤
IfTried (Ok tried.Full) P = ⊤
IfTried (Err refusal) P = ⊤

-- a fact about what an emission was given that was accepted at once
abbrev pub IfBegun : {N K : Type 0} → Result (Begun N K) Refusal → (N → Type 0) → Type 0
IfBegun (Ok (begun.Accepted n)) P = P n
IfBegun (Ok begun.Dropped) P = ⊤
IfBegun (Ok (begun.Waiting k)) P = ⊤
IfBegun (Err refusal) P = ⊤

-- a try is dropped under DropLatest alone, and full under Suspend alone
abbrev pub TriedUnder : {N : Type 0} → Policy → Result (Tried N) Refusal → Type 0
TriedUnder policy (Ok (tried.Accepted n)) = ⊤
TriedUnder policy (Ok tried.Dropped) = policy ≡ DropLatest
TriedUnder policy (Ok tried.Full) = policy ≡ Suspend
TriedUnder policy (Err refusal) = ⊤

-- an emission is dropped under DropLatest alone, and waits under Suspend alone
abbrev pub BegunUnder : {N K : Type 0} → Policy → Result (Begun N K) Refusal → Type 0
BegunUnder policy (Ok (begun.Accepted n)) = ⊤
BegunUnder policy (Ok begun.Dropped) = policy ≡ DropLatest
BegunUnder policy (Ok (begun.Waiting k)) = policy ≡ Suspend
BegunUnder policy (Err refusal) = ⊤

-- the ticket of an emission that isn't finished
abbrev pub ticket_of : {N K : Type 0} → Result (Begun N K) Refusal → Option K
ticket_of (Ok (begun.Accepted n)) = None
ticket_of (Ok begun.Dropped) = None
ticket_of (Ok (begun.Waiting k)) = Some k
ticket_of (Err refusal) = None

-- the last number that an emitter was answered, after a try, and after a start
abbrev pub last_of_try : Option ℕ → Result (Tried ℕ) Refusal → Option ℕ
last_of_try last (Ok (tried.Accepted n)) = Some n
last_of_try last (Ok tried.Dropped) = last
last_of_try last (Ok tried.Full) = last
last_of_try last (Err refusal) = last

abbrev pub last_of_start : {K : Type 0} → Option ℕ → Result (Begun ℕ K) Refusal → Option ℕ
last_of_start last (Ok (begun.Accepted n)) = Some n
last_of_start last (Ok begun.Dropped) = last
last_of_start last (Ok (begun.Waiting k)) = last
last_of_start last (Err refusal) = last

-- what an emission began with, as its caller sees it: the ticket stays with the emitter
abbrev pub without_ticket : {N K : Type 0} → Result (Begun N K) Refusal → Result (Begun N (Unit {0})) Refusal
without_ticket (Ok (begun.Accepted n)) = Ok (begun.Accepted n)
without_ticket (Ok begun.Dropped) = Ok begun.Dropped
without_ticket (Ok (begun.Waiting k)) = Ok (begun.Waiting tt)
without_ticket (Err refusal) = Err refusal
