-- What the calls of a script do to what a name of it stands for. Each word says how that stood before the call, what the call was
-- handed and replied, and how it stands after the call.
use Rattle.std.specs.Prelude.{ℕ, Bool, List, Vec, Result, Ok, Err}
use Rattle.flow_terms.specs.declared.refusal.Refusal.{Refusal}
use Rattle.flow_terms.specs.declared.ids.SubId.{SubId}
use Rattle.flow_terms.specs.declared.ids.Ticket.{Ticket}
use Rattle.flow_terms.specs.declared.answers.Tried.{Tried}
use Rattle.flow_terms.specs.declared.answers.Begun.{Begun}
use Rattle.flow_terms.specs.declared.answers.Emit.{Emit}
use Rattle.flow_terms.specs.declared.answers.Withdrawn.{Withdrawn}
use Rattle.flow_terms.specs.declared.answers.Next.{Next}
use Rattle.script_calls.specs.declared.ticked.Ticked.{Ticked}

-- on a flow that others subscribe to
pub record Receipts (S : Type 0) : Type 1 where
  -- with a prelude of these values
  pub Subscribes : S → List ℕ → Result SubId Refusal → S → Type 0
  pub Nexts : S → SubId → Next ℕ → S → Type 0
  pub Cancels : S → SubId → Bool → S → Type 0
  pub Caches : S → Result (List ℕ) Refusal → S → Type 0
  pub Counts : S → ℕ → S → Type 0

-- on a flow into which values are emitted
pub record Emissions (S : Type 0) : Type 1 where
  pub Tries : S → ℕ → Result (Tried ℕ) Refusal → S → Type 0
  pub Begins : S → ℕ → Result (Begun ℕ Ticket) Refusal → S → Type 0
  pub Polls : S → Ticket → Emit → S → Type 0
  pub Withdraws : S → Ticket → Withdrawn ℕ → S → Type 0
  pub Resets : S → S → Type 0

-- on a state that others collect
pub record Readings (S : Type 0) : Type 1 where
  pub Reads : S → ℕ → S → Type 0
  pub Collects : S → Result SubId Refusal → S → Type 0
  pub Nexts : S → SubId → Next ℕ → S → Type 0
  pub Cancels : S → SubId → Bool → S → Type 0
  pub Counts : S → ℕ → S → Type 0

-- on a state that is set
pub record Settings (S : Type 0) : Type 1 where
  pub Sets : S → ℕ → S → Type 0
  pub Compares : S → ℕ → ℕ → Bool → S → Type 0

-- on what shares a source
pub record Turns (S : Type 0) : Type 1 where
  -- at this moment
  pub Ticks : S → ℕ → Ticked → S → Type 0

-- the values of a list that was replied
abbrev pub listed : {A : Type 0} → Result (Vec ℕ A) Refusal → Result (List ℕ) Refusal
listed (Ok values) = Ok values.items
listed (Err refusal) = Err refusal
