-- Calls by the block: so many calls in a row.
use Rattle.std.specs.Prelude.{◌≡◌, ℕ, suc, zero, ◌+◌, List, [], ◌∷◌, ◌++◌, map, take, Result, Ok, Err}
use Rattle.flow_terms.specs.declared.refusal.Refusal.{Refusal}
use Rattle.flow_terms.specs.declared.answers.Tried.{Tried}
use Rattle.flow_terms.specs.declared.answers.Tried.TheVariants.{Accepted, Dropped, Full}
use Rattle.flow_terms.specs.declared.answers.Next.{Next}
use Rattle.flow_terms.specs.declared.answers.Next.TheVariants.{Value, Nothing, Closed}
use Rattle.shared_core.specs.Flow.{Parameters, State, empty}
use Rattle.shared_core.specs.Calls.{Call, trying, receiving, replies, try_emit, next_value}
use Rattle.shared_core.specs.Headline.{Execution}
use Rattle.shared_core.specs.Shown.{Seen, Follows}

-- one was accepted before so many; a refusal behind an accepted one isn't told
abbrev pub one_more : {T : Type 0} → Result ℕ Refusal × State T → Result ℕ Refusal × State T
one_more (Ok count, M) = (Ok (count + 1), M)
one_more (Err refusal, M) = (Ok 1, M)

-- where the try was accepted, the rest is tried too
abbrev pub tried_on : {T : Type 0} → Result (Tried ℕ) Refusal × State T → (State T → Result ℕ Refusal × State T) → Result ℕ Refusal × State T
tried_on (Ok (Accepted n), N) rest = one_more (rest N)
tried_on (Ok Dropped, N) rest = (Ok 0, N)
tried_on (Ok Full, N) rest = (Ok 0, N)
tried_on (Err refusal, N) rest = (Err refusal, N)

-- these values are tried, one after another, up to the first that isn't accepted; how many were, or why the first was refused
abbrev pub try_emit_all : {T : Type 0} → ℕ → List T → State T → Result ℕ Refusal × State T
try_emit_all emitter [] M = (Ok 0, M)
try_emit_all emitter (v ∷ values) M = tried_on (try_emit emitter v M) (try_emit_all emitter values)

-- a value was received before these
abbrev pub one_before : {T : Type 0} → T → (Next ℕ × List T) × State T → (Next ℕ × List T) × State T
one_before v ((Value count, values), M) = ((Value (count + 1), v ∷ values), M)
one_before v ((Nothing, values), M) = ((Value 1, v ∷ values), M)
one_before v ((Closed, values), M) = ((Value 1, v ∷ values), M)

-- where a value was received, the rest is asked for too
abbrev pub received_on : {T : Type 0} → Next T × State T → (State T → (Next ℕ × List T) × State T) → (Next ℕ × List T) × State T
received_on (Value v, N) rest = one_before v (rest N)
received_on (Nothing, N) rest = ((Nothing, []), N)
received_on (Closed, N) rest = ((Closed, []), N)

-- so many values are asked for, one after another, up to the first answer that is none; how many came, or why none did, and
-- which
abbrev pub next_all : {T : Type 0} → ℕ → ℕ → State T → (Next ℕ × List T) × State T
next_all n zero M = ((Value 0, []), M)
next_all n (suc room) M = received_on (next_value n M) (next_all n room)

-- the values that came are behind those that were there
abbrev pub Receives : {T : Type 0} → ℕ → ℕ → Seen T → List T → Next ℕ → List T → Seen T → Type 0
Receives {T} n room old before answer after new =
    (values : List T) × (after ≡ before ++ values) × Follows (next_all n room) old (answer, values) new

-- ---- as lists of calls

-- how many tries were made, where there were so many values
abbrev pub tries_made : Result ℕ Refusal → ℕ
tries_made (Ok count) = suc count
tries_made (Err refusal) = 1

abbrev pub tries : {T : Type 0} → ℕ → List T → Result ℕ Refusal → List (Call T)
tries emitter values result = map (trying emitter) (take (tries_made result) values)

-- so many receipts and one more, as far as there was room
abbrev pub receipts_of : {T : Type 0} → ℕ → ℕ → ℕ → List (Call T)
receipts_of n zero count = []
receipts_of n (suc room) zero = receiving n ∷ []
receipts_of n (suc room) (suc count) = receiving n ∷ receipts_of n room count

abbrev pub count_of : Next ℕ → ℕ
count_of (Value count) = count
count_of Nothing = 0
count_of Closed = 0

abbrev pub receipts : {T : Type 0} → ℕ → ℕ → Next ℕ → List (Call T)
receipts n room answer = receipts_of n room (count_of answer)

-- the execution with these calls behind it, which left a flow that is seen so
abbrev pub and_then_all : {T : Type 0} → Parameters → Execution T → List (Call T) → Seen T → Execution T
and_then_all p execution more new = record {
  calls = execution.calls ++ more;
  replies = replies (execution.calls ++ more) (empty p);
  seen = new;
}
