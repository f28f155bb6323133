-- What `retry` makes of a source.
use Rattle.std.specs.Prelude.{◌≡◌, ◌⊎◌, ℕ, zero, suc, ◌+◌, ◌-◌, ◌*◌, ◌<◌, ◌≤◌, ◌==◌, Bool, true, false, List, ◌++◌, Option, Some, None, if◌then◌else◌}
use Rattle.std.specs.Iterator.{Count, count_add, count_map}
use Rattle.cold_flow.specs.declared.cause.Cause.{Cause}
use Rattle.cold_flow.specs.declared.cause.Cause.TheVariants.{Finished, Failed, Cancelled, Refused}
use Rattle.flow_terms.specs.declared.refusal.Refusal.TheVariants.{NoMemory}
use Rattle.cold_flow.specs.Trace.{Trace, ◌⊑◌, ended_by}
use Rattle.cold_flow.specs.Poll.{Traces, Fixes, OrRefused}

-- these values, and then t
abbrev pub behind : {A E : Type 0} → List A → Trace A E → Trace A E
behind xs t = (xs ++ t.0, t.1)

-- whether it is a failure that passes the test
abbrev pub has_failed : {E : Type 0} → (E → Bool) → Option (Cause E) → Bool
has_failed test None = false
has_failed test (Some Finished) = false
has_failed test (Some (Failed e)) = test e
has_failed test (Some Cancelled) = false
has_failed test (Some (Refused r)) = false

-- The trace, and where it has so failed the same again, so often at most. Whether a failure is followed, test says of how many still may
-- and of its fault.
abbrev pub retried_when : {A E : Type 0} → (ℕ → E → Bool) → ℕ → Trace A E → Trace A E
retried_when test zero t = t
retried_when test (suc n) t = if has_failed (test (suc n)) t.1 then behind t.0 (retried_when test n t) else t

-- the same by a test of the fault alone
abbrev pub retried : {A E : Type 0} → (E → Bool) → ℕ → Trace A E → Trace A E
retried test = retried_when (λ _. test)

-- what a test says of a fault and of how many runs followed before, where so many of times still may
abbrev pub by_attempt : {E : Type 0} → (E → ℕ → Bool) → ℕ → ℕ → E → Bool
by_attempt test times left e = test e (times - left)

-- its values, and the same so often again, where the start after that was refused
abbrev pub unstarted : {A E : Type 0} → ℕ → Trace A E → Trace A E
unstarted zero t = ended_by t.0 (Refused NoMemory)
unstarted (suc n) t = behind t.0 (unstarted n t)

-- the start after one of the failures was refused; each of them, up to it, passed the test
abbrev pub IsUnstartedWhen : {A E : Type 0} → (ℕ → E → Bool) → ℕ → Trace A E → Trace A E → Type 0
IsUnstartedWhen test times whole t =
    (n : ℕ) × (n < times) × ((i : ℕ) → i ≤ n → has_failed (test (times - i)) whole.1 ≡ true) × (t ≡ unstarted n whole)

-- one of the starts after a failure was refused
abbrev pub IsUnstarted : {A E : Type 0} → (E → Bool) → ℕ → Trace A E → Trace A E → Type 0
IsUnstarted test times whole t = (n : ℕ) × (n < times) × (has_failed test whole.1 ≡ true) × (t ≡ unstarted n whole)

-- Where the source can give one whole trace alone, all that is given begins that trace retried, or a start was refused.
abbrev pub RetriesExactly : {A E : Type 0} → (E → Bool) → ℕ → Traces A E → Traces A E → Type 0
RetriesExactly {A} {E} test times source made =
    (whole : Trace A E) → Fixes whole source → (t : Trace A E) → made t → (t ⊑ retried test times whole) ⊎ IsUnstarted test times whole t

abbrev pub RetriesExactlyWhen : {A E : Type 0} → (ℕ → E → Bool) → ℕ → Traces A E → Traces A E → Type 0
RetriesExactlyWhen {A} {E} test times source made =
    (whole : Trace A E) → Fixes whole source → (t : Trace A E) → made t → (t ⊑ retried_when test times whole) ⊎ IsUnstartedWhen test times whole t

-- whether another run follows this end of one, where so many may
abbrev pub is_retried : {E : Type 0} → (ℕ → E → Bool) → ℕ → Cause E → Bool
is_retried test n Finished = false
is_retried test n (Failed e) = if n == 0 then false else test n e
is_retried test n Cancelled = false
is_retried test n (Refused r) = false

-- what a run gives that is to be started, which may be refused unless starts says otherwise
abbrev pub OrUnstarted : {A E : Type 0} → Bool → Traces A E → Traces A E
OrUnstarted true gives t = gives t
OrUnstarted false gives t = OrRefused gives t

-- a run failed, and the next one gave the rest
pub record Retries {A E : Type 0} (test : E → Bool) (standing next : Traces A E) (t : Trace A E) : Type 0 where
  pub values : List A
  pub fault : E
  pub rest : Trace A E
  pub failed : standing (ended_by values (Failed fault))
  pub passes : test fault ≡ true
  pub came : next rest
  pub is : t ≡ behind values rest

-- what may come, where standing says what the run that stands may give, again what a further one may, and so many may follow
abbrev pub MayRetry : {A E : Type 0} → (ℕ → E → Bool) → Bool → Traces A E → ℕ → Traces A E → Traces A E
MayRetry test starts again zero standing t = standing t
MayRetry test starts again (suc n) standing t =
    (standing t × (has_failed (test (suc n)) t.1 ≡ false)) ⊎ Retries (test (suc n)) standing (OrUnstarted starts (MayRetry test starts again n again)) t

-- the polls of the run that stands, and for each that may follow its polls and the one that starts it
abbrev pub retried_polls : ℕ → Count → Count → Count
retried_polls left again standing = count_add standing (count_map (λ n. left * (n + 1)) again)
