-- Laws of `retry`.
use Rattle.std.specs.Prelude.{◌≡◌, ◌⊎◌, ◌+◌, ◌-◌, ◌<◌, ◌≤◌, ℕ, zero, suc, Bool, true, false, IsTrue, List, [], ◌∷◌, ◌++◌, Option, Some, refl}
use Rattle.std.specs.Prelude.{cond, T, if◌then◌else◌}
use Rattle.std.specs.Iterator.{Count, IsFinite, size}
use Rattle.std.proofs.Common.{eqb, eqb-true, ap, sym, ◌∙◌, subst, inl, inr, append_assoc, arith}
use Rattle.std.proofs.lemmas.List.{append-nil}
use Rattle.cold_flow.specs.declared.cause.Cause.{Cause}
use Rattle.cold_flow.specs.declared.cause.Cause.TheVariants.{Finished, Failed, Cancelled, Refused}
use Rattle.flow_terms.specs.declared.refusal.Refusal.TheVariants.{NoMemory}
use Rattle.cold_flow.specs.Trace.{Trace, ◌⊑◌, so_far, ended_by, led_by}
use Rattle.cold_flow.specs.Poll.{Traces, Within, After, Fixes, OrRefused, IsWithinPolls}
use Rattle.cold_flow.specs.Laws.{ended-begins}
use Rattle.more_operators.specs.Retry.{behind, has_failed, retried, retried_when, unstarted, IsUnstarted, IsUnstartedWhen, is_retried, OrUnstarted, MayRetry, retried_polls}

-- ---- what a start gives

module _ {A E : Type 0} where
  start-given : (starts : Bool) (gives : Traces A E) (t : Trace A E) → gives t → OrUnstarted starts gives t
  start-given true gives t h = h
  start-given false gives t h = inl h

  start-refused : (starts : Bool) (gives : Traces A E) → (IsTrue starts → false ≡ true) → OrUnstarted starts gives (ended_by [] (Refused NoMemory))
  start-refused true gives none = absurd (let wrong = none refl in cc)
  start-refused false gives none = inr refl

  may-refuse : (starts : Bool) (gives : Traces A E) (t : Trace A E) → OrUnstarted starts gives t → OrRefused gives t
  may-refuse true gives t h = inl h
  may-refuse false gives t h = h

  none-refused : (starts : Bool) (gives : Traces A E) (t : Trace A E) → IsTrue starts → OrUnstarted starts gives t → gives t
  none-refused true gives t can h = h
  none-refused false gives t can h = absurd (cc)

-- ---- which end is followed by another run

not-zero : (n : ℕ) (b : Bool) → eqb (suc n) 0 ≡ b → b ≡ false
not-zero n false e = refl
not-zero n true e = absurd (let wrong : suc n ≡ 0 = eqb-true (suc n) 0 e in omega arith)

module _ {E : Type 0} (test : ℕ → E → Bool) where
  tested : (n : ℕ) (e : E) → is_retried test (suc n) (Failed e) ≡ test (suc n) e
  tested n e = ap (λ (b : Bool). if b then false else test (suc n) e) (not-zero n (eqb (suc n) 0) refl)

  has-not : (n : ℕ) (k : Cause E) → is_retried test (suc n) k ≡ false → has_failed (test (suc n)) (Some k) ≡ false
  has-not n Finished e = refl
  has-not n (Failed fault) e = sym (tested n fault) ∙ e
  has-not n Cancelled e = refl
  has-not n (Refused r) e = refl

  has-so : (n : ℕ) (k : Cause E) → is_retried test (suc n) k ≡ true → has_failed (test (suc n)) (Some k) ≡ true
  has-so n Finished e = absurd (cc)
  has-so n (Failed fault) e = sym (tested n fault) ∙ e
  has-so n Cancelled e = absurd (cc)
  has-so n (Refused r) e = absurd (cc)

  none-left : (k : Cause E) → is_retried test zero k ≡ true → ⊥
  none-left Finished e = cc
  none-left (Failed fault) e = cc
  none-left Cancelled e = cc
  none-left (Refused r) e = cc

-- ---- what a poll leaves

module _ {A E : Type 0} (test : ℕ → E → Bool) (starts : Bool) (again : Traces A E) where
  pub retry-begins : (n : ℕ) (standing : Traces A E) → standing (so_far []) → MayRetry test starts again n standing (so_far [])
  retry-begins zero standing h = h
  retry-begins (suc n) standing h = inl (h, refl)

  pub retry_gives : (n : ℕ) (old new : Traces A E) (x : A) → After old x new
      → After (MayRetry test starts again n old) x (MayRetry test starts again n new)
  retry_gives zero old new x came t h = came t h
  retry_gives (suc n) old new x came t (inl h) = inl (came t h.0, h.1)
  retry_gives (suc n) old new x came t (inr h) = inr (record {
    values = x ∷ h.values;
    fault = h.fault;
    rest = h.rest;
    failed = came (ended_by h.values (Failed h.fault)) h.failed;
    passes = h.passes;
    came = h.came;
    is = ap (led_by x) h.is;
  })

  pub retry_waits : (n : ℕ) (old new : Traces A E) → Within old new
      → Within (MayRetry test starts again n old) (MayRetry test starts again n new)
  retry_waits zero old new within t h = within t h
  retry_waits (suc n) old new within t (inl h) = inl (within t h.0, h.1)
  retry_waits (suc n) old new within t (inr h) = inr (record {
    values = h.values;
    fault = h.fault;
    rest = h.rest;
    failed = within (ended_by h.values (Failed h.fault)) h.failed;
    passes = h.passes;
    came = h.came;
    is = h.is;
  })

  -- an end after which no run follows
  pub retry_ends : (n : ℕ) (standing : Traces A E) (k : Cause E) → is_retried test n k ≡ false → standing (ended_by [] k)
      → MayRetry test starts again n standing (ended_by [] k)
  retry_ends zero standing k other h = h
  retry_ends (suc n) standing k other h = inl (h, has-not test n k other)

  -- a run that stood has failed, and t came of the next one
  follows : (n : ℕ) (standing : Traces A E) (k : Cause E) (t : Trace A E) → has_failed (test (suc n)) (Some k) ≡ true → standing (ended_by [] k)
      → OrUnstarted starts (MayRetry test starts again n again) t → MayRetry test starts again (suc n) standing t
  follows n standing Finished t fails failed came = absurd (cc)
  follows n standing (Failed e) t fails failed came =
      inr (record { values = []; fault = e; rest = t; failed = failed; passes = fails; came = came; is = refl })
  follows n standing Cancelled t fails failed came = absurd (cc)
  follows n standing (Refused r) t fails failed came = absurd (cc)

  -- the run that stood has failed, and another stands
  pub retry_restarts : (n m : ℕ) (standing next : Traces A E) (k : Cause E) → is_retried test n k ≡ true → n ≡ m + 1
      → standing (ended_by [] k) → Within again next → Within (MayRetry test starts again n standing) (MayRetry test starts again m next)
  retry_restarts zero m standing next k fails one failed within t h = absurd (none-left test k fails)
  retry_restarts (suc n) m standing next k fails one failed within t h =
      let is : m ≡ n = omega arith in
      follows n standing k t (has-so test n k fails) failed (start-given starts (MayRetry test starts again n again) t
      (subst (λ (i : ℕ). MayRetry test starts again i again t) is (retry_waits m again next within t h)))

  -- it has failed, and another could not be started
  pub retry_refused : (n : ℕ) (standing : Traces A E) (k : Cause E) → is_retried test n k ≡ true → (IsTrue starts → false ≡ true)
      → standing (ended_by [] k) → MayRetry test starts again n standing (ended_by [] (Refused NoMemory))
  retry_refused zero standing k fails none failed = absurd (none-left test k fails)
  retry_refused (suc n) standing k fails none failed =
      follows n standing k (ended_by [] (Refused NoMemory)) (has-so test n k fails) failed (start-refused starts (MayRetry test starts again n again) none)

  -- a cancellation comes of a run alone
  pub retry-uncancelled : ((xs : List A) → again (ended_by xs Cancelled) → ⊥) → (n : ℕ) (standing : Traces A E)
      → ((xs : List A) → standing (ended_by xs Cancelled) → ⊥) → (xs : List A) → MayRetry test starts again n standing (ended_by xs Cancelled) → ⊥
  retry-uncancelled never zero standing none xs h = none xs h
  retry-uncancelled never (suc n) standing none xs (inl h) = none xs h.0
  retry-uncancelled never (suc n) standing none xs (inr h) =
      let by : Some Cancelled ≡ h.rest.1 = ap (λ (t : Trace A E). t.1) h.is in
      elim (may-refuse starts (MayRetry test starts again n again) h.rest h.came) [
        | inl came ↦ retry-uncancelled never n again never h.rest.0
            (subst (λ (o : Option (Cause E)). MayRetry test starts again n again (h.rest.0, o)) (sym by) came)
        | inr is ↦ absurd (let ends : Some (Refused NoMemory) ≡ Some Cancelled = sym (ap (λ (t : Trace A E). t.1) is) ∙ sym by in cc)
      ]

-- ---- what is fixed

module _ {A E : Type 0} where
  -- what stands before two traces, of which one begins the other
  pub behind-begins : (xs : List A) (t u : Trace A E) → t ⊑ u → behind xs t ⊑ behind xs u
  behind-begins xs t u (inl e) = inl (ap (behind xs) e)
  behind-begins xs t u (inr h) = inr (h.0, (h.1.0, append_assoc xs t.0 h.1.0 ∙ ap (λ (l : List A). xs ++ l) h.1.1))

module _ {A E : Type 0} (test : E → Bool) where
  -- a beginning of a trace, if it has not failed, begins that trace and what follows it
  first-begins : (b : Bool) (t whole u : Trace A E) → has_failed test whole.1 ≡ b → t ⊑ whole → has_failed test t.1 ≡ false
      → t ⊑ (if b then behind whole.0 u else whole)
  first-begins false t whole u is begins none = begins
  first-begins true t whole u is (inl e) none =
      absurd (let wrong : has_failed test whole.1 ≡ false = subst (λ (s : Trace A E). has_failed test s.1 ≡ false) e none in cc)
  first-begins true t whole u is (inr h) none =
      inr (h.0, (h.1.0 ++ u.0, sym (append_assoc t.0 h.1.0 u.0) ∙ ap (λ (l : List A). l ++ u.0) h.1.1))

  -- what followed a failure, behind it
  next-begins : (b : Bool) (values : List A) (rest whole u : Trace A E) → b ≡ true → values ≡ whole.0 → rest ⊑ u
      → behind values rest ⊑ (if b then behind whole.0 u else whole)
  next-begins b values rest whole u is same begins =
      rw is (subst (λ (xs : List A). behind values rest ⊑ behind xs u) same (behind-begins values rest u begins))

module _ {A E : Type 0} (test : ℕ → E → Bool) (whole : Trace A E) where
  -- each failure up to the first passed the test, and up to one more
  one-failed : (n : ℕ) → has_failed (test (suc n)) whole.1 ≡ true → (i : ℕ) → i ≤ 0 → has_failed (test (suc n - i)) whole.1 ≡ true
  one-failed n so i within =
      let e : suc n ≡ suc n - i = omega (arith, within) in subst (λ (m : ℕ). has_failed (test m) whole.1 ≡ true) e so

  more-failed : (n m : ℕ) → has_failed (test (suc n)) whole.1 ≡ true
      → ((i : ℕ) → i ≤ m → has_failed (test (n - i)) whole.1 ≡ true) → (i : ℕ) → i ≤ suc m → has_failed (test (suc n - i)) whole.1 ≡ true
  more-failed n m so each zero within =
      let e : suc n ≡ suc n - 0 = omega arith in subst (λ (k : ℕ). has_failed (test k) whole.1 ≡ true) e so
  more-failed n m so each (suc i) within =
      let e : n - i ≡ suc n - suc i = omega arith in
      let fewer : i ≤ m = omega (arith, within) in subst (λ (k : ℕ). has_failed (test k) whole.1 ≡ true) e (each i fewer)

  -- what a test of the fault alone says
  pub by-fault : (alone : E → Bool) (n : ℕ) (t : Trace A E)
      → (t ⊑ retried alone n whole) ⊎ IsUnstartedWhen (λ _. alone) n whole t → (t ⊑ retried alone n whole) ⊎ IsUnstarted alone n whole t
  by-fault alone n t (inl begins) = inl begins
  by-fault alone n t (inr h) = inr (h.0, h.1, h.2 0 (omega arith), h.3)

module _ {A E : Type 0} (test : ℕ → E → Bool) (starts : Bool) (again : Traces A E) (whole : Trace A E) (fixed : Fixes whole again) where
  -- the run whose failure was followed by another gave the whole trace
  failed-whole : (values : List A) (fault : E) → again (ended_by values (Failed fault)) → ended_by values (Failed fault) ≡ whole
  failed-whole values fault failed = ended-begins values (Failed fault) whole (fixed (ended_by values (Failed fault)) failed)

  failed-so : (n : ℕ) (values : List A) (fault : E) → again (ended_by values (Failed fault)) → test n fault ≡ true
      → has_failed (test n) whole.1 ≡ true
  failed-so n values fault failed passes =
      sym (ap (λ (s : Trace A E). has_failed (test n) s.1) (failed-whole values fault failed)) ∙ passes

  -- where no start can be refused, all that is given begins the trace retried
  pub retries-begin : IsTrue starts → (n : ℕ) (t : Trace A E) → MayRetry test starts again n again t → t ⊑ retried_when test n whole
  retries-begin can zero t h = fixed t h
  retries-begin can (suc n) t (inl h) =
      first-begins (test (suc n)) (has_failed (test (suc n)) whole.1) t whole (retried_when test n whole) refl (fixed t h.0) h.1
  retries-begin can (suc n) t (inr h) =
      let first : ended_by h.values (Failed h.fault) ≡ whole = failed-whole h.values h.fault h.failed in
      let so : has_failed (test (suc n)) whole.1 ≡ true = failed-so (suc n) h.values h.fault h.failed h.passes in
      let came : h.rest ⊑ retried_when test n whole =
      retries-begin can n h.rest (none-refused starts (MayRetry test starts again n again) h.rest can h.came) in
      rw h.is (next-begins (test (suc n)) (has_failed (test (suc n)) whole.1) h.values h.rest whole (retried_when test n whole) so
      (ap (λ (s : Trace A E). s.0) first) came)

  -- else it does, or one of the starts was refused
  pub retries-exactly : (n : ℕ) (t : Trace A E) → MayRetry test starts again n again t
      → (t ⊑ retried_when test n whole) ⊎ IsUnstartedWhen test n whole t
  retries-exactly zero t h = inl (fixed t h)
  retries-exactly (suc n) t (inl h) =
      inl (first-begins (test (suc n)) (has_failed (test (suc n)) whole.1) t whole (retried_when test n whole) refl (fixed t h.0) h.1)
  retries-exactly (suc n) t (inr h) =
      let first : ended_by h.values (Failed h.fault) ≡ whole = failed-whole h.values h.fault h.failed in
      let same : h.values ≡ whole.0 = ap (λ (s : Trace A E). s.0) first in
      let so : has_failed (test (suc n)) whole.1 ≡ true = failed-so (suc n) h.values h.fault h.failed h.passes in
      elim (may-refuse starts (MayRetry test starts again n again) h.rest h.came) [
        | inl came ↦ elim (retries-exactly n h.rest came) [
          | inl begins ↦ inl (rw h.is
              (next-begins (test (suc n)) (has_failed (test (suc n)) whole.1) h.values h.rest whole (retried_when test n whole) so same begins))
          | inr u ↦ inr (
            suc u.0,
            omega (arith, u.1),
            more-failed test whole n u.0 so u.2,
            h.is ∙ ap (behind h.values) u.3 ∙ ap (λ (xs : List A). behind xs (unstarted u.0 whole)) same,
          )
        ]
        | inr is ↦ inr (
          0,
          omega arith,
          one-failed test whole n so,
          h.is ∙ ap (behind h.values) is ∙ ap (λ (xs : List A). ended_by xs (Refused NoMemory)) (append-nil h.values ∙ same),
        )
      ]

-- ---- how many polls are left

both-true : (a b : Bool) → T a → T b → T (cond a b false)
both-true true b h g = g
both-true false b h g = h

both-first : (a b : Bool) → T (cond a b false) → T a
both-first true b h = tt
both-first false b h = elim h [ ]

both-second : (a b : Bool) → T (cond a b false) → T b
both-second true b h = h
both-second false b h = elim h [ ]

-- an answer of the run that stands
pub retry_approaches : (n : ℕ) (again old new : Count) → (IsFinite old → IsFinite new × (size new < size old))
    → IsFinite (retried_polls n again old)
    → IsFinite (retried_polls n again new) × (size (retried_polls n again new) < size (retried_polls n again old))
retry_approaches n again old new fewer h =
    let now = fewer (both-first old.bounded again.bounded h) in
    (both-true new.bounded again.bounded now.0 (both-second old.bounded again.bounded h), omega arith)

-- another stands
pub restart_approaches : (n m : ℕ) (again old next : Count) → n ≡ m + 1 → IsWithinPolls again next → IsFinite (retried_polls n again old)
    → IsFinite (retried_polls m again next) × (size (retried_polls m again next) < size (retried_polls n again old))
restart_approaches n m again old next one within h =
    let known : T again.bounded = both-second old.bounded again.bounded h in
    let now = within known in
    (both-true next.bounded again.bounded now.0 known, subst (λ (i : ℕ). size (retried_polls m again next) < size (retried_polls i again old)) (sym one) (omega arith))

-- the first one stands
pub start_lasts : (n : ℕ) (again run : Count) → IsWithinPolls again run → IsWithinPolls (retried_polls n again again) (retried_polls n again run)
start_lasts n again run within h =
    let known : T again.bounded = both-second again.bounded again.bounded h in
    let now = within known in (both-true run.bounded again.bounded now.0 known, omega arith)

pub retry-finite : (n : ℕ) (again standing : Count) → IsFinite again → IsFinite standing → IsFinite (retried_polls n again standing)
retry-finite n again standing h g = both-true standing.bounded again.bounded g h

-- ---- what was collected

-- a trace that has ended begins itself alone
pub retried-whole : {A E : Type 0} (test : E → Bool) (n : ℕ) (whole : Trace A E) (xs : List A) (k : Cause E)
    → (ended_by xs k ⊑ retried test n whole) ⊎ IsUnstarted test n whole (ended_by xs k)
    → (ended_by xs k ≡ retried test n whole) ⊎ IsUnstarted test n whole (ended_by xs k)
retried-whole test n whole xs k (inl begins) = inl (ended-begins xs k (retried test n whole) begins)
retried-whole test n whole xs k (inr refusal) = inr refusal
