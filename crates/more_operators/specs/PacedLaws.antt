-- Laws of values that are held until they are due.
use Rattle.std.specs.Prelude.{◌≡◌, ℕ, Bool, IsTrue, List, [], ◌∷◌, ◌++◌, Option, Some, None, refl}
use Rattle.std.proofs.Common.{ap, sym, ◌∙◌, subst, inl, inr, append_assoc}
use Rattle.futures.specs.declared.task.Poll.{Poll}
use Rattle.futures.specs.declared.task.Poll.TheVariants.{Ready, Pending}
use Rattle.cold_flow.specs.declared.cause.Cause.{Cause}
use Rattle.cold_flow.specs.declared.event.Event.{Event}
use Rattle.cold_flow.specs.declared.event.Event.TheVariants.{Value, End}
use Rattle.cold_flow.specs.Trace.{Trace, ◌⊑◌, so_far, ended_by, led_by}
use Rattle.cold_flow.specs.Poll.{Traces, Narrows, IsReady, Fixes, Unless, end_of}
use Rattle.cold_flow.specs.Laws.{ended-begins}
use Rattle.more_operators.specs.declared.operators.paced.Timestamped.{Timestamped}
use Rattle.more_operators.specs.Paced.{held_at, due_at, last_event, Answers, Paces, step, given_at, paced}

module _ {A E : Type 0} where
  -- what begins a trace that a value leads is led by it
  led-first : (v x : A) (xs : List A) (end : Option (Cause E)) (t : Trace A E) → led_by v t ⊑ (x ∷ xs, end) → v ≡ x
  led-first v x xs end t (inl e) = let values : v ∷ t.0 ≡ x ∷ xs = ap (λ (s : Trace A E). s.0) e in cc
  led-first v x xs end t (inr h) = let values : v ∷ (t.0 ++ h.1.0) ≡ x ∷ xs = h.1.1 in cc

  led-rest : (v x : A) (xs : List A) (end : Option (Cause E)) (t : Trace A E) → led_by v t ⊑ (x ∷ xs, end) → t ⊑ (xs, end)
  led-rest v x xs end t (inl e) =
      let values : v ∷ t.0 ≡ x ∷ xs = ap (λ (s : Trace A E). s.0) e in
      let same : t.0 ≡ xs = cc in
      let ends : t.1 ≡ end = ap (λ (s : Trace A E). s.1) e in
      inl (ap (λ (l : List A). (l, t.1)) same ∙ ap (λ (o : Option (Cause E)). (xs, o)) ends)
  led-rest v x xs end t (inr h) =
      let values : v ∷ (t.0 ++ h.1.0) ≡ x ∷ xs = h.1.1 in
      let same : t.0 ++ h.1.0 ≡ xs = cc in
      inr (h.0, (h.1.0, same))

  led-nothing : (v : A) (end : Option (Cause E)) (t : Trace A E) → led_by v t ⊑ ([], end) → ⊥
  led-nothing v end t (inl e) = let values : v ∷ t.0 ≡ [] = ap (λ (s : Trace A E). s.0) e in cc
  led-nothing v end t (inr h) = let values : v ∷ (t.0 ++ h.1.0) ≡ [] = h.1.1 in cc

  -- what a run may give that has not ended
  pub fixed-fresh : (ended : Option (Cause E)) (may : Traces A E) (whole : Trace A E) → ended ≡ None → Fixes whole may
      → Fixes whole (Unless ended may)
  fixed-fresh ended may whole fresh fixed t h = fixed t (subst (λ (o : Option (Cause E)). Unless o may t) fresh h)

-- what one poll answers, what is held then, and that the source may give what is left, and still never answers pending
abbrev pub Exactly : {A E : Type 0} → Poll (Event A E) × Option (Timestamped A) × Trace A E → Poll (Event A E) → Option (Timestamped A)
    → Option (Cause E) → Traces A E → Bool → Type 0
Exactly s result kept ended may prompt =
    (result ≡ s.0) × (kept ≡ s.1) × Fixes s.2 (Unless ended may) × IsTrue prompt

module _ {A E : Type 0} (gives_last : Bool) (now : ℕ) (held kept : Option (Timestamped A)) (result : Poll (Event A E)) where
  -- an end, which is that of the whole trace
  end-exactly : (k : Cause E) (t : Trace A E) (may : Traces A E) (prompt : Bool) → ended_by [] k ⊑ t → IsTrue prompt
      → result ≡ Ready (last_event gives_last held k) → kept ≡ None → Exactly (step gives_last now None held t) result kept (Some k) may prompt
  end-exactly k t may prompt whole on answers keeps =
      subst (λ (u : Trace A E). Exactly (step gives_last now None held u) result kept (Some k) may prompt) (ended-begins [] k t whole)
      (answers, keeps, λ u h. h, on)

  -- an answer of the source
  answers-exactly : (old new : Traces A E) (ended : Option (Cause E)) (prompt : Bool) (t : Trace A E) (answer : Poll (Event A E))
      → new (so_far []) → Fixes t old → Narrows old answer new → ended ≡ end_of answer → IsReady answer → IsTrue prompt
      → Answers gives_last now held answer result kept → Exactly (step gives_last now None held t) result kept ended new prompt
  answers-exactly old new ended prompt t Pending begun fixed narrows is ready on h = absurd ready
  answers-exactly old new ended prompt ([], end) (Ready (Value v)) begun fixed narrows is ready on h =
      absurd (led-nothing v end (so_far []) (fixed (led_by v (so_far [])) (narrows (so_far []) begun)))
  answers-exactly old new ended prompt (x ∷ xs, end) (Ready (Value v)) begun fixed narrows is ready on h =
      let same : v ≡ x = led-first v x xs end (so_far []) (fixed (led_by v (so_far [])) (narrows (so_far []) begun)) in (
        h.0,
        h.1 ∙ ap (λ (y : A). Some (held_at y now)) same,
        rw is (λ t g. led-rest v x xs end t (fixed (led_by v t) (narrows t g))),
        on,
      )
  answers-exactly old new ended prompt t (Ready (End k)) begun fixed narrows is ready on h =
      rw is (end-exactly k t new prompt (fixed (ended_by [] k) narrows) on h.0 h.1)

module _ {A E S : Type 0} (may : S → Traces A E) (ended : S → Option (Cause E)) (prompt : S → Bool)
    (polled : S → Poll (Event A E) → S → Type 0) (begins : (s : S) → may s (so_far [])) (old new : S) (gives_last : Bool) where
  -- one poll
  polls-exactly : (now : ℕ) (due : Option A) (over : Option (Cause E)) (held kept : Option (Timestamped A)) (t : Trace A E)
      (result : Poll (Event A E)) → over ≡ ended old → Fixes t (Unless over (may old)) → IsTrue (prompt old)
      → Paces may ended prompt polled gives_last now due over held old result kept new
      → Exactly (step gives_last now due held t) result kept (ended new) (may new) (prompt new)
  polls-exactly now (Some x) over held kept t result is fixed on h =
      (h.0, h.1, rw (h.2, ← is) fixed, rw h.2 on)
  polls-exactly now None (Some k) held kept t result is fixed on h =
      rw (h.2, ← is) (end-exactly gives_last now held kept result k t (may old) (prompt old) (fixed (ended_by [] k) (inl refl)) on h.0 h.1)
  polls-exactly now None None held kept t result is fixed on h =
      let ready = h.1.at_once on in
      answers-exactly gives_last now held kept result (may old) (may new) (ended new) (prompt new) t h.0 (begins new) fixed h.1.narrows h.1.ends
      ready.0 ready.1 h.2

-- what is given with a poll that gave something, and with one that gave nothing
module _ {A E : Type 0} (items more : List (ℕ × Event A E)) (now : ℕ) where
  pub gives_one : (event : Event A E) (result : Poll (Event A E)) → result ≡ Ready event → more ≡ items ++ (now, event) ∷ []
      → (rest : List (ℕ × Event A E)) → items ++ given_at now result rest ≡ more ++ rest
  gives_one event result is added rest = rw (is, added) (sym (append_assoc items ((now, event) ∷ []) rest))

  pub gives_none : (result : Poll (Event A E)) → result ≡ Pending → more ≡ items
      → (rest : List (ℕ × Event A E)) → items ++ given_at now result rest ≡ more ++ rest
  gives_none result is same rest = rw (is, same) refl

-- a list of what is given that stands so far as items, and goes on with what is given of some trace at the moments that are left
abbrev pub Left : {A E : Type 0} → Traces A E → Option (Cause E) → Bool → (ℕ → ℕ → Bool) → Bool → Option (Timestamped A) → List ℕ → List (ℕ × Event A E)
    → List (ℕ × Event A E) → Type 0
Left {A} {E} may ended prompt is_due gives_last held moments items list =
    (rest : Trace A E) × Fixes rest (Unless ended may) × IsTrue prompt × (list ≡ items ++ paced is_due gives_last held rest moments)

module _ {A E S : Type 0} (may : S → Traces A E) (ended : S → Option (Cause E)) (prompt : S → Bool)
    (polled : S → Poll (Event A E) → S → Type 0) (begins : (s : S) → may s (so_far [])) (old new : S) (is_due : ℕ → ℕ → Bool) (gives_last : Bool) (now : ℕ)
    (held kept : Option (Timestamped A)) (result : Poll (Event A E))
    (polls : Paces may ended prompt polled gives_last now (due_at is_due now held) (ended old) held old result kept new) where
  pub left_after : (moments : List ℕ) (items more list : List (ℕ × Event A E))
      → ((rest : List (ℕ × Event A E)) → items ++ given_at now result rest ≡ more ++ rest)
      → Left (may old) (ended old) (prompt old) is_due gives_last held (now ∷ moments) items list
      → Left (may new) (ended new) (prompt new) is_due gives_last kept moments more list
  left_after moments items more list e h =
      let s = step gives_last now (due_at is_due now held) held h.0 in
      let p = polls-exactly may ended prompt polled begins old new gives_last now (due_at is_due now held) (ended old) held kept h.0 result refl
      h.1 h.2 polls in (
        s.2,
        p.2,
        p.3,
        h.3 ∙ ap (λ (r : Poll (Event A E)). items ++ given_at now r (paced is_due gives_last s.1 s.2 moments)) (sym p.0)
            ∙ ap (λ (c : Option (Timestamped A)). items ++ given_at now result (paced is_due gives_last c s.2 moments)) (sym p.1)
            ∙ e (paced is_due gives_last kept s.2 moments),
      )
