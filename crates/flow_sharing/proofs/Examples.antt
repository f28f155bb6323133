-- What the first clause of a poll excludes: of an upstream that gives x and then ends, x isn't emitted twice, and isn't taken and left out.
use Rattle.std.proofs.Common.{◌≡◌, ⊎_elim, inl, inr, refl, sym, ap, subst, ◌∙◌, ℕ, ◌+◌, List, [], ◌∷◌, ◌++◌, map, length, Option, Some, arith, length-append}
use Rattle.std.proofs.lemmas.List.{append-nil, length-map}
use Rattle.cold_flow.specs.declared.cause.Cause.TheVariants.{Finished}
use Rattle.cold_flow.specs.Trace.{Trace, so_far, ended_by}
use Rattle.cold_flow.specs.Poll.{Traces, Beginnings}
use Rattle.shared_flow.specs.Emitted.{Outcome, Emissions}
use Rattle.sharing_upstream.specs.declared.upstream.Course.TheVariants.{Running}
use Rattle.flow_sharing.specs.Taken.{RunGave, Took}
use Rattle.flow_sharing.specs.Shared.{Emits, words_of}

module _ {T E : Type 0} where
  -- a run is the list of what it has still to give
  abbrev gives : List T → Traces T E
  gives left = Beginnings (ended_by left Finished)

  -- no new run is started
  abbrev no_start : Traces T E
  no_start t = ⊥

  whole_x : (taken : List T) (x : T) → (taken ++ [], Some Finished) ≡ ended_by {E = E} (x ∷ []) Finished → taken ≡ x ∷ []
  whole_x taken x is = sym (append-nil taken) ∙ ap (λ (t : Trace T E). t.0) is

  -- the run gave x alone
  gave_x : (x : T) (taken : List T) → RunGave gives (x ∷ []) taken (Running []) → taken ≡ x ∷ []
  gave_x x taken gave = ⊎_elim
      (λ whole. whole_x taken x whole)
      (λ part. let no = part.0 in cc)
      (gave (taken ++ [], Some Finished) (record { given = ([], Some Finished); came = inl refl; is = refl }))

  took_x : (x : T) (taken : List T) → Took gives no_start (Running (x ∷ [])) taken (Running []) → taken ≡ x ∷ []
  took_x x taken (Took.of_the_run run is gave) = let same : run ≡ x ∷ [] = cc is in gave_x x taken (subst (λ r. RunGave gives r taken (Running [])) same gave)
  took_x x taken (Took.of_a_new_run run within gave) = absurd (within (so_far []) (inr (refl, (run, refl))))
  took_x x taken (Took.nothing none is) = let no = is in cc
  took_x x taken (Took.was_stopped none is) = let no = is in cc

  -- so just one word was emitted
  one_word : (word : T → ℕ) (waited waits : Option T) (old new : Emissions) (x : T) → Emits word gives no_start (Running (x ∷ [])) waited old (Running []) waits new
      → words_of new ≡ words_of old ++ word x ∷ []
  one_word word waited waits old new x emits = emits.each_once_in_order ∙ ap (λ (l : List T). words_of old ++ map word l) (took_x x emits.taken emits.of_upstream)

  -- it isn't emitted twice
  not_twice : (word : T → ℕ) (waited waits : Option T) (old : Emissions) (x : T) (one two : Outcome)
      → Emits word gives no_start (Running (x ∷ [])) waited old (Running []) waits (old ++ (word x, one) ∷ (word x, two) ∷ []) → ⊥
  not_twice word waited waits old x one two emits =
      let is = ap length (one_word word waited waits old _ x emits) in
      let long : length (words_of (old ++ (word x, one) ∷ (word x, two) ∷ [])) ≡ length old + 2 = simp (length-map, length-append) (omega arith) in
      let short : length (words_of old ++ word x ∷ []) ≡ length old + 1 = simp (length-map, length-append) (omega arith) in
      omega arith

  -- it isn't taken and left out
  not_left_out : (word : T → ℕ) (waited waits : Option T) (old : Emissions) (x : T)
      → Emits word gives no_start (Running (x ∷ [])) waited old (Running []) waits old → ⊥
  not_left_out word waited waits old x emits =
      let is = ap length (one_word word waited waits old old x emits) in
      let short : length (words_of old ++ word x ∷ []) ≡ length old + 1 = simp (length-map, length-append) (omega arith) in
      let same : length (words_of old) ≡ length old = simp length-map (omega arith) in
      omega arith
