-- What is taken of an upstream by a part of a poll, and so by the poll.
use Rattle.std.proofs.Common.{◌≡◌, ◌⊎◌, ⊎_elim, inl, inr, refl, sym, subst, ◌∙◌, List, [], ◌∷◌, ◌++◌}
use Rattle.cold_flow.specs.declared.cause.Cause.{Cause}
use Rattle.cold_flow.specs.declared.cause.Cause.TheVariants.{Finished, Failed, Cancelled, Refused}
use Rattle.cold_flow.specs.Trace.{Trace, ended_by}
use Rattle.cold_flow.specs.Poll.{Traces, Within}
use Rattle.flow_terms.specs.declared.refusal.Refusal.{Refusal}
use Rattle.std.specs.Prelude.{Option}
use Rattle.sharing_upstream.specs.declared.upstream.Course.{Course}
use Rattle.sharing_upstream.specs.declared.upstream.Course.TheVariants.{Idle, Running, Broken}
use Rattle.sharing_upstream.specs.Courses.{GoesOn, Ends, GaveAll, IsNew, after_end, stopped}
use Rattle.flow_sharing.specs.Taken.{RunGave, Took}

pub no_more : {T : Type 0} (values : List T) (x : T) (P : Type 0) → values ++ x ∷ [] ≡ [] → P
no_more [] x P is = let no = is in cc
no_more (y ∷ values) x P is = let no = is in cc

module _ {T E U : Type 0} (may : U → Traces T E) where
  -- these values were taken of the run that was going, or none was and the upstream is as it was
  abbrev pub TookOn : Course U E → List T → Course U E → Type 0
  TookOn from taken to = ((run : U) × (from ≡ Running run) × RunGave may run taken to) ⊎ ((taken ≡ []) × (to ≡ from))

  gave_none : (run : U) → RunGave may run [] (Running run)
  gave_none run = λ t h. let P : Trace T E → Type 0 = may run in subst P (sym h.is) h.came

  ended_so : (run : U) (values : List T) (cause : Cause E) → may run (ended_by values cause) → RunGave may run values (after_end cause)
  ended_so run values Finished h = (Finished, h)
  ended_so run values (Failed fault) h = inl h
  ended_so run values Cancelled h = (Cancelled, h)
  ended_so run values (Refused refusal) h = inl h

  pub took_on : (ended : U → Option (Cause E)) (from : Course U E) (values : List T) (to : Course U E) → GoesOn may ended from values to → TookOn from values to
  took_on ended Idle values to goes = inr goes
  took_on ended (Broken cause) values to goes = inr goes
  took_on ended (Running run) values to goes = inl (run, refl, subst (λ (c : Course U E). RunGave may run values c) (sym goes.1) goes.2)

  pub took_last : (ended : U → Option (Cause E)) (from : Course U E) (values : List T) (to : Course U E) → Ends may ended from values to → TookOn from values to
  took_last ended Idle values to ends = inr ends
  took_last ended (Broken cause) values to ends = inr ends
  took_last ended (Running run) values to ends =
      inl (run, refl, subst (λ (c : Course U E). RunGave may run values c) (sym ends.2) (ended_so run values ends.0 ends.1))

  pub took_refused : (ended : U → Option (Cause E)) (from : Course U E) (values : List T) (last : T) (refusal : Refusal) (to : Course U E)
      → GaveAll may ended from (values ++ last ∷ []) → to ≡ Broken (Refused refusal) → TookOn from (values ++ last ∷ []) to
  took_refused ended Idle values last refusal to gave broken = no_more values last _ gave
  took_refused ended (Broken cause) values last refusal to gave broken = no_more values last _ gave
  took_refused ended (Running run) values last refusal to gave broken =
      inl (run, refl, subst (λ (c : Course U E). RunGave may run (values ++ last ∷ []) c) (sym broken) (inr gave))

  -- where nothing was commanded
  pub took_same : (new_run : Traces T E) (from : Course U E) (taken : List T) (to : Course U E) → TookOn from taken to → Took may new_run from taken to
  took_same new_run from taken to took = ⊎_elim (λ r. Took.of_the_run r.0 r.1 r.2) (λ n. Took.nothing n.0 n.1) took

  -- where a start was
  pub took_new : (ended : U → Option (Cause E)) (new_run : Traces T E) (from between : Course U E) (taken : List T) (to : Course U E)
      → IsNew may ended new_run between → TookOn between taken to → Took may new_run from taken to
  took_new ended new_run from Idle taken to new took = absurd new
  took_new ended new_run from (Broken cause) taken to new took = absurd new
  took_new ended new_run from (Running run) taken to new took = ⊎_elim
      (λ r. let same : run ≡ r.0 = cc (r.1) in Took.of_a_new_run r.0 (subst (λ (u : U). Within new_run (may u)) same new.0) r.2)
      (λ n. Took.of_a_new_run run new.0 (subst (λ (values : List T). RunGave may run values to) (sym n.0)
      (subst (λ (c : Course U E). RunGave may run [] c) (sym n.1) (gave_none run))))
      took

  -- where a stop was
  not_running : (from : Course U E) (run : U) (P : Type 0) → stopped from ≡ Running run → P
  not_running Idle run P is = let no = is in cc
  not_running (Broken cause) run P is = let no = is in cc
  not_running (Running was) run P is = let no = is in cc

  pub took_none : (from between : Course U E) (taken : List T) (to : Course U E) → between ≡ stopped from → TookOn between taken to
      → (taken ≡ []) × (to ≡ stopped from)
  took_none from between taken to is took = ⊎_elim (λ r. not_running from r.0 _ (sym is ∙ r.1)) (λ n. (n.0, n.1 ∙ is)) took
