-- The replay cache has the latest values that were accepted since it was last reset.
use Rattle.std.proofs.Common.{◌≡◌, ℕ, ◌+◌, ◌-◌, ◌≤◌, false, List, [], ◌∷◌, length, drop, refl, sym, ap, ◌∙◌, subst, arith, length-append, length-drop}
use Rattle.std.proofs.Math.ListN.{length-map}
use Rattle.std.specs.List.{list_any}
use Rattle.shared_core.specs.Flow.{Parameters, State, empty, values, cache, cache_start}
use Rattle.shared_core.specs.Calls.{Call, resetting, reset, to_reset, after}
use Rattle.shared_core.specs.Shown.{seen_of}
use Rattle.shared_core.specs.Headline.{execution_of, Moment, until, accepted, latest, is_reset, CachesTheLatest, OfEveryExecution}
use Rattle.shared_core.proofs.Emissions.{accepted_is}
use Rattle.shared_core.proofs.Moments.{until_is, ends_as}
use Rattle.shared_core.proofs.Receiving.{drop-drop}
use Rattle.shared_core.proofs.Sequence.{fixed_parameters}
use Rattle.shared_core.proofs.Walks.{OverQuiet, after_calm, after_over}

module _ {T : Type 0} where
  -- from M to N nothing was reset, and no acceptance was taken back
  record ResetAsBefore (M N : State T) : Type 0 where
    same : N.parameters ≡ M.parameters
    more : length M.accepted ≤ length N.accepted
    reset : N.reset_at ≡ M.reset_at

  reset_then : {M N K : State T} → ResetAsBefore M N → ResetAsBefore N K → ResetAsBefore M K
  reset_then {M = M} {N = N} {K = K} first second = record {
    same = second.same ∙ first.same;
    more = omega (arith, first.more, second.more);
    reset = second.reset ∙ first.reset;
  }

  as_before : OverQuiet ResetAsBefore
  as_before = record {
    same = λ M. record { same = refl; more = omega arith; reset = refl };
    then = λ first second. reset_then first second;
    accepts = λ emitter v M _. record { same = refl; more = omega (arith, length-append M.accepted ((emitter, v) ∷ [])); reset = refl };
    pushes = λ emitter v M _. record { same = refl; more = omega (arith, length-append M.accepted ((emitter, v) ∷ [])); reset = refl };
    opens = λ prelude M. record { same = refl; more = omega arith; reset = refl };
    closes = λ k M. record { same = refl; more = omega arith; reset = refl };
    tickets = λ M tickets. record { same = refl; more = omega arith; reset = refl };
  }

  -- calls none of which resets, on a state that was reset last of all
  caches_since : (calls : List (Call T)) (M : State T) → list_any is_reset calls ≡ false → M.reset_at ≡ length M.accepted
      → let N = after calls M in cache N ≡ latest M.parameters.replay (drop (length M.accepted) (values N.accepted))
  caches_since calls M calm now =
      let N = after calls M in
      let all = values N.accepted in
      let on = after_calm as_before (λ k M. record { same = refl; more = omega arith; reset = refl })
      (λ k M. record { same = refl; more = omega arith; reset = refl }) calls calm M in
      let since : length (drop (length M.accepted) all) ≡ length N.accepted - length M.accepted =
      length-drop (length M.accepted) all ∙ ap (λ m. m - length M.accepted) (length-map N.accepted (λ (e : ℕ × T). e.1)) in
      let replay : N.parameters.replay ≡ M.parameters.replay = ap (λ q. q.replay) on.same in
      let same : cache_start N ≡ length M.accepted + (length (drop (length M.accepted) all) - M.parameters.replay) =
      omega (arith, since, replay, now, on.reset, on.more) in
      ap (λ n. drop n all) same ∙ sym (drop-drop (length M.accepted) (length (drop (length M.accepted) all) - M.parameters.replay) all)

module _ {T : Type 0} (p : Parameters) (calls : List (Call T)) where
  abbrev N : State T
  N = after calls (empty p)

  never : list_any is_reset calls ≡ false → cache N ≡ latest p.replay (values N.accepted)
  never calm = caches_since calls (empty p) calm refl

  since : (moment : Moment (execution_of p calls) resetting to_reset) → list_any is_reset moment.later ≡ false
      → cache N ≡ latest (after moment.before (empty {T = T} p)).parameters.replay (drop (length (after moment.before (empty {T = T} p)).accepted) (values N.accepted))
  since moment calm =
      let M = after moment.before (empty {T = T} p) in
      let is : N ≡ after moment.later (reset M) = ends_as p calls moment in
      subst (λ (K : State T). cache K ≡ latest M.parameters.replay (drop (length M.accepted) (values K.accepted))) (sym is) (caches_since moment.later (reset M) calm refl)

pub caches_the_latest : (T : Type 0) → OfEveryExecution T CachesTheLatest
unfolding seen_of
caches_the_latest T p calls =
    let N = after calls (empty {T = T} p) in
    let all = accepted_is p calls in
    let same : N.parameters ≡ p = after_over fixed_parameters calls (empty p) in
    let replay = N.parameters.replay in
    record {
      never_reset = λ calm.
          never p calls calm ∙ ap (λ (q : Parameters). latest q.replay (values N.accepted)) (sym same) ∙ ap (λ xs. latest replay (values xs)) (sym all);
      since_last_reset = λ moment calm.
          let M = after moment.before (empty {T = T} p) in
          let before : accepted (until moment) ≡ M.accepted = ap accepted (until_is p calls moment) ∙ accepted_is p moment.before in
          since p calls moment calm
          ∙ ap (λ (q : Parameters). latest q.replay (drop (length M.accepted) (values N.accepted))) (after_over fixed_parameters moment.before (empty p) ∙ sym same)
          ∙ ap (λ xs. latest replay (drop (length xs) (values N.accepted))) (sym before)
          ∙ ap (λ xs. latest replay (drop (length (accepted (until moment))) (values xs))) (sym all);
    }
