-- What joins the log of a subscription, and what leaves it.
use Rattle.std.proofs.Common.{◌≡◌, ◌+◌, ℕ, zero, suc, Some, List, [], ◌∷◌, ◌++◌, slice_get, refl, sym, ap, ◌∙◌, subst, append_assoc, append-nil}
use Rattle.round_lock.specs.Locking.{Locking}
use Rattle.flow_terms.specs.Lists.{IsPrefix}
use Rattle.value_flows.specs.declared.round.Round.{Round}
use Rattle.value_flows.specs.declared.round.Round.TheVariants as round
use Rattle.value_flows.specs.declared.ring.Ring.{Ring}
use Rattle.value_flows.specs.Accepted.{accepted_by, accepted_in}
use Rattle.value_flows.specs.Does.{moved}
use Rattle.value_flows.specs.Calls.{accepted, after_call}
use Rattle.value_flows.specs.Receiving.{AfterNone, FindsNone, FoundNoneOn, Gives, LeavesIt, Tells, all_by, not_once, once_more}
use Rattle.state_callers.specs.Logs.{AreClones, IsLogOf, given_by}

given_more : (calls : List Round) (r : Round) → all_by given_by (calls ++ r ∷ []) ≡ all_by given_by calls ++ given_by r
given_more [] r = append-nil (given_by r)
given_more (s ∷ calls) r = ap (λ (l : List ℕ). given_by s ++ l) (given_more calls r) ∙ sym (append_assoc (given_by s) (all_by given_by calls) (given_by r))

given_stays : (calls : List Round) (r : Round) → given_by r ≡ [] → all_by given_by (calls ++ r ∷ []) ≡ all_by given_by calls
given_stays calls r none = given_more calls r ∙ ap (λ (l : List ℕ). all_by given_by calls ++ l) none ∙ append-nil (all_by given_by calls)

module _ {T : Type 0} where
  accepted_on : (calls later : List (ℕ × Round × Ring T)) → accepted_in (calls ++ later) ≡ accepted_in calls ++ accepted_in later
  accepted_on [] later = refl
  accepted_on (t ∷ calls) later = ap (λ (l : List T). accepted_by t.1 t.2 ++ l) (accepted_on calls later) ∙ sym (append_assoc (accepted_by t.1 t.2) (accepted_in calls) (accepted_in later))

  got_on : (values later : List T) (number : ℕ) (value : T) → slice_get values number ≡ Some value → slice_get (values ++ later) number ≡ Some value
  got_on [] later number value got = absurd (cc)
  got_on (x ∷ values) later zero value got = got
  got_on (x ∷ values) later (suc number) value got = got_on values later number value got

module _ {T : Type 0} (is_clone : T → T → Type 0) where
  -- more values were accepted
  clones_on : (values later : List T) (numbers : List ℕ) (log : List T) → AreClones is_clone values numbers log → AreClones is_clone (values ++ later) numbers log
  clones_on values later [] [] are = tt
  clones_on values later [] (entry ∷ log) are = absurd are
  clones_on values later (number ∷ numbers) [] are = absurd are
  clones_on values later (number ∷ numbers) (entry ∷ log) are = ((are.0.0, got_on values later number are.0.0 are.0.1, are.0.2), clones_on values later numbers log are.1)

  -- one more was given
  clones_push : (values : List T) (numbers : List ℕ) (log : List T) (number : ℕ) (value entry : T) → slice_get values number ≡ Some value → is_clone value entry → AreClones is_clone values numbers log → AreClones is_clone values (numbers ++ number ∷ []) (log ++ entry ∷ [])
  clones_push values [] [] number value entry got clone are = ((value, got, clone), tt)
  clones_push values [] (e ∷ log) number value entry got clone are = absurd are
  clones_push values (n ∷ numbers) [] number value entry got clone are = absurd are
  clones_push values (n ∷ numbers) (e ∷ log) number value entry got clone are = (are.0, clones_push values numbers log number value entry got clone are.1)

  -- what the flow accepted meanwhile changes nothing in the log
  seen_on : (owner : Locking (Ring T) Round) (calls : List (ℕ × Round × Ring T)) (log : List T) → IsPrefix owner.log.seen calls → IsLogOf is_clone owner log → AreClones is_clone (accepted_in calls) (all_by given_by owner.log.own) log
  seen_on owner calls log begins is =
      subst (λ (l : List T). AreClones is_clone l (all_by given_by owner.log.own) log) (sym (ap accepted_in begins.1 ∙ accepted_on owner.log.seen begins.0))
      (clones_on (accepted owner) (accepted_in begins.0) (all_by given_by owner.log.own) log is)

  -- nor does a call that gave nothing
  stays : (before after : Locking (Ring T) Round) (calls : List (ℕ × Round × Ring T)) (r : Round) (left : Ring T) (log : List T) → given_by r ≡ [] → IsPrefix before.log.seen calls → after ≡ after_call calls r left before → accepted after ≡ accepted_in calls
      → IsLogOf is_clone before log → IsLogOf is_clone after log
  stays before after calls r left log none begins only same is =
      subst (λ (l : List T). AreClones is_clone l (all_by given_by after.log.own) log) (sym same)
      (subst (λ (l : List ℕ). AreClones is_clone (accepted_in calls) l log) (sym (ap (λ (o : Locking (Ring T) Round). all_by given_by o.log.own) only ∙ given_stays before.log.own r none)) (seen_on before calls log begins is))

  found_none : (before after : Locking (Ring T) Round) (log : List T) → FindsNone before after → IsLogOf is_clone before log → IsLogOf is_clone after log
  found_none before after log found is = stays before after found.calls round.Look found.ring log refl found.finds.seen found.only found.same is

  none_on : (before after : Locking (Ring T) Round) (log : List T) → FoundNoneOn before after → IsLogOf is_clone before log → IsLogOf is_clone after log
  none_on before after log (not_once x) is = is
  none_on before after log (once_more x m y more last) is = found_none m after log last (none_on before m log more is)

  pub at_end : (before after : Locking (Ring T) Round) (log : List T) → AfterNone FindsNone before after → IsLogOf is_clone before log → IsLogOf is_clone after log
  at_end before after log came is = found_none came.0 after log came.2 (none_on before came.0 log came.1 is)

  pub missed : (before after : Locking (Ring T) Round) (count : ℕ) (log : List T) → AfterNone (λ m w. Tells m count w) before after → IsLogOf is_clone before log → IsLogOf is_clone after log
  missed before after count log came is =
      let tells = came.2 in
      stays came.0 after tells.calls (round.Miss tells.place tells.from count) (moved tells.place (Some (tells.from + count)) tells.ring) log refl tells.finds.seen tells.only tells.same (none_on before came.0 log came.1 is)

  pub left_it : (fails : T → Type 0) (before after : Locking (Ring T) Round) (log : List T) → AfterNone (λ m w. (value : T) × LeavesIt m value w × fails value) before after → IsLogOf is_clone before log → IsLogOf is_clone after log
  left_it fails before after log came is =
      let leaves = came.2.1 in
      stays came.0 after leaves.calls round.Look leaves.ring log refl leaves.finds.seen leaves.only leaves.same (none_on before came.0 log came.1 is)

  -- a clone of the value that was given joins the log
  pub given : (before after : Locking (Ring T) Round) (entry : T) (log : List T) → AfterNone (λ m w. (value : T) × Gives m value w × is_clone value entry) before after → IsLogOf is_clone before log → IsLogOf is_clone after (log ++ entry ∷ [])
  given before after entry log came is =
      let at = came.0 in
      let gives = came.2.1 in
      let own = ap (λ (o : Locking (Ring T) Round). all_by given_by o.log.own) gives.only ∙ given_more at.log.own (round.Give gives.place gives.number) in
      subst (λ (l : List T). AreClones is_clone l (all_by given_by after.log.own) (log ++ entry ∷ [])) (sym gives.same)
      (subst (λ (l : List ℕ). AreClones is_clone (accepted_in gives.calls) l (log ++ entry ∷ [])) (sym own)
      (clones_push (accepted_in gives.calls) (all_by given_by at.log.own) log gives.number came.2.0 entry gives.value_is came.2.2
      (seen_on at gives.calls log gives.finds.seen (none_on before at log came.1 is))))
