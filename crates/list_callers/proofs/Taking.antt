-- What was offered and taken grows with the execution, call by call.
use Rattle.std.proofs.Common.{◌≡◌, ℕ, cond, ◌⊎◌, ⊎_elim, List, [], ◌∷◌, ◌++◌, Result, refl, sym, ap, ◌∙◌, subst}
use Rattle.std.proofs.lemmas.Bool.{eq-eqb}
use Rattle.std.proofs.lemmas.List.{append-nil}
use Rattle.std.proofs.lemmas.List.Elements.{filter_map-append}
use Rattle.std.specs.List.{filter_map}
use Rattle.flow_terms.specs.declared.refusal.Refusal.{Refusal}
use Rattle.flow_terms.specs.declared.ids.SubId.{SubId}
use Rattle.flow_terms.specs.declared.answers.Tried.{Tried}
use Rattle.flow_terms.specs.declared.answers.Next.{Next}
use Rattle.flow_terms.specs.declared.answers.Next.TheVariants as next
use Rattle.shared_core.specs.Flow.{Parameters, empty}
use Rattle.shared_core.specs.Calls.{Call, trying, subscribing, receiving, Reply, to_try, to_subscribe, to_receive, try_emit, subscribe, next_value}
use Rattle.shared_core.specs.Shown.{Seen, Shows, Follows}
use Rattle.shared_core.specs.Story.{given_to}
use Rattle.shared_core.specs.Made.{IsExecutionOf, execution_begun, and_then}
use Rattle.shared_core.proofs.Continuing.{headline_of, begun_execution, after_try, after_subscribe, after_next, received_then}
use Rattle.list_callers.specs.Taking.{offered_by, Took, TookByTheHeadline}

module _ {T : Type 0} (p : Parameters) (n : ℕ) where
  -- what one call more offers, and what the reply to it gave, come last
  one_more_call : {old : Seen T} {gave before : List T} (new : Seen T) (given after : List T) (took : Took p n old gave before) (call : Call T) (reply : Reply T)
      → IsExecutionOf p (and_then took.execution call reply new) → gave ++ filter_map offered_by (call ∷ []) ≡ given → before ++ given_to n (call ∷ []) (reply ∷ []) ≡ after → Took p n new given after
  one_more_call new given after took call reply is offers takes = record {
    execution = and_then took.execution call reply new;
    is_execution = is;
    left = refl;
    gave_them = filter_map-append offered_by took.execution.calls (call ∷ []) ∙ ap (λ xs. xs ++ filter_map offered_by (call ∷ [])) took.gave_them ∙ offers;
    took_them = received_then p took.execution n call reply new took.is_execution ∙ ap (λ xs. xs ++ given_to n (call ∷ []) (reply ∷ [])) took.took_them ∙ takes;
  }

  pub took_first : (flow new : Seen T) (result : Result SubId Refusal) → Shows flow (empty p) → Follows subscribe flow result new → Took p n new [] []
  took_first flow new result shows follows = record {
    execution = and_then (execution_begun flow) (subscribing []) (to_subscribe result) new;
    is_execution = after_subscribe p (execution_begun flow) new (begun_execution p flow shows) result follows;
    left = refl;
    gave_them = refl;
    took_them = refl;
  }

  module _ {old : Seen T} {gave before : List T} (new : Seen T) (took : Took p n old gave before) where
    pub took_try : (emitter : ℕ) (v : T) (result : Result (Tried ℕ) Refusal) → Follows (try_emit emitter v) old result new → Took p n new (gave ++ v ∷ []) before
    took_try emitter v result follows =
        one_more_call new (gave ++ v ∷ []) before took (trying emitter v) (to_try result)
        (after_try p took.execution new took.is_execution emitter v result (subst (λ (seen : Seen T). Follows (try_emit emitter v) seen result new) (sym took.left) follows))
        refl
        (append-nil before)

    took_next : (result : Next T) (after : List T) → Follows (next_value n) old result new → before ++ given_to n (receiving n ∷ []) (to_receive result ∷ []) ≡ after → Took p n new gave after
    took_next result after follows takes =
        one_more_call new gave after took (receiving n) (to_receive result)
        (after_next p took.execution new took.is_execution n result (subst (λ (seen : Seen T). Follows (next_value n) seen result new) (sym took.left) follows))
        (append-nil gave)
        takes

    pub took_value : (v : T) → Follows (next_value n) old (next.Value v) new → Took p n new gave (before ++ v ∷ [])
    took_value v follows = took_next (next.Value v) (before ++ v ∷ []) follows (ap (λ b. before ++ cond b (v ∷ []) []) (eq-eqb n n refl))

    pub took_nothing : (result : Next T) → (result ≡ next.Nothing) ⊎ (result ≡ next.Closed) → Follows (next_value n) old result new → Took p n new gave before
    took_nothing result none follows =
        ⊎_elim
        (λ (is : result ≡ next.Nothing). took_next next.Nothing before (subst (λ r. Follows (next_value n) old r new) is follows) (append-nil before))
        (λ (is : result ≡ next.Closed). took_next next.Closed before (subst (λ r. Follows (next_value n) old r new) is follows) (append-nil before))
        none

  pub took_all : {flow : Seen T} {gave taken : List T} → Took p n flow gave taken → TookByTheHeadline p n flow gave taken
  took_all took = record { by = took; headline = headline_of p took.execution took.is_execution }
