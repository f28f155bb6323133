-- What the model answers to these calls, one after another.
use Rattle.std.proofs.Common.{◌≡◌, ℕ, Ok, Result, ap, ◌∙◌, refl}
use Rattle.flow_terms.specs.declared.refusal.Refusal.{Refusal}
use Rattle.flow_terms.specs.declared.ids.SubId.{SubId}
use Rattle.flow_terms.specs.declared.answers.Next.TheVariants as next
use Rattle.shared_core.specs.Flow.{State, Parameters, suspend, empty, pending, has_room, live_count, waiting_count, settle}
use Rattle.shared_core.specs.Calls.{subscribe, subscribe_with, try_emit, next_value}
use Rattle.hot_callers.proofs.core_calling.received_once.Goals as goal

one_place : Parameters
one_place = record { replay = 0; extra = 1; overflow = suspend; subscribers = 1; emits = 1; first = 0 }

made : State ℕ
made = empty one_place

-- the first subscription gets the first value
first_value : (v : ℕ) → (next_value 0 (try_emit 1 v (subscribe made).1).1).0 ≡ next.Value v
unfolding one_place made pending has_room live_count waiting_count settle subscribe_with try_emit next_value
first_value v = refl

first_number : (id : SubId) → ◌≡◌ {A = Result SubId Refusal} (Ok id) (subscribe made).0 → id.0 ≡ 0
unfolding one_place made live_count subscribe_with
first_number id is = let same : id ≡ record { 0 = 0 } = cc in ap (λ (i : SubId). i.0) same

pub returns : goal.returns
unfolding one_place made
returns c =
    let subscribed = c.in_ok-id.ensures made c.in_ok-flow.ensures.shows in
    let tried = c.in_ok-_tried.ensures (subscribe made).1 subscribed.1 in
    let given = c.next.ensures (try_emit 1 c.args.value (subscribe made).1).1 tried.1 in
    given.0 ∙ ap (λ n. (next_value n (try_emit 1 c.args.value (subscribe made).1).1).0) (first_number c.in_ok-id.id subscribed.0) ∙ first_value c.args.value
