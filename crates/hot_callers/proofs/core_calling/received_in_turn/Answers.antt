-- What the model answers to these calls, one after another.
use Rattle.std.proofs.Common.{◌≡◌, ℕ, Ok, Result, ap, ◌∙◌, refl}
use Rattle.flow_terms.specs.declared.refusal.Refusal.{Refusal}
use Rattle.flow_terms.specs.declared.ids.SubId.{SubId}
use Rattle.flow_terms.specs.declared.answers.Next.TheVariants as next
use Rattle.shared_core.specs.Flow.{State, Parameters, suspend, empty, pending, has_room, live_count, waiting_count, out_count, settle}
use Rattle.shared_core.specs.Calls.{subscribe, subscribe_with, start_emit, next_value}
use Rattle.hot_callers.proofs.core_calling.received_in_turn.Goals as goal

one_place : Parameters
one_place = record { replay = 0; extra = 1; overflow = suspend; subscribers = 1; emits = 1; first = 0 }

made : State ℕ
made = empty one_place

opened : State ℕ
opened = (subscribe made).1

filled : ℕ → State ℕ
filled v = (start_emit 1 v opened).1

held_up : ℕ → ℕ → State ℕ
held_up v w = (start_emit 1 w (filled v)).1

-- once the first value was received, the second is there
second_value : (v w : ℕ) → (next_value 0 (next_value 0 (held_up v w)).1).0 ≡ next.Value w
unfolding one_place made opened filled held_up pending has_room live_count waiting_count out_count settle subscribe_with start_emit next_value
second_value v w = refl

first_number : (id : SubId) → ◌≡◌ {A = Result SubId Refusal} (Ok id) (subscribe made).0 → id.0 ≡ 0
unfolding one_place made live_count subscribe_with
first_number id is = let same : id ≡ record { 0 = 0 } = cc in ap (λ (i : SubId). i.0) same

pub returns : goal.returns
unfolding one_place made opened filled held_up
returns c =
    let subscribed = c.in_ok-id.ensures made c.in_ok-flow.ensures.shows in
    let first = c.in_ok-_accepted.ensures opened subscribed.1 in
    let second = c.in_ok-_waiting.ensures (filled c.args.first) first.1 in
    let received = c.next-first.ensures (held_up c.args.first c.args.second) second.1 in
    let given = c.next.ensures (next_value c.in_ok-id.id.0 (held_up c.args.first c.args.second)).1 received.1 in
    given.0 ∙ ap (λ n. (next_value n (next_value n (held_up c.args.first c.args.second)).1).0) (first_number c.in_ok-id.id subscribed.0) ∙ second_value c.args.first c.args.second
