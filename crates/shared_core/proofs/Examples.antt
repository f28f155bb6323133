-- Worked examples, computed by the definitions: the replies to some calls on a new flow, what was accepted, what waits, and
-- what each subscription received.
use Rattle.std.proofs.Common.{◌≡◌, refl, ℕ, List, ◌+◌, ◌-◌, [], ◌∷◌, Ok, Err, true, false, Some, None}
use Rattle.flow_terms.specs.declared.refusal.Refusal.TheVariants.{EmitsFull, Spent, SubscribersFull, TooLarge, PolicyNeedsBuffer, BadLimit}
use Rattle.flow_terms.specs.declared.policy.Policy.TheVariants.{Suspend, DropOldest, DropLatest}
use Rattle.flow_terms.specs.declared.answers.Tried.TheVariants as tried
use Rattle.flow_terms.specs.declared.answers.Begun.TheVariants as begun
use Rattle.flow_terms.specs.declared.answers.Emit.TheVariants as emit
use Rattle.flow_terms.specs.declared.answers.Withdrawn.TheVariants as withdrawn
use Rattle.flow_terms.specs.declared.answers.Next.TheVariants as next
use Rattle.shared_core.specs.Flow.{Overflow, suspend, drop_oldest, drop_latest, Parameters, empty, number_limit, pending, has_room, live_count, waiting_count, out_count, settle, values}
use Rattle.shared_core.specs.Calls.{try_emit, start_emit, poll_emit, cancel_emit, subscribe_with, next_value, cancel, pending_count, after, trying, starting, polling, withdrawing, subscribing, receiving, cancelling, resetting, counting, Reply, to_try, to_start, to_poll, to_withdraw, to_subscribe, to_receive, to_cancel, to_reset, to_count}
use Rattle.shared_core.specs.Kept.{making_refusal}
use Rattle.shared_core.specs.Shown.{seen_of}
use Rattle.shared_core.specs.Headline.{Execution, execution_of, accepted, waiting, received}

-- ---- what flows are made with, and replies

abbrev made : ℕ → ℕ → Overflow → Parameters
made replay extra overflow = record { replay = replay; extra = extra; overflow = overflow; subscribers = 8; emits = 8; first = 0 }

abbrev made_with : ℕ → ℕ → ℕ → ℕ → ℕ → Parameters
made_with replay extra subscribers emits first =
    record { replay = replay; extra = extra; overflow = suspend; subscribers = subscribers; emits = emits; first = first }

abbrev try_accepted : ℕ → Reply ℕ
try_accepted n = to_try (Ok (tried.Accepted n))

abbrev try_dropped : Reply ℕ
try_dropped = to_try (Ok tried.Dropped)

abbrev try_full : Reply ℕ
try_full = to_try (Ok tried.Full)

abbrev try_spent : Reply ℕ
try_spent = to_try (Err Spent)

abbrev start_accepted : ℕ → Reply ℕ
start_accepted n = to_start (Ok (begun.Accepted n))

abbrev start_dropped : Reply ℕ
start_dropped = to_start (Ok begun.Dropped)

abbrev start_waits : ℕ → Reply ℕ
start_waits n = to_start (Ok (begun.Waiting (record { 0 = n })))

abbrev start_spent : Reply ℕ
start_spent = to_start (Err Spent)

abbrev emits_full : Reply ℕ
emits_full = to_start (Err EmitsFull)

abbrev done : ℕ → Reply ℕ
done n = to_poll (emit.Done n)

abbrev still_waits : Reply ℕ
still_waits = to_poll emit.Waiting

abbrev poll_gone : Reply ℕ
poll_gone = to_poll emit.Gone

abbrev removed : Reply ℕ
removed = to_withdraw withdrawn.Removed

abbrev left_as : ℕ → Reply ℕ
left_as n = to_withdraw (withdrawn.Left n)

abbrev opened : ℕ → Reply ℕ
opened n = to_subscribe (Ok (record { 0 = n }))

abbrev subscribe_spent : Reply ℕ
subscribe_spent = to_subscribe (Err Spent)

abbrev subscribers_full : Reply ℕ
subscribers_full = to_subscribe (Err SubscribersFull)

abbrev given : ℕ → Reply ℕ
given v = to_receive (next.Value v)

abbrev nothing : Reply ℕ
nothing = to_receive next.Nothing

abbrev closed : Reply ℕ
closed = to_receive next.Closed

-- ---- rows

replay_gives_latest :
    let execution : Execution ℕ = execution_of (made 2 1 suspend) (trying 0 1 ∷ trying 0 2 ∷ trying 0 3 ∷ subscribing [] ∷ receiving 0 ∷ receiving 0 ∷ receiving 0 ∷ []) in
    (execution.replies ≡ try_accepted 0 ∷ try_accepted 1 ∷ try_accepted 2 ∷ opened 0 ∷ given 2 ∷ given 3 ∷ nothing ∷ [])
    × (values (accepted execution) ≡ 1 ∷ 2 ∷ 3 ∷ [])
    × (values (waiting execution) ≡ [])
    × (received 0 execution ≡ 2 ∷ 3 ∷ [])
unfolding pending has_room live_count waiting_count out_count settle try_emit start_emit poll_emit cancel_emit subscribe_with next_value cancel seen_of
replay_gives_latest = (refl, refl, refl, refl)

waiting_in_order :
    let execution : Execution ℕ = execution_of (made 0 1 suspend) (subscribing [] ∷ starting 0 1 ∷ starting 0 2 ∷ starting 0 3 ∷ receiving 0 ∷ polling 1 ∷ polling 0 ∷ receiving 0 ∷ polling 1 ∷ receiving 0 ∷ []) in
    (execution.replies ≡ opened 0 ∷ start_accepted 0 ∷ start_waits 0 ∷ start_waits 1 ∷ given 1 ∷ still_waits ∷ done 1 ∷ given 2 ∷ done 2 ∷ given 3 ∷ [])
    × (values (accepted execution) ≡ 1 ∷ 2 ∷ 3 ∷ [])
    × (values (waiting execution) ≡ [])
    × (received 0 execution ≡ 1 ∷ 2 ∷ 3 ∷ [])
unfolding pending has_room live_count waiting_count out_count settle try_emit start_emit poll_emit cancel_emit subscribe_with next_value cancel seen_of
waiting_in_order = (refl, refl, refl, refl)

hand_over :
    let execution : Execution ℕ = execution_of (made 0 0 suspend) (trying 0 1 ∷ subscribing [] ∷ trying 0 2 ∷ starting 0 3 ∷ receiving 0 ∷ polling 0 ∷ receiving 0 ∷ []) in
    (execution.replies ≡ try_accepted 0 ∷ opened 0 ∷ try_full ∷ start_waits 0 ∷ given 3 ∷ done 1 ∷ nothing ∷ [])
    × (values (accepted execution) ≡ 1 ∷ 3 ∷ [])
    × (values (waiting execution) ≡ [])
    × (received 0 execution ≡ 3 ∷ [])
unfolding pending has_room live_count waiting_count out_count settle try_emit start_emit poll_emit cancel_emit subscribe_with next_value cancel seen_of
hand_over = (refl, refl, refl, refl)

drop_oldest_per_subscriber :
    let execution : Execution ℕ = execution_of (made 0 2 drop_oldest) (subscribing [] ∷ subscribing [] ∷ trying 0 1 ∷ trying 0 2 ∷ receiving 1 ∷ receiving 1 ∷ trying 0 3 ∷ receiving 0 ∷ receiving 0 ∷ receiving 1 ∷ []) in
    (execution.replies ≡ opened 0 ∷ opened 1 ∷ try_accepted 0 ∷ try_accepted 1 ∷ given 1 ∷ given 2 ∷ try_accepted 2 ∷ given 2 ∷ given 3 ∷ given 3 ∷ [])
    × (values (accepted execution) ≡ 1 ∷ 2 ∷ 3 ∷ [])
    × (values (waiting execution) ≡ [])
    × (received 0 execution ≡ 2 ∷ 3 ∷ [])
    × (received 1 execution ≡ 1 ∷ 2 ∷ 3 ∷ [])
unfolding pending has_room live_count waiting_count out_count settle try_emit start_emit poll_emit cancel_emit subscribe_with next_value cancel seen_of
drop_oldest_per_subscriber = (refl, refl, refl, refl, refl)

drop_latest_keeps_cache :
    let execution : Execution ℕ = execution_of (made 1 0 drop_latest) (subscribing [] ∷ trying 0 1 ∷ trying 0 2 ∷ receiving 0 ∷ trying 0 3 ∷ receiving 0 ∷ []) in
    (execution.replies ≡ opened 0 ∷ try_accepted 0 ∷ try_dropped ∷ given 1 ∷ try_accepted 1 ∷ given 3 ∷ [])
    × (values (accepted execution) ≡ 1 ∷ 3 ∷ [])
    × (values (waiting execution) ≡ [])
    × (received 0 execution ≡ 1 ∷ 3 ∷ [])
    × ((execution_of {T = ℕ} (made 1 0 drop_latest) (subscribing [] ∷ trying 0 1 ∷ trying 0 2 ∷ [])).seen.cache ≡ 1 ∷ [])
    × ((execution_of {T = ℕ} (made 1 0 drop_latest) (subscribing [] ∷ trying 0 1 ∷ trying 0 2 ∷ receiving 0 ∷ trying 0 3 ∷ [])).seen.cache ≡ 3 ∷ [])
unfolding pending has_room live_count waiting_count out_count settle try_emit start_emit poll_emit cancel_emit subscribe_with next_value cancel seen_of
drop_latest_keeps_cache = (refl, refl, refl, refl, refl, refl)

cancel_frees_waiting :
    let execution : Execution ℕ = execution_of (made 1 0 suspend) (subscribing [] ∷ starting 0 1 ∷ starting 0 2 ∷ starting 0 3 ∷ cancelling 0 ∷ polling 0 ∷ polling 1 ∷ polling 2 ∷ receiving 0 ∷ cancelling 0 ∷ counting ∷ []) in
    (execution.replies ≡ opened 0 ∷ start_accepted 0 ∷ start_waits 0 ∷ start_waits 1 ∷ to_cancel true ∷ done 1 ∷ done 2 ∷ poll_gone ∷ closed ∷ to_cancel false ∷ to_count 0 ∷ [])
    × (values (accepted execution) ≡ 1 ∷ 2 ∷ 3 ∷ [])
    × (values (waiting execution) ≡ [])
    × (received 0 execution ≡ [])
    × ((execution_of {T = ℕ} (made 1 0 suspend) (subscribing [] ∷ starting 0 1 ∷ starting 0 2 ∷ starting 0 3 ∷ cancelling 0 ∷ polling 0 ∷ polling 1 ∷ polling 2 ∷ [])).seen.cache ≡ 3 ∷ [])
unfolding pending has_room live_count waiting_count out_count settle try_emit start_emit poll_emit cancel_emit subscribe_with next_value cancel seen_of
cancel_frees_waiting = (refl, refl, refl, refl, refl)

reset_keeps_pending :
    let execution : Execution ℕ = execution_of (made 2 0 suspend) (trying 0 1 ∷ trying 0 2 ∷ subscribing [] ∷ resetting ∷ subscribing [] ∷ receiving 0 ∷ receiving 0 ∷ receiving 1 ∷ counting ∷ []) in
    (execution.replies ≡ try_accepted 0 ∷ try_accepted 1 ∷ opened 0 ∷ to_reset ∷ opened 1 ∷ given 1 ∷ given 2 ∷ nothing ∷ to_count 2 ∷ [])
    × (values (accepted execution) ≡ 1 ∷ 2 ∷ [])
    × (values (waiting execution) ≡ [])
    × (received 0 execution ≡ 1 ∷ 2 ∷ [])
    × (received 1 execution ≡ [])
    × ((execution_of {T = ℕ} (made 2 0 suspend) (trying 0 1 ∷ trying 0 2 ∷ subscribing [] ∷ resetting ∷ subscribing [] ∷ receiving 0 ∷ receiving 0 ∷ receiving 1 ∷ [])).seen.cache ≡ [])
unfolding pending has_room live_count waiting_count out_count settle try_emit start_emit poll_emit cancel_emit subscribe_with next_value cancel seen_of
reset_keeps_pending = (refl, refl, refl, refl, refl, refl)

withdraw :
    let execution : Execution ℕ = execution_of (made 0 1 suspend) (subscribing [] ∷ starting 0 1 ∷ starting 0 2 ∷ starting 0 3 ∷ withdrawing 0 ∷ receiving 0 ∷ receiving 0 ∷ polling 0 ∷ withdrawing 1 ∷ polling 1 ∷ []) in
    (execution.replies ≡ opened 0 ∷ start_accepted 0 ∷ start_waits 0 ∷ start_waits 1 ∷ removed ∷ given 1 ∷ given 3 ∷ poll_gone ∷ left_as 1 ∷ poll_gone ∷ [])
    × (values (accepted execution) ≡ 1 ∷ 3 ∷ [])
    × (values (waiting execution) ≡ [])
    × (received 0 execution ≡ 1 ∷ 3 ∷ [])
unfolding pending has_room live_count waiting_count out_count settle try_emit start_emit poll_emit cancel_emit subscribe_with next_value cancel seen_of
withdraw = (refl, refl, refl, refl)

numbers_spent :
    let execution : Execution ℕ = execution_of (made_with 0 2 2 2 (number_limit - 1)) (subscribing [] ∷ subscribing [] ∷ trying 0 7 ∷ trying 0 8 ∷ receiving (number_limit - 1) ∷ receiving (number_limit - 1) ∷ []) in
    (execution.replies ≡ opened (number_limit - 1) ∷ subscribe_spent ∷ try_accepted (number_limit - 1) ∷ try_spent ∷ given 7 ∷ nothing ∷ [])
    × (values (accepted execution) ≡ 7 ∷ [])
    × (values (waiting execution) ≡ [])
    × (received (number_limit - 1) execution ≡ 7 ∷ [])
unfolding pending has_room live_count waiting_count out_count settle try_emit start_emit poll_emit cancel_emit subscribe_with next_value cancel seen_of
numbers_spent = (refl, refl, refl, refl)

late_subscriber_at_hand_over :
    let execution : Execution ℕ = execution_of (made 0 0 suspend) (subscribing [] ∷ starting 0 5 ∷ subscribing [] ∷ receiving 1 ∷ polling 0 ∷ cancelling 0 ∷ polling 0 ∷ []) in
    (execution.replies ≡ opened 0 ∷ start_waits 0 ∷ opened 1 ∷ nothing ∷ still_waits ∷ to_cancel true ∷ done 0 ∷ [])
    × (values (accepted execution) ≡ 5 ∷ [])
    × (values (waiting execution) ≡ [])
    × (received 0 execution ≡ [])
    × (received 1 execution ≡ [])
unfolding pending has_room live_count waiting_count out_count settle try_emit start_emit poll_emit cancel_emit subscribe_with next_value cancel seen_of
late_subscriber_at_hand_over = (refl, refl, refl, refl, refl)

first_path :
    let execution : Execution ℕ = execution_of (made 0 2 suspend) (subscribing [] ∷ trying 0 1 ∷ trying 0 2 ∷ trying 0 3 ∷ receiving 0 ∷ trying 0 3 ∷ receiving 0 ∷ receiving 0 ∷ receiving 0 ∷ cancelling 0 ∷ receiving 0 ∷ []) in
    (execution.replies ≡ opened 0 ∷ try_accepted 0 ∷ try_accepted 1 ∷ try_full ∷ given 1 ∷ try_accepted 2 ∷ given 2 ∷ given 3 ∷ nothing ∷ to_cancel true ∷ closed ∷ [])
    × (values (accepted execution) ≡ 1 ∷ 2 ∷ 3 ∷ [])
    × (values (waiting execution) ≡ [])
    × (received 0 execution ≡ 1 ∷ 2 ∷ 3 ∷ [])
unfolding pending has_room live_count waiting_count out_count settle try_emit start_emit poll_emit cancel_emit subscribe_with next_value cancel seen_of
first_path = (refl, refl, refl, refl)

places_full :
    let execution : Execution ℕ = execution_of (made 0 0 suspend) (subscribing [] ∷ subscribing [] ∷ subscribing [] ∷ subscribing [] ∷ subscribing [] ∷ subscribing [] ∷ subscribing [] ∷ subscribing [] ∷ subscribing [] ∷ cancelling 0 ∷ subscribing [] ∷ []) in
    (execution.replies ≡ opened 0 ∷ opened 1 ∷ opened 2 ∷ opened 3 ∷ opened 4 ∷ opened 5 ∷ opened 6 ∷ opened 7 ∷ subscribers_full ∷ to_cancel true ∷ opened 8 ∷ [])
    × (values (accepted execution) ≡ [])
    × (values (waiting execution) ≡ [])
unfolding pending has_room live_count waiting_count out_count settle try_emit start_emit poll_emit cancel_emit subscribe_with next_value cancel seen_of
places_full = (refl, refl, refl)

tickets_full :
    let execution : Execution ℕ = execution_of (made 0 0 suspend) (subscribing [] ∷ starting 0 1 ∷ starting 0 2 ∷ starting 0 3 ∷ starting 0 4 ∷ starting 0 5 ∷ starting 0 6 ∷ starting 0 7 ∷ starting 0 8 ∷ starting 0 9 ∷ receiving 0 ∷ polling 0 ∷ starting 0 9 ∷ []) in
    (execution.replies ≡ opened 0 ∷ start_waits 0 ∷ start_waits 1 ∷ start_waits 2 ∷ start_waits 3 ∷ start_waits 4 ∷ start_waits 5 ∷ start_waits 6 ∷ start_waits 7 ∷ emits_full ∷ given 1 ∷ done 0 ∷ start_waits 8 ∷ [])
    × (values (accepted execution) ≡ 1 ∷ 2 ∷ [])
    × (values (waiting execution) ≡ 3 ∷ 4 ∷ 5 ∷ 6 ∷ 7 ∷ 8 ∷ 9 ∷ [])
    × (received 0 execution ≡ 1 ∷ [])
unfolding pending has_room live_count waiting_count out_count settle try_emit start_emit poll_emit cancel_emit subscribe_with next_value cancel seen_of
tickets_full = (refl, refl, refl, refl)

place_used_again :
    let execution : Execution ℕ = execution_of (made 1 0 suspend) (subscribing [] ∷ trying 0 1 ∷ receiving 0 ∷ trying 0 2 ∷ cancelling 0 ∷ trying 0 3 ∷ subscribing [] ∷ receiving 1 ∷ receiving 1 ∷ []) in
    (execution.replies ≡ opened 0 ∷ try_accepted 0 ∷ given 1 ∷ try_accepted 1 ∷ to_cancel true ∷ try_accepted 2 ∷ opened 1 ∷ given 3 ∷ nothing ∷ [])
    × (values (accepted execution) ≡ 1 ∷ 2 ∷ 3 ∷ [])
    × (values (waiting execution) ≡ [])
    × (received 0 execution ≡ 1 ∷ [])
    × (received 1 execution ≡ 3 ∷ [])
unfolding pending has_room live_count waiting_count out_count settle try_emit start_emit poll_emit cancel_emit subscribe_with next_value cancel seen_of
place_used_again = (refl, refl, refl, refl, refl)

run_of_calls :
    let execution : Execution ℕ = execution_of (made_with 0 1 1 1 0) (subscribing [] ∷ trying 1 7 ∷ receiving 0 ∷ receiving 0 ∷ []) in
    (execution.replies ≡ opened 0 ∷ try_accepted 0 ∷ given 7 ∷ nothing ∷ [])
    × (values (accepted execution) ≡ 7 ∷ [])
    × (values (waiting execution) ≡ [])
    × (received 0 execution ≡ 7 ∷ [])
unfolding pending has_room live_count waiting_count out_count settle try_emit start_emit poll_emit cancel_emit subscribe_with next_value cancel seen_of
run_of_calls = (refl, refl, refl, refl)

spent_before_full :
    let execution : Execution ℕ = execution_of (made_with 0 0 1 1 (number_limit - 1)) (subscribing [] ∷ starting 0 7 ∷ starting 0 8 ∷ receiving (number_limit - 1) ∷ polling (number_limit - 1) ∷ polling (number_limit - 1) ∷ trying 0 9 ∷ cancelling (number_limit - 1) ∷ trying 0 9 ∷ []) in
    (execution.replies ≡ opened (number_limit - 1) ∷ start_waits (number_limit - 1) ∷ start_spent ∷ given 7 ∷ done (number_limit - 1) ∷ poll_gone ∷ try_spent ∷ to_cancel true ∷ try_spent ∷ [])
    × (values (accepted execution) ≡ 7 ∷ [])
    × (values (waiting execution) ≡ [])
    × (received (number_limit - 1) execution ≡ 7 ∷ [])
unfolding pending has_room live_count waiting_count out_count settle try_emit start_emit poll_emit cancel_emit subscribe_with next_value cancel seen_of
spent_before_full = (refl, refl, refl, refl)

withdrawn_tickets_stay_spent :
    let execution : Execution ℕ = execution_of (made_with 0 1 1 2 (number_limit - 2)) (subscribing [] ∷ trying 0 1 ∷ starting 0 2 ∷ withdrawing (number_limit - 2) ∷ starting 0 3 ∷ withdrawing (number_limit - 1) ∷ starting 0 4 ∷ trying 0 5 ∷ []) in
    (execution.replies ≡ opened (number_limit - 2) ∷ try_accepted (number_limit - 2) ∷ start_waits (number_limit - 2) ∷ removed ∷ start_waits (number_limit - 1) ∷ removed ∷ start_spent ∷ try_full ∷ [])
    × (values (accepted execution) ≡ 1 ∷ [])
    × (values (waiting execution) ≡ [])
    × (received (number_limit - 2) execution ≡ [])
unfolding pending has_room live_count waiting_count out_count settle try_emit start_emit poll_emit cancel_emit subscribe_with next_value cancel seen_of
withdrawn_tickets_stay_spent = (refl, refl, refl, refl)

drop_latest_emit :
    let execution : Execution ℕ = execution_of (made 0 1 drop_latest) (subscribing [] ∷ starting 0 1 ∷ starting 0 2 ∷ polling 0 ∷ receiving 0 ∷ receiving 0 ∷ []) in
    (execution.replies ≡ opened 0 ∷ start_accepted 0 ∷ start_dropped ∷ poll_gone ∷ given 1 ∷ nothing ∷ [])
    × (values (accepted execution) ≡ 1 ∷ [])
    × (values (waiting execution) ≡ [])
    × (received 0 execution ≡ 1 ∷ [])
unfolding pending has_room live_count waiting_count out_count settle try_emit start_emit poll_emit cancel_emit subscribe_with next_value cancel seen_of
drop_latest_emit = (refl, refl, refl, refl)

reset_under_drop_oldest :
    let execution : Execution ℕ = execution_of (made 1 1 drop_oldest) (subscribing [] ∷ trying 0 1 ∷ trying 0 2 ∷ resetting ∷ trying 0 3 ∷ receiving 0 ∷ receiving 0 ∷ []) in
    (execution.replies ≡ opened 0 ∷ try_accepted 0 ∷ try_accepted 1 ∷ to_reset ∷ try_accepted 2 ∷ given 2 ∷ given 3 ∷ [])
    × (values (accepted execution) ≡ 1 ∷ 2 ∷ 3 ∷ [])
    × (values (waiting execution) ≡ [])
    × (received 0 execution ≡ 2 ∷ 3 ∷ [])
    × ((execution_of {T = ℕ} (made 1 1 drop_oldest) (subscribing [] ∷ trying 0 1 ∷ trying 0 2 ∷ resetting ∷ trying 0 3 ∷ [])).seen.cache ≡ 3 ∷ [])
unfolding pending has_room live_count waiting_count out_count settle try_emit start_emit poll_emit cancel_emit subscribe_with next_value cancel seen_of
reset_under_drop_oldest = (refl, refl, refl, refl, refl)

ring_over_capacity :
    let execution : Execution ℕ = execution_of (made 1 2 drop_oldest) (subscribing [] ∷ trying 0 1 ∷ trying 0 2 ∷ trying 0 3 ∷ trying 0 4 ∷ trying 0 5 ∷ subscribing [] ∷ receiving 0 ∷ receiving 0 ∷ receiving 0 ∷ receiving 0 ∷ receiving 1 ∷ []) in
    (execution.replies ≡ opened 0 ∷ try_accepted 0 ∷ try_accepted 1 ∷ try_accepted 2 ∷ try_accepted 3 ∷ try_accepted 4 ∷ opened 1 ∷ given 3 ∷ given 4 ∷ given 5 ∷ nothing ∷ given 5 ∷ [])
    × (values (accepted execution) ≡ 1 ∷ 2 ∷ 3 ∷ 4 ∷ 5 ∷ [])
    × (values (waiting execution) ≡ [])
    × (received 0 execution ≡ 3 ∷ 4 ∷ 5 ∷ [])
    × (received 1 execution ≡ 5 ∷ [])
    × ((execution_of {T = ℕ} (made 1 2 drop_oldest) (subscribing [] ∷ trying 0 1 ∷ trying 0 2 ∷ trying 0 3 ∷ trying 0 4 ∷ trying 0 5 ∷ [])).seen.cache ≡ 5 ∷ [])
unfolding pending has_room live_count waiting_count out_count settle try_emit start_emit poll_emit cancel_emit subscribe_with next_value cancel seen_of
ring_over_capacity = (refl, refl, refl, refl, refl, refl)

prelude_first :
    let execution : Execution ℕ = execution_of (made 1 1 suspend) (trying 0 1 ∷ subscribing (8 ∷ 9 ∷ []) ∷ trying 0 2 ∷ trying 0 3 ∷ receiving 0 ∷ trying 0 3 ∷ receiving 0 ∷ receiving 0 ∷ receiving 0 ∷ receiving 0 ∷ []) in
    (execution.replies ≡ try_accepted 0 ∷ opened 0 ∷ try_accepted 1 ∷ try_full ∷ given 8 ∷ try_full ∷ given 9 ∷ given 1 ∷ given 2 ∷ nothing ∷ [])
    × (values (accepted execution) ≡ 1 ∷ 2 ∷ [])
    × (values (waiting execution) ≡ [])
    × (received 0 execution ≡ 8 ∷ 9 ∷ 1 ∷ 2 ∷ [])
unfolding pending has_room live_count waiting_count out_count settle try_emit start_emit poll_emit cancel_emit subscribe_with next_value cancel seen_of
prelude_first = (refl, refl, refl, refl)

prelude_at_hand_over :
    let execution : Execution ℕ = execution_of (made 0 0 suspend) (subscribing (5 ∷ []) ∷ starting 0 1 ∷ polling 0 ∷ receiving 0 ∷ polling 0 ∷ receiving 0 ∷ polling 0 ∷ []) in
    (execution.replies ≡ opened 0 ∷ start_waits 0 ∷ still_waits ∷ given 5 ∷ still_waits ∷ given 1 ∷ done 0 ∷ [])
    × (values (accepted execution) ≡ 1 ∷ [])
    × (values (waiting execution) ≡ [])
    × (received 0 execution ≡ 5 ∷ 1 ∷ [])
unfolding pending has_room live_count waiting_count out_count settle try_emit start_emit poll_emit cancel_emit subscribe_with next_value cancel seen_of
prelude_at_hand_over = (refl, refl, refl, refl)

prelude_survives_drop :
    let execution : Execution ℕ = execution_of (made 0 1 drop_oldest) (subscribing (5 ∷ []) ∷ trying 0 1 ∷ trying 0 2 ∷ receiving 0 ∷ receiving 0 ∷ receiving 0 ∷ []) in
    (execution.replies ≡ opened 0 ∷ try_accepted 0 ∷ try_accepted 1 ∷ given 5 ∷ given 2 ∷ nothing ∷ [])
    × (values (accepted execution) ≡ 1 ∷ 2 ∷ [])
    × (values (waiting execution) ≡ [])
    × (received 0 execution ≡ 5 ∷ 2 ∷ [])
unfolding pending has_room live_count waiting_count out_count settle try_emit start_emit poll_emit cancel_emit subscribe_with next_value cancel seen_of
prelude_survives_drop = (refl, refl, refl, refl)

prelude_given_up :
    let prelude : List ℕ = 1 ∷ 2 ∷ 3 ∷ 4 ∷ 5 ∷ 6 ∷ 7 ∷ 8 ∷ 9 ∷ 10 ∷ 11 ∷ 12 ∷ 13 ∷ 14 ∷ 15 ∷ 16 ∷ [] in
    let execution : Execution ℕ = execution_of (made 0 0 suspend) (subscribing prelude ∷ receiving 0 ∷ cancelling 0 ∷ receiving 0 ∷ []) in
    (execution.replies ≡ opened 0 ∷ given 1 ∷ to_cancel true ∷ closed ∷ [])
    × (received 0 execution ≡ 1 ∷ [])
    × ((execution_of {T = ℕ} (made 0 0 suspend) (subscribing prelude ∷ receiving 0 ∷ [])).seen.rests ≡ (0, 2 ∷ 3 ∷ 4 ∷ 5 ∷ 6 ∷ 7 ∷ 8 ∷ 9 ∷ 10 ∷ 11 ∷ 12 ∷ 13 ∷ 14 ∷ 15 ∷ 16 ∷ []) ∷ [])
    × (execution.seen.rests ≡ [])
unfolding pending has_room live_count waiting_count out_count settle try_emit start_emit poll_emit cancel_emit subscribe_with next_value cancel seen_of
prelude_given_up = (refl, refl, refl, refl)

-- what is left of the prelude is counted with what is pending
prelude_is_pending : pending_count {T = ℕ} 0 (after (trying 0 1 ∷ subscribing (8 ∷ 9 ∷ []) ∷ trying 0 2 ∷ receiving 0 ∷ []) (empty (made 1 1 suspend))) ≡ 3
unfolding pending has_room live_count waiting_count out_count settle try_emit start_emit poll_emit cancel_emit subscribe_with next_value cancel pending_count
prelude_is_pending = refl

-- with the first number at the limit nothing can be emitted
none_at_the_limit : (execution_of {T = ℕ} (made_with 0 2 2 2 number_limit) (trying 0 7 ∷ [])).replies ≡ try_spent ∷ []
unfolding pending has_room live_count waiting_count out_count settle try_emit start_emit poll_emit cancel_emit subscribe_with next_value cancel seen_of
none_at_the_limit = refl

refusals_at_making :
    (making_refusal (record { replay = 0; extra = 0; policy = DropOldest; subscribers = 8; emits = 8; first = 0 }) ≡ Some PolicyNeedsBuffer)
    × (making_refusal (record { replay = 65536; extra = 1; policy = Suspend; subscribers = 8; emits = 8; first = 0 }) ≡ Some TooLarge)
    × (making_refusal (record { replay = 65537; extra = 0; policy = DropLatest; subscribers = 8; emits = 8; first = 0 }) ≡ Some TooLarge)
    × (making_refusal (record { replay = 65536; extra = 0; policy = DropLatest; subscribers = 8; emits = 8; first = 0 }) ≡ None)
refusals_at_making = (refl, refl, refl, refl)

first_number_at_making :
    (making_refusal (record { replay = 0; extra = 2; policy = Suspend; subscribers = 2; emits = 2; first = number_limit }) ≡ None)
    × (making_refusal (record { replay = 0; extra = 2; policy = Suspend; subscribers = 2; emits = 2; first = number_limit + 1 }) ≡ Some BadLimit)
first_number_at_making = (refl, refl)
