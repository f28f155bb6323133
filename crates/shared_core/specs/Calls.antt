-- The calls of a shared flow: what each answers and what state it leaves. A refused call leaves the state as it was.
use Rattle.std.specs.Prelude.{ℕ, ◌+◌, Bool, true, false, not, ◌||◌, ◌==◌, nat_lt, if◌then◌else◌, List}
use Rattle.std.specs.Prelude.{[], ◌∷◌, length, Option, None, Some, Result, Ok, Err, slice_get}
use Rattle.std.specs.List.{list_all}
use Rattle.flow_terms.specs.declared.refusal.Refusal.{Refusal}
use Rattle.flow_terms.specs.declared.refusal.Refusal.TheVariants.{EmitsFull, Spent, SubscribersFull}
use Rattle.flow_terms.specs.declared.ids.SubId.{SubId}
use Rattle.flow_terms.specs.declared.ids.Ticket.{Ticket}
use Rattle.flow_terms.specs.declared.answers.Tried.{Tried}
use Rattle.flow_terms.specs.declared.answers.Tried.TheVariants as tried
use Rattle.flow_terms.specs.declared.answers.Begun.{Begun}
use Rattle.flow_terms.specs.declared.answers.Begun.TheVariants as begun
use Rattle.flow_terms.specs.declared.answers.Emit.{Emit}
use Rattle.flow_terms.specs.declared.answers.Emit.TheVariants as emit
use Rattle.flow_terms.specs.declared.answers.Withdrawn.{Withdrawn}
use Rattle.flow_terms.specs.declared.answers.Withdrawn.TheVariants as withdrawn
use Rattle.flow_terms.specs.declared.answers.Next.{Next}
use Rattle.flow_terms.specs.declared.answers.Next.TheVariants as next
use Rattle.shared_core.specs.Flow.{Overflow, suspend, drop_oldest, drop_latest, number_limit, capacity, State}
use Rattle.shared_core.specs.Flow.{Standing, waits, stands, gone, Subscription, contains, rest, pending, pending_values}
use Rattle.shared_core.specs.Flow.{has_room, live_count, waiting_count, out_count, number, index}
use Rattle.shared_core.specs.Flow.{accept, greet, receive, lose_oldest, open_next, close_at, give, put, settle}

-- ---- emissions

-- the numbers of emissions are used up, those that wait counted in
abbrev pub numbers_spent : {T : Type 0} → State T → Bool
numbers_spent M = number M (length M.accepted + waiting_count M) == number_limit

abbrev pub tickets_spent : {T : Type 0} → State T → Bool
tickets_spent M = number M (length M.tickets) == number_limit

-- what an emission comes to, before it is asked whether it may wait
pub data Fate : Type 0 where
  -- it is accepted
  enters : Fate
  -- it is accepted, and each live subscription with all places taken loses its oldest pending value
  pushes_in : Fate
  -- it is accepted at the hand-over of a flow without places of its own, and accepted
  handed_over : Fate
  dropped : Fate
  -- there is no room for it
  held_up : Fate

abbrev pub without_room : Overflow → Fate
without_room suspend = held_up
without_room drop_oldest = pushes_in
without_room drop_latest = dropped

-- by how many subscriptions are live, how many places there are, how many emissions wait, and whether there is room
abbrev pub fate_by : ℕ → ℕ → ℕ → Bool → Overflow → Fate
fate_by live_ones all_places waiting_ones room overflow =
    if live_ones == 0 then enters
    else if all_places == 0 then (if room then (if waiting_ones == 0 then handed_over else held_up) else held_up)
    else if room then enters
    else without_room overflow

abbrev pub fate : {T : Type 0} → State T → Fate
fate M = fate_by (live_count M) (capacity M.parameters) (waiting_count M) (has_room M) M.parameters.overflow

abbrev pub try_by : {T : Type 0} → Fate → ℕ → T → State T → Result (Tried ℕ) Refusal × State T
try_by enters emitter v M = (Ok (tried.Accepted (number M (length M.accepted))), accept emitter v M)
try_by pushes_in emitter v M = (Ok (tried.Accepted (number M (length M.accepted))), accept emitter v (lose_oldest M))
try_by dropped emitter v M = (Ok tried.Dropped, M)
try_by handed_over emitter v M = (Ok tried.Full, M)
try_by held_up emitter v M = (Ok tried.Full, M)

unfoldable pub try_emit : {T : Type 0} → ℕ → T → State T → Result (Tried ℕ) Refusal × State T
try_emit emitter v M = if numbers_spent M then (Err Spent, M) else try_by (fate M) emitter v M

-- a ticket is given where fewer than `emits` are out
abbrev pub wait_with : {T : Type 0} → State T → Standing T → State T → Result (Begun ℕ Ticket) Refusal × State T
wait_with M standing after =
    if nat_lt (out_count M) M.parameters.emits
    then (Ok (begun.Waiting (record { 0 = number M (length M.tickets) })), give standing after)
    else (Err EmitsFull, M)

abbrev pub start_by : {T : Type 0} → Fate → ℕ → T → State T → Result (Begun ℕ Ticket) Refusal × State T
start_by enters emitter v M = (Ok (begun.Accepted (number M (length M.accepted))), accept emitter v M)
start_by pushes_in emitter v M = (Ok (begun.Accepted (number M (length M.accepted))), accept emitter v (lose_oldest M))
start_by dropped emitter v M = (Ok begun.Dropped, M)
start_by handed_over emitter v M = wait_with M (stands (length M.accepted)) (accept emitter v M)
start_by held_up emitter v M = wait_with M (waits emitter v) M

unfoldable pub start_emit : {T : Type 0} → ℕ → T → State T → Result (Begun ℕ Ticket) Refusal × State T
start_emit emitter v M = if numbers_spent M || tickets_spent M then (Err Spent, M) else start_by (fate M) emitter v M

-- an accepted emission is done in a flow with places, and else where it is pending for no live subscription
abbrev pub is_done : {T : Type 0} → State T → ℕ → Bool
is_done M i =
    not (capacity M.parameters == 0) || list_all (λ s. not (contains (pending (length M.accepted) s) i)) M.subscriptions

abbrev pub or_gone : {T : Type 0} → Option (Standing T) → Standing T
or_gone None = gone
or_gone (Some standing) = standing

-- where the ticket at this index stands; one that was never given is gone
abbrev pub ticket_at : {T : Type 0} → List (Standing T) → Option ℕ → Standing T
ticket_at tickets None = gone
ticket_at tickets (Some k) = or_gone (slice_get tickets k)

-- the ticket at this index is gone
abbrev pub take_back : {T : Type 0} → Option ℕ → State T → State T
take_back None M = M
take_back (Some k) M = put k gone M

abbrev pub poll_at : {T : Type 0} → Option ℕ → Standing T → State T → Emit × State T
poll_at k (waits emitter v) M = (emit.Waiting, M)
poll_at k (stands i) M = if is_done M i then (emit.Done (number M i), take_back k M) else (emit.Waiting, M)
poll_at k gone M = (emit.Gone, M)

unfoldable pub poll_emit : {T : Type 0} → ℕ → State T → Emit × State T
poll_emit n M = poll_at (index M n) (ticket_at M.tickets (index M n)) M

abbrev pub says_done : Emit → Bool
says_done (emit.Done n) = true
says_done emit.Waiting = false
says_done emit.Gone = false

-- whether a poll would answer that the emission is done
abbrev pub would_be_done : {T : Type 0} → ℕ → State T → Bool
would_be_done n M = says_done (poll_emit n M).0

abbrev pub cancel_emit_at : {T : Type 0} → Option ℕ → Standing T → State T → Withdrawn ℕ × State T
cancel_emit_at k (waits emitter v) M = (withdrawn.Removed, take_back k M)
cancel_emit_at k (stands i) M = (withdrawn.Left (number M i), take_back k M)
cancel_emit_at k gone M = (withdrawn.Gone, M)

unfoldable pub cancel_emit : {T : Type 0} → ℕ → State T → Withdrawn ℕ × State T
cancel_emit n M = cancel_emit_at (index M n) (ticket_at M.tickets (index M n)) M

-- ---- subscriptions

-- a subscription with this prelude
unfoldable pub subscribe_with : {T : Type 0} → List T → State T → Result SubId Refusal × State T
subscribe_with prelude M =
    if number M (length M.subscriptions) == number_limit then (Err Spent, M)
    else if live_count M == M.parameters.subscribers then (Err SubscribersFull, M)
    else (Ok (record { 0 = number M (length M.subscriptions) }), open_next prelude M)

-- one without a prelude
abbrev pub subscribe : {T : Type 0} → State T → Result SubId Refusal × State T
subscribe M = subscribe_with [] M

-- a subscription and its index, where it is live
abbrev pub if_live : {T : Type 0} → ℕ → Option (Subscription T) → Option (ℕ × Subscription T)
if_live k None = None
if_live k (Some s) = if s.live then Some (k, s) else None

abbrev pub live_at : {T : Type 0} → List (Subscription T) → Option ℕ → Option (ℕ × Subscription T)
live_at subscriptions None = None
live_at subscriptions (Some k) = if_live k (slice_get subscriptions k)

-- the live subscription with this number, and its index
abbrev pub live_one : {T : Type 0} → State T → ℕ → Option (ℕ × Subscription T)
live_one M n = live_at M.subscriptions (index M n)

-- the first value that is left of the prelude is given; where none is left, the first of the pending values is received
abbrev pub next_of : {T : Type 0} → ℕ → List T → List T → State T → Next T × State T
next_of k [] [] M = (next.Nothing, M)
next_of k [] (v ∷ _) M = (next.Value v, settle (receive k M))
next_of k (v ∷ _) _ M = (next.Value v, greet k M)

abbrev pub next_at : {T : Type 0} → Option (ℕ × Subscription T) → State T → Next T × State T
next_at None M = (next.Closed, M)
next_at (Some (k, s)) M = next_of k (rest s) (pending_values M.accepted s) M

unfoldable pub next_value : {T : Type 0} → ℕ → State T → Next T × State T
next_value n M = next_at (live_one M n) M

abbrev pub cancel_at : {T : Type 0} → Option (ℕ × Subscription T) → State T → Bool × State T
cancel_at None M = (false, M)
cancel_at (Some (k, s)) M = (true, settle (close_at k M))

unfoldable pub cancel : {T : Type 0} → ℕ → State T → Bool × State T
cancel n M = cancel_at (live_one M n) M

abbrev pub pending_count_at : {T : Type 0} → Option (ℕ × Subscription T) → State T → ℕ
pending_count_at None M = 0
pending_count_at (Some (k, s)) M = length (rest s) + length (pending (length M.accepted) s)

unfoldable pub pending_count : {T : Type 0} → ℕ → State T → ℕ
pending_count n M = pending_count_at (live_one M n) M

abbrev pub reset : {T : Type 0} → State T → State T
reset M = record M { reset_at = length M.accepted }

-- ---- lists of calls

pub data Call (T : Type 0) : Type 0 where
  trying : ℕ → T → Call T
  starting : ℕ → T → Call T
  polling : ℕ → Call T
  withdrawing : ℕ → Call T
  subscribing : List T → Call T
  receiving : ℕ → Call T
  cancelling : ℕ → Call T
  resetting : Call T
  counting : Call T

pub data Reply (T : Type 0) : Type 0 where
  to_try : Result (Tried ℕ) Refusal → Reply T
  to_start : Result (Begun ℕ Ticket) Refusal → Reply T
  to_poll : Emit → Reply T
  to_withdraw : Withdrawn ℕ → Reply T
  to_subscribe : Result SubId Refusal → Reply T
  to_receive : Next T → Reply T
  to_cancel : Bool → Reply T
  to_reset : Reply T
  to_count : ℕ → Reply T

-- an answer wrapped as a reply
abbrev pub replied : {T R : Type 0} → (R → Reply T) → R × State T → Reply T × State T
replied wrap answer = (wrap answer.0, answer.1)

abbrev pub step : {T : Type 0} → Call T → State T → Reply T × State T
step (trying emitter v) M = replied to_try (try_emit emitter v M)
step (starting emitter v) M = replied to_start (start_emit emitter v M)
step (polling n) M = replied to_poll (poll_emit n M)
step (withdrawing n) M = replied to_withdraw (cancel_emit n M)
step (subscribing prelude) M = replied to_subscribe (subscribe_with prelude M)
step (receiving n) M = replied to_receive (next_value n M)
step (cancelling n) M = replied to_cancel (cancel n M)
step resetting M = (to_reset, reset M)
step counting M = (to_count (live_count M), M)

-- the replies to a list of calls, and the state after them
abbrev pub replies : {T : Type 0} → List (Call T) → State T → List (Reply T)
replies [] M = []
replies (call ∷ calls) M = (step call M).0 ∷ replies calls (step call M).1

abbrev pub after : {T : Type 0} → List (Call T) → State T → State T
after [] M = M
after (call ∷ calls) M = after calls (step call M).1
