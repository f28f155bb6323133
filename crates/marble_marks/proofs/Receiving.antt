-- The marks of lines show each value that was received, and none besides.
use Rattle.std.proofs.Common.{◌≡◌, ◌+◌, ◌==◌, ◌++◌, ◌∙◌, sym, ℕ, Bool, true, false, if◌then◌else◌, List, [], ◌∷◌, Option, Some, None, refl, ap, map, length}
use Rattle.std.specs.Option.{option_map, option_to_list}
use Rattle.std.specs.List.{filter_map, flat_map, cons_option, slice_get}
use Rattle.std.proofs.lemmas.List.{append-nil}
use Rattle.std.proofs.lemmas.List.Elements.{filter_map-append}
use Rattle.script_commands.specs.declared.request.Request.{Request}
use Rattle.script_commands.specs.declared.request.Request.TheVariants as requested
use Rattle.script_commands.specs.Commands.{Order, Made, Joining}
use Rattle.script_commands.specs.Commands as commands
use Rattle.marble_marks.specs.declared.mark.Kind.{Kind}
use Rattle.marble_marks.specs.declared.mark.Kind.TheVariants as kinds
use Rattle.marble_marks.specs.declared.mark.Row.{Row}
use Rattle.marble_marks.specs.declared.reply.Reply.{Reply}
use Rattle.marble_marks.specs.declared.reply.Reply.TheVariants as replies
use Rattle.marble_marks.specs.declared.loss.Loss.{Loss}
use Rattle.marble_marks.specs.Deeds.{Doing, Done, done_by}
use Rattle.marble_marks.specs.declared.moves.Move.{Move}
use Rattle.marble_marks.specs.declared.standing.Step.{Step}
use Rattle.marble_marks.specs.declared.standing.Step.TheVariants as steps
use Rattle.marble_marks.specs.Standings.{Stand, begun, stepped, accepted_later_values}
use Rattle.marble_marks.specs.Moves.{moves_on}
use Rattle.marble_marks.specs.Numbers.{at_once, late_marks, all_late, move_marks, moved, moves_seen, numbered_on, numbers_of}
use Rattle.marble_marks.specs.Losses.{host_met, guest_met, value_met, lost_mark, lost_at, lost_by, loss_mark, losses_of}
use Rattle.marble_marks.specs.Replies.{reply_of}
use Rattle.marble_marks.specs.AnsweredLines.{Asked}
use Rattle.marble_marks.specs.Happenings.{Event, event, if_made, emits, joins, asks, said, next_kind, ticket_kind, value_kind, try_kind, cancel_kind, set_kind, compare_kind, tick_kind}
use Rattle.marble_marks.specs.Homes.{name_by, home_after}
use Rattle.marble_marks.specs.Preludes.{kind_by, left_after}
use Rattle.marble_marks.specs.Marks.{Seen, seen, marks_at, marks_from, marks_on, marks_of, row_marks, label_marks, line_kind, shown, shown_by, names_in, row_of}
use Rattle.marble_marks.specs.Receivings.{Receipt, receipt, receipt_in, receipts_in, receipt_at, receipt_by, receipts_of, value_said}

-- the marks of what is shown by a line alone: on the row of its name, a value of a prelude as any other
abbrev plain_marks : List (List ℕ) → ℕ → List ℕ → Option Event → List Seen
plain_marks names column answer None = []
plain_marks names column answer (Some event) =
    seen column (row_of names event.name) event.kind answer ∷ label_marks (row_of names event.name) event.name event.kind

-- the receipts among these
abbrev received : List (List ℕ) → ℕ → List ℕ → Option Event → List Receipt
received names column answer shown = receipts_in (plain_marks names column answer shown)

-- a value of a prelude is a receipt as any other
any_counted : (is_past : Bool) (column row value : ℕ) (answer : List ℕ) →
    receipts_in (seen column row (if is_past then kinds.Received value else kinds.FromPrelude value) answer ∷ []) ≡ receipt column row value answer ∷ []
any_counted true column row value answer = refl
any_counted false column row value answer = refl

kind_counted : (names : List (List ℕ)) (home : Option (List ℕ)) (left column : ℕ) (answer name : List ℕ) (kind : Kind) →
    receipts_in (seen column (row_of names (name_by home name kind)) (kind_by left kind) answer ∷ label_marks (row_of names (name_by home name kind)) name kind)
    ≡ received names column answer (Some (event name kind))
kind_counted names home left column answer name (kinds.Received value) = any_counted (left == 0) column (row_of names name) value answer
kind_counted names home left column answer name kinds.Gone = refl
kind_counted names home left column answer name _ = refl

-- what was told before changes no receipt
shown_counted : (names : List (List ℕ)) (home : List ℕ → Option (List ℕ)) (left : List ℕ → ℕ) (column : ℕ) (answer : List ℕ) (shown : Option Event) →
    receipts_in (row_marks names home left column answer shown) ≡ received names column answer shown
shown_counted names home left column answer None = refl
shown_counted names home left column answer (Some event) = kind_counted names (home event.name) (left event.name) column answer event.name event.kind

abbrev wanted : List (List ℕ) → ℕ → List ℕ → Option Order → Reply → List Receipt
wanted names column answer order reply = option_to_list (receipt_by names column answer order reply)

none_made : (names : List (List ℕ)) (column : ℕ) (answer name : List ℕ) (reply : Reply) (row : Row) → received names column answer (if_made reply (event name (kinds.Begun row))) ≡ []
none_made names column answer name replies.Ok row = refl
none_made names column answer name _ row = refl

none_emitted : (names : List (List ℕ)) (column : ℕ) (answer host name : List ℕ) (value : ℕ) (reply : Reply) → received names column answer (emits host name value reply) ≡ []
none_emitted names column answer host name value replies.Accepted = refl
none_emitted names column answer host name value replies.Dropped = refl
none_emitted names column answer host name value replies.Waiting = refl
none_emitted names column answer host name value _ = refl

none_joined : (names : List (List ℕ)) (column : ℕ) (answer host name : List ℕ) (joiner : Joining) (reply : Reply) → received names column answer (joins host name joiner reply) ≡ []
none_joined names column answer host name (commands.subscription prelude) reply = none_made names column answer name reply _
none_joined names column answer host name commands.collector reply = none_made names column answer name reply _
none_joined names column answer host name (commands.emission value) reply = none_emitted names column answer host name value reply

-- what a kind that a name's line shows counts for
abbrev counted : List (List ℕ) → ℕ → List ℕ → List ℕ → Option Kind → List Receipt
counted names column answer name kind = received names column answer (option_map (λ k. event name k) kind)

none_said : (names : List (List ℕ)) (column : ℕ) (answer name : List ℕ) (reply : Reply) → counted names column answer name (said reply) ≡ []
none_said names column answer name (replies.Bad reason) = refl
none_said names column answer name _ = refl

next_counted : (names : List (List ℕ)) (column : ℕ) (answer name : List ℕ) (reply : Reply) →
    counted names column answer name (next_kind reply) ≡ option_to_list (option_map (λ value. receipt column (row_of names name) value answer) (value_said reply))
next_counted names column answer name (replies.Value value) = refl
next_counted names column answer name replies.Pending = refl
next_counted names column answer name (replies.Bad reason) = refl
next_counted names column answer name _ = refl

none_ticket : (names : List (List ℕ)) (column : ℕ) (answer name : List ℕ) (reply : Reply) → counted names column answer name (ticket_kind reply) ≡ []
none_ticket names column answer name replies.Waiting = refl
none_ticket names column answer name replies.Done = refl
none_ticket names column answer name replies.Removed = refl
none_ticket names column answer name replies.Left = refl
none_ticket names column answer name replies.Gone = refl
none_ticket names column answer name _ = refl

none_held : (names : List (List ℕ)) (column : ℕ) (answer name : List ℕ) (reply : Reply) → counted names column answer name (value_kind reply) ≡ []
none_held names column answer name (replies.Value value) = refl
none_held names column answer name (replies.Bad reason) = refl
none_held names column answer name _ = refl

none_tried : (names : List (List ℕ)) (column : ℕ) (answer name : List ℕ) (value : ℕ) (reply : Reply) → counted names column answer name (try_kind value reply) ≡ []
none_tried names column answer name value replies.Accepted = refl
none_tried names column answer name value replies.Dropped = refl
none_tried names column answer name value replies.Full = refl
none_tried names column answer name value (replies.Bad reason) = refl
none_tried names column answer name value _ = refl

none_cancelled : (names : List (List ℕ)) (column : ℕ) (answer name : List ℕ) (reply : Reply) → counted names column answer name (cancel_kind reply) ≡ []
none_cancelled names column answer name replies.Ok = refl
none_cancelled names column answer name (replies.Bad reason) = refl
none_cancelled names column answer name _ = refl

none_set : (names : List (List ℕ)) (column : ℕ) (answer name : List ℕ) (value : ℕ) (reply : Reply) → counted names column answer name (set_kind value reply) ≡ []
none_set names column answer name value replies.Ok = refl
none_set names column answer name value (replies.Bad reason) = refl
none_set names column answer name value _ = refl

none_compared : (names : List (List ℕ)) (column : ℕ) (answer name : List ℕ) (value : ℕ) (reply : Reply) → counted names column answer name (compare_kind value reply) ≡ []
none_compared names column answer name value replies.True = refl
none_compared names column answer name value (replies.Bad reason) = refl
none_compared names column answer name value _ = refl

none_ticked : (names : List (List ℕ)) (column : ℕ) (answer name : List ℕ) (reply : Reply) → counted names column answer name (tick_kind reply) ≡ []
none_ticked names column answer name replies.On = refl
none_ticked names column answer name replies.Failed = refl
none_ticked names column answer name (replies.Bad reason) = refl
none_ticked names column answer name _ = refl

asked_counted : (names : List (List ℕ)) (column : ℕ) (answer name : List ℕ) (request : Request) (reply : Reply) →
    counted names column answer name (asks request reply) ≡ wanted names column answer (Some (commands.ask name request)) reply
asked_counted names column answer name requested.Next reply = next_counted names column answer name reply
asked_counted names column answer name requested.Cancel reply = none_cancelled names column answer name reply
asked_counted names column answer name requested.Count reply = none_said names column answer name reply
asked_counted names column answer name requested.Cache reply = none_said names column answer name reply
asked_counted names column answer name requested.Reset reply = none_said names column answer name reply
asked_counted names column answer name requested.Fill reply = none_said names column answer name reply
asked_counted names column answer name requested.Poll reply = none_ticket names column answer name reply
asked_counted names column answer name requested.Withdraw reply = none_ticket names column answer name reply
asked_counted names column answer name requested.Value reply = none_held names column answer name reply
asked_counted names column answer name (requested.Try value) reply = none_tried names column answer name value reply
asked_counted names column answer name (requested.Set value) reply = none_set names column answer name value reply
asked_counted names column answer name (requested.CompareAndSet expect value) reply = none_compared names column answer name value reply
asked_counted names column answer name (requested.Tick moment) reply = none_ticked names column answer name reply

order_counted : (names : List (List ℕ)) (column : ℕ) (answer : List ℕ) (order : Option Order) (reply : Reply) →
    received names column answer (shown_by order reply) ≡ wanted names column answer order reply
order_counted names column answer None reply = refl
order_counted names column answer (Some (commands.make name made)) reply = none_made names column answer name reply _
order_counted names column answer (Some (commands.join host name joiner)) reply = none_joined names column answer host name joiner reply
order_counted names column answer (Some (commands.ask name request)) reply = asked_counted names column answer name request reply
order_counted names column answer (Some (commands.cold pipe)) reply = refl

no_line : (column number : ℕ) (line : List ℕ) (reply : Reply) (rest : List Seen) → receipts_in (seen column 0 (line_kind number reply) line ∷ rest) ≡ receipts_in rest
no_line column number line (replies.Bad reason) rest = refl
no_line column number line _ rest = refl

line_counted : (names : List (List ℕ)) (home : List ℕ → Option (List ℕ)) (left : List ℕ → ℕ) (asked : Asked) →
    receipts_in (marks_at names home left asked) ≡ option_to_list (receipt_at names asked)
line_counted names home left asked =
    no_line asked.column asked.number asked.line (reply_of asked.answer) (row_marks names home left asked.column asked.text (shown asked))
    ∙ shown_counted names home left asked.column asked.text (shown asked)
    ∙ order_counted names asked.column asked.text asked.order (reply_of asked.answer)

onto : {Y : Type 0} (found : Option Y) (ys : List Y) → cons_option found ys ≡ option_to_list found ++ ys
onto None ys = refl
onto (Some y) ys = refl

lines_counted : (names : List (List ℕ)) (home : List ℕ → Option (List ℕ)) (left : List ℕ → ℕ) (asked : List Asked) →
    receipts_in (marks_from names home left asked) ≡ filter_map (receipt_at names) asked
lines_counted names home left [] = refl
lines_counted names home left (one ∷ rest) =
    let home_then : List ℕ → Option (List ℕ) = λ name. home_after (home name) name one in
    let left_then : List ℕ → ℕ = λ name. left_after (left name) name (shown one) one in
    filter_map-append receipt_in (marks_at names home left one) (marks_from names home_then left_then rest)
    ∙ ap (λ front. front ++ receipts_in (marks_from names home_then left_then rest)) (line_counted names home left one)
    ∙ ap (λ back. option_to_list (receipt_at names one) ++ back) (lines_counted names home_then left_then rest)
    ∙ sym (onto (receipt_at names one) (filter_map (receipt_at names) rest))

-- WHAT THE MARKS SHOW AS RECEIVED is what was received
pub marks_counted : (asked : List Asked) → receipts_in (marks_of asked) ≡ receipts_of asked
unfolding marks_on
marks_counted asked = lines_counted (names_in asked) (λ name. None) (λ name. 0) asked

-- ---- what is told besides

none_late : (column row first index count : ℕ) (values : List ℕ) → receipts_in (late_marks column row first index count values) ≡ []
none_late column row first index count [] = refl
none_late column row first index count (value ∷ values) = none_late column row first (index + 1) count values

none_at_once : (column row number : ℕ) (step : Step) → receipts_in (at_once column row number step) ≡ []
none_at_once column row number steps.Accepted = refl
none_at_once column row number _ = refl

both_none : (front back : List Seen) → receipts_in front ≡ [] → receipts_in back ≡ [] → receipts_in (front ++ back) ≡ []
both_none front back none_front none_back =
    filter_map-append receipt_in front back ∙ ap (λ rs. rs ++ receipts_in back) none_front ∙ none_back

none_moved : (row : ℕ) (stand : Stand) (it : Move) → receipts_in (move_marks row stand it) ≡ []
none_moved row stand it =
    let after = stepped it.step stand in
    both_none (at_once it.column row stand.accepted it.step) (all_late it.column row after.accepted (accepted_later_values after))
    (none_at_once it.column row stand.accepted it.step) (none_late it.column row after.accepted 0 (length (accepted_later_values after)) (accepted_later_values after))

none_moves : (row : ℕ) (stand : Stand) (moves : List Move) → receipts_in (moves_seen row stand moves) ≡ []
none_moves row stand [] = refl
none_moves row stand (it ∷ rest) =
    both_none (move_marks row stand it) (moves_seen row (moved stand it) rest) (none_moved row stand it) (none_moves row (moved stand it) rest)

none_numbered : (known : List (List ℕ)) (all : List Done) (names : List (List ℕ)) → receipts_in (flat_map (numbered_on known all) names) ≡ []
none_numbered known all [] = refl
none_numbered known all (name ∷ names) =
    both_none (numbered_on known all name) (flat_map (numbered_on known all) names)
    (none_moves (row_of known name) begun (moves_on known all (row_of known name) all)) (none_numbered known all names)

none_lost_mark : (names : List (List ℕ)) (column : ℕ) (guest : Option (List ℕ)) (value : Option ℕ) (rest : List Seen) → receipts_in (cons_option (lost_mark names column guest value) rest) ≡ receipts_in rest
none_lost_mark names column None value rest = refl
none_lost_mark names column (Some guest) None rest = refl
none_lost_mark names column (Some guest) (Some value) rest = refl

none_lost_at : (names : List (List ℕ)) (column : ℕ) (host : Option (List ℕ)) (joined brought : Doing) (rest : List Seen) → receipts_in (cons_option (lost_at names column host joined brought) rest) ≡ receipts_in rest
none_lost_at names column None joined brought rest = refl
none_lost_at names column (Some host) joined brought rest = none_lost_mark names column (guest_met host joined) (value_met host brought) rest

none_lost_by : (names : List (List ℕ)) (line joined brought : Option Done) (rest : List Seen) → receipts_in (cons_option (lost_by names line joined brought) rest) ≡ receipts_in rest
none_lost_by names (Some line) (Some joined) (Some brought) rest = none_lost_at names line.column (host_met line.doing) joined.doing brought.doing rest
none_lost_by names (Some line) (Some joined) None rest = refl
none_lost_by names (Some line) None brought rest = refl
none_lost_by names None joined brought rest = refl

none_lost : (names : List (List ℕ)) (acts : List Done) (losses : List Loss) → receipts_in (filter_map (loss_mark names acts) losses) ≡ []
none_lost names acts [] = refl
none_lost names acts (loss ∷ losses) =
    none_lost_by names (slice_get acts loss.line) (slice_get acts loss.joined) (slice_get acts loss.brought) (filter_map (loss_mark names acts) losses)
    ∙ none_lost names acts losses

-- WHAT ALL MARKS SHOW AS RECEIVED is what was received
pub all_counted : (asked : List Asked) (losses : List Loss) → receipts_in ((marks_of asked ++ numbers_of asked) ++ losses_of asked losses) ≡ receipts_of asked
all_counted asked losses =
    filter_map-append receipt_in (marks_of asked ++ numbers_of asked) (losses_of asked losses)
    ∙ ap (λ back. receipts_in (marks_of asked ++ numbers_of asked) ++ back) (none_lost (names_in asked) (map done_by asked) losses)
    ∙ append-nil (receipts_in (marks_of asked ++ numbers_of asked))
    ∙ filter_map-append receipt_in (marks_of asked) (numbers_of asked)
    ∙ ap (λ back. receipts_in (marks_of asked) ++ back) (none_numbered (names_in asked) (map done_by asked) (names_in asked))
    ∙ append-nil (receipts_in (marks_of asked))
    ∙ marks_counted asked
