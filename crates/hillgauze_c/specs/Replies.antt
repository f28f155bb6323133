-- What C is answered: each answer of the library as a reply of three numbers.
use Rattle.std.specs.Prelude.{ℕ, Bool, true, false, Option, Some, None, Result, Ok, Err}
use Rattle.flow_terms.specs.declared.answers.Tried.{Tried}
use Rattle.flow_terms.specs.declared.answers.Tried.TheVariants as tried
use Rattle.flow_terms.specs.declared.answers.Begun.{Begun}
use Rattle.flow_terms.specs.declared.answers.Begun.TheVariants as begun
use Rattle.flow_terms.specs.declared.answers.Emit.{Emit}
use Rattle.flow_terms.specs.declared.answers.Emit.TheVariants as emit
use Rattle.flow_terms.specs.declared.answers.Withdrawn.{Withdrawn}
use Rattle.flow_terms.specs.declared.answers.Withdrawn.TheVariants as withdrawn
use Rattle.flow_terms.specs.declared.answers.Next.{Next}
use Rattle.flow_terms.specs.declared.answers.Next.TheVariants as next
use Rattle.flow_terms.specs.declared.ids.SubId.{SubId}
use Rattle.flow_terms.specs.declared.ids.Ticket.{Ticket}
use Rattle.flow_terms.specs.declared.refusal.Refusal.{Refusal}
use Rattle.flow_terms.specs.Refusals.{number_of}
use Rattle.shared_lane.specs.declared.reader.Taken.{Taken}
use Rattle.shared_lane.specs.declared.reader.Taken.TheVariants as taken
use Rattle.hillgauze_c.specs.declared.reply.Reply.{Reply}

abbrev pub refused_as : ℕ → Reply
refused_as refusal = record { refusal = refusal; kind = 0; word = 0 }

abbrev pub answered : ℕ → ℕ → Reply
answered kind word = record { refusal = 0; kind = kind; word = word }

abbrev pub refusal_reply : Refusal → Reply
refusal_reply refusal = refused_as (number_of refusal)

-- whether there was memory
abbrev pub made_reply : Bool → Reply
made_reply true = answered 1 0
made_reply false = refused_as 4

abbrev pub tried_reply : Result (Tried ℕ) Refusal → Reply
tried_reply (Ok (tried.Accepted number)) = answered 2 number
tried_reply (Ok tried.Dropped) = answered 3 0
tried_reply (Ok tried.Full) = answered 4 0
tried_reply (Err refusal) = refusal_reply refusal

abbrev pub begun_reply : Result (Begun ℕ Ticket) Refusal → Reply
begun_reply (Ok (begun.Accepted number)) = answered 2 number
begun_reply (Ok begun.Dropped) = answered 3 0
begun_reply (Ok (begun.Waiting ticket)) = answered 5 ticket.0
begun_reply (Err refusal) = refusal_reply refusal

abbrev pub emit_reply : Emit → Reply
emit_reply (emit.Done number) = answered 1 number
emit_reply emit.Waiting = answered 5 0
emit_reply emit.Gone = answered 8 0

abbrev pub withdrawn_reply : Withdrawn ℕ → Reply
withdrawn_reply withdrawn.Removed = answered 6 0
withdrawn_reply (withdrawn.Left number) = answered 7 number
withdrawn_reply withdrawn.Gone = answered 8 0

abbrev pub subscribed_reply : Result SubId Refusal → Reply
subscribed_reply (Ok subscription) = answered 1 subscription.0
subscribed_reply (Err refusal) = refusal_reply refusal

abbrev pub next_reply : Next ℕ → Reply
next_reply (next.Value value) = answered 9 value
next_reply next.Nothing = answered 10 0
next_reply next.Closed = answered 12 0

abbrev pub taken_reply : Taken ℕ → Reply
taken_reply (taken.Value value) = answered 9 value
taken_reply taken.Nothing = answered 10 0
taken_reply taken.Overtaken = answered 11 0

abbrev pub value_reply : Option ℕ → Reply
value_reply (Some value) = answered 9 value
value_reply None = answered 10 0

-- whether the subscription was live
abbrev pub ended_reply : Bool → Reply
ended_reply true = answered 1 0
ended_reply false = answered 12 0

-- how many tries in a row were accepted, or receipts in a row gave a value
abbrev pub tries_reply : Result ℕ Refusal → Reply
tries_reply (Ok count) = answered 13 count
tries_reply (Err refusal) = refusal_reply refusal

abbrev pub receipts_reply : Next ℕ → Reply
receipts_reply (next.Value count) = answered 13 count
receipts_reply next.Nothing = answered 10 0
receipts_reply next.Closed = answered 12 0

abbrev pub takes_reply : Taken ℕ → Reply
takes_reply (taken.Value count) = answered 13 count
takes_reply taken.Nothing = answered 10 0
takes_reply taken.Overtaken = answered 11 0

-- whether the value was the one that was expected
abbrev pub compared_reply : Bool → Reply
compared_reply true = answered 1 0
compared_reply false = answered 14 0
