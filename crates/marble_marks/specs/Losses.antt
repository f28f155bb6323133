-- Values that made way before they were taken: which lines such a mark comes from. That every such value has its mark, and
-- that it was the oldest, is said here by nothing.
use Rattle.std.specs.Prelude.{ℕ, List, [], map, Option, Some, None, bytes_eq, if◌then◌else◌}
use Rattle.std.specs.List.{filter_map, slice_get}
use Rattle.marble_marks.specs.declared.loss.Loss.{Loss}
use Rattle.marble_marks.specs.declared.mark.Kind.TheVariants as kinds
use Rattle.marble_marks.specs.AnsweredLines.{Asked}
use Rattle.marble_marks.specs.Marks.{Seen, seen, names_in, row_of}
use Rattle.marble_marks.specs.Deeds.{Doing, Done, done_by}
use Rattle.marble_marks.specs.Deeds as deeds

-- the flow or state that a line brings a value to
abbrev pub host_met : Doing → Option (List ℕ)
host_met (deeds.accepts host value) = Some host
host_met (deeds.sets host value) = Some host
host_met _ = None

-- the guest that a line lets join, if it joins this flow or state
abbrev pub guest_met : List ℕ → Doing → Option (List ℕ)
guest_met host (deeds.joins at guest prelude) = if bytes_eq at host then Some guest else None
guest_met host _ = None

-- the value that a line brings to this flow or state, or that it begins with
abbrev pub value_met : List ℕ → Doing → Option ℕ
value_met host (deeds.accepts at value) = if bytes_eq at host then Some value else None
value_met host (deeds.sets at value) = if bytes_eq at host then Some value else None
value_met host (deeds.begins at value) = if bytes_eq at host then Some value else None
value_met host _ = None

abbrev pub lost_mark : List (List ℕ) → ℕ → Option (List ℕ) → Option ℕ → Option Seen
lost_mark names column None value = None
lost_mark names column (Some guest) None = None
lost_mark names column (Some guest) (Some value) = Some (seen column (row_of names guest) (kinds.Lost value) [])

abbrev pub lost_at : List (List ℕ) → ℕ → Option (List ℕ) → Doing → Doing → Option Seen
lost_at names column None joined brought = None
lost_at names column (Some host) joined brought = lost_mark names column (guest_met host joined) (value_met host brought)

-- By a line a value came to a flow or a state, which a guest had joined by another line; the guest lost there what a third
-- line had brought to the same flow or state.
abbrev pub lost_by : List (List ℕ) → Option Done → Option Done → Option Done → Option Seen
lost_by names (Some line) (Some joined) (Some brought) = lost_at names line.column (host_met line.doing) joined.doing brought.doing
lost_by names _ _ _ = None

abbrev pub loss_mark : List (List ℕ) → List Done → Loss → Option Seen
loss_mark names acts loss = lost_by names (slice_get acts loss.line) (slice_get acts loss.joined) (slice_get acts loss.brought)

-- THE MARKS OF THESE LOSSES, each by the lines that it names
abbrev pub losses_of : List Asked → List Loss → List Seen
losses_of asked losses = filter_map (loss_mark (names_in asked) (map done_by asked)) losses
