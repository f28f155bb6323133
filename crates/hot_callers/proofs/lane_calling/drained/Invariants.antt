use Rattle.std.proofs.Common.{◌≡◌, ◌++◌, List, ℕ}
use Rattle.std.specs.Prelude.{Option}
use Rattle.shared_lane.specs.Headline.{Lived, given}
use Rattle.shared_lane.specs.Readers.{IsReaderOf}
use Rattle.hot_callers.proofs.lane_calling.drained.Given as goal

abbrev pub invariant-loop-turn : goal.invariant-loop-turn
invariant-loop-turn g l = IsReaderOf l.fn.lane l.reader × ((calls : List (Option ℕ)) × Lived l.initial.reader calls l.reader × (l.values.items ≡ l.initial.values.items ++ given calls))
