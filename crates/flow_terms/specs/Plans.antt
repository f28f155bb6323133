-- A plan of commands.
use Rattle.std.specs.Prelude.{Bool, ◌&&◌, List, length, take, nat_le}
use Rattle.std.specs.List.{list_all}
use Rattle.flow_terms.specs.declared.plan.Entry.{Entry}
use Rattle.flow_terms.specs.declared.plan.Plan.{Plan}

-- its entries, the one first that is taken first
abbrev pub entries_of : Plan → List Entry
entries_of plan = take plan.count plan.entries

-- some count of subscriptions takes it
abbrev pub is_entry : Entry → Bool
is_entry entry = nat_le entry.low entry.high

-- these entries make a plan
abbrev pub is_plan : List Entry → Bool
is_plan entries = nat_le (length entries) 32 && list_all is_entry entries
