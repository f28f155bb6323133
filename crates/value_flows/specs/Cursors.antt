-- Where the subscriptions of a flow stand: each place has the number of its subscription's next value, or is free.
use Rattle.std.specs.Prelude.{ℕ, ◌-◌, ◌<◌, ◌≤◌, Option, Some, None}

-- fewer values are pending there than so many, where the next emission has this number
abbrev pub HasRoom : ℕ → ℕ → Option ℕ → Type 0
HasRoom next places None = Unit {0}
HasRoom next places (Some cursor) = next - cursor < places

-- no more than so many
abbrev pub Reaches : ℕ → ℕ → Option ℕ → Type 0
Reaches next places None = Unit {0}
Reaches next places (Some cursor) = next - cursor ≤ places
