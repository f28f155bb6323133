-- What contracts see of a greeting.
use Rattle.std.specs.Prelude.{ℕ, ◌<◌, List, length}
use Rattle.shared_core.specs.declared.greetings.Greeting.{Greeting}

-- the number of its subscription, and the values left
abbrev pub shown_greeting : {T : Type 0} → Greeting T → ℕ × List T
shown_greeting greeting = (greeting.number, greeting.rest.left)

-- some value is left
abbrev pub IsLeft : {T : Type 0} → Greeting T → Type 0
IsLeft greeting = 0 < length greeting.rest.left
