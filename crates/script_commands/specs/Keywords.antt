-- The commands whose keyword has so many letters.
use Rattle.std.specs.Prelude.{ℕ, List, length, filter, ◌==◌}
use Rattle.script_commands.specs.Commands.{Form, forms}

-- the lines of the table whose keyword has so many letters
abbrev pub of_length : ℕ → List Form
of_length letters = filter (λ form. length form.0 == letters) forms
