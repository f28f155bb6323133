-- What several crates say of lists.
use Rattle.std.specs.Prelude.{◌≡◌, Option, Some, None, List, [], ◌∷◌, ◌++◌}

-- a list begins with this one
abbrev pub IsPrefix : {A : Type 0} → List A → List A → Type 0
IsPrefix {A} front xs = (rest : List A) × (xs ≡ front ++ rest)

-- the value in an answer, if there is one, as a list
abbrev pub some_of : {T : Type 0} → Option T → List T
some_of (Some x) = x ∷ []
some_of None = []
