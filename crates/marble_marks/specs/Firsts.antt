-- What is noted of names first.
use Rattle.std.specs.Prelude.{ℕ, List, Bool, true, false, Option, Some, None, bytes_eq}
use Rattle.std.specs.HashMap.{get_by}
use Rattle.marble_marks.specs.declared.firsts.Firsts.{Firsts}

-- the number that was noted of the name of these bytes
abbrev pub noted_of : Firsts → List ℕ → Option ℕ
noted_of firsts name = get_by (λ key. bytes_eq name key.now) firsts.noted

-- what is noted of a name, where it was this, once a number was noted, of it or of another
abbrev pub first : Option ℕ → Bool → ℕ → Option ℕ
first (Some noted) is_its number = Some noted
first None true number = Some number
first None false number = None

-- what was noted, or else this
abbrev pub or_later : Option ℕ → Option ℕ → Option ℕ
or_later (Some noted) later = Some noted
or_later None later = later
