-- Values whose key differs from that of the one directly before them.
use Rattle.std.specs.Prelude.{Bool, List, [], ◌∷◌, Option, Some, None, if◌then◌else◌}
use Rattle.std.specs.List.{cons_option}

-- x, unless its key equals the one before
abbrev pub differing_by : {A K : Type 0} → (K → K → Bool) → (A → K) → Option K → A → Option A
differing_by eq key None x = Some x
differing_by eq key (Some before) x = if eq before (key x) then None else Some x

abbrev pub distinct_by_after : {A K : Type 0} → (K → K → Bool) → (A → K) → Option K → List A → List A
distinct_by_after eq key before [] = []
distinct_by_after eq key before (x ∷ xs) = cons_option (differing_by eq key before x) (distinct_by_after eq key (Some (key x)) xs)
