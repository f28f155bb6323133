-- The word that says whether an emission may have to wait: its keeper alone writes it, and lookers find what the keeper knows.
use Rattle.std.specs.Prelude.{◌≡◌, ℕ, List, [], ◌∷◌, ◌++◌, Bool, true, false, cond}
use mathlib.Core.Option.{some}
use lib.ListN.{get_elem?}
use Rattle.atomic_table.specs.Seated.{TableId}
use Rattle.atomic_table.specs.Table.{State, Me, Step}
use Rattle.shared_rounds.specs.declared.flag.view.FlagLook.{FlagLook}
use Rattle.shared_rounds.specs.declared.flag.view.FlagView.{FlagView}

-- which flag it is, and whether it is up, as its keeper knows it; and how many words the lane's sequencer had loaded as it was raised for
-- the last emission that began to wait
pub record Keeping : Type 0 where
  pub table : TableId
  pub flag : ℕ
  pub raised : ℕ

-- which flag it is, and the looks at it
pub record Looking : Type 0 where
  pub table : TableId
  pub looks : List FlagLook

abbrev pub number_of : Bool → ℕ
number_of up = cond up 1 0

-- a look for a reader that stood there, whose party had made so many rounds
abbrev pub flag_look : ℕ → ℕ → ℕ → FlagLook
flag_look position rounds found = record { position = position; rounds = rounds; found = found }

-- the looker has looked once more
abbrev pub looked_at : ℕ → ℕ → ℕ → Looking → Looking
looked_at position rounds found l = record l { looks = l.looks ++ flag_look position rounds found ∷ [] }

-- the keeper's first view, of a flag that is down
abbrev pub keeper_first : FlagView
keeper_first = record { keeps = true; flag = 0; raised = 0; looks = [] }

-- a looker that has not looked yet
abbrev pub looker_first : FlagView
looker_first = record { keeps = false; flag = 0; raised = 0; looks = [] }

abbrev pub flagged : FlagView → ℕ → FlagView
flagged v n = record v { flag = n }

-- raised for an emission that begins to wait, when the sequencer had loaded so many words
abbrev pub raised_after : ℕ → FlagView → ℕ → FlagView
raised_after loads v n = record v { flag = n; raised = loads }

abbrev pub seen_there : ℕ → ℕ → FlagView → ℕ → FlagView
seen_there position rounds v n = record v { looks = v.looks ++ flag_look position rounds n ∷ [] }

module _ {S : Type 0} where
  -- One seat at most is the keeper's, and it knows the flag
  pub record FlagLaw (s : State S FlagView) : Type 0 where
    pub flag : ℕ
    pub keeper : ℕ
    pub words_are : s.words ≡ flag ∷ []
    pub each : (id : ℕ) (v : FlagView) → get_elem? s.views id ≡ some v → v.keeps ≡ true → (id ≡ keeper) × (v.flag ≡ flag)

  abbrev pub SetFlag : Step S → Me S FlagView → ℕ → Me S FlagView → Type 0
  SetFlag st old found now = now ≡ (flagged old.0 found, old.1)

  abbrev pub RaisedAfter : ℕ → Step S → Me S FlagView → ℕ → Me S FlagView → Type 0
  RaisedAfter loads st old found now = now ≡ (raised_after loads old.0 found, old.1)

  abbrev pub LookedAt : ℕ → ℕ → Step S → Me S FlagView → ℕ → Me S FlagView → Type 0
  LookedAt position rounds st old found now = now ≡ (seen_there position rounds old.0 found, old.1)
