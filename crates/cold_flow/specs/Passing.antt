-- What an operator that sifts passes on.
use Rattle.std.specs.Prelude.{◌≡◌, ◌⊎◌, List, [], ◌∷◌, ◌++◌}
use Rattle.futures.specs.declared.task.Poll.{Poll}
use Rattle.futures.specs.declared.task.Poll.TheVariants.{Ready, Pending}
use Rattle.cold_flow.specs.declared.event.Event.{Event}
use Rattle.cold_flow.specs.declared.event.Event.TheVariants.{Value, End}
use Rattle.cold_flow.specs.Polled.{Gave, Pauses}

-- the value that a poll gave, if it gave one
abbrev pub given_by : {B E : Type 0} → Poll (Event B E) → List B
given_by (Ready (Value y)) = y ∷ []
given_by (Ready (End k)) = []
given_by Pending = []

module _ {R A B E : Type 0} (polled : R → Poll (Event A E) → R → Type 0) where
  -- The source was polled, and gave these values. With an end its last poll gave that end, or it had ended before and was asked nothing.
  -- Where the operator pends, the source's last poll did, or they are 64.
  abbrev pub GaveFor : R → List A → Poll (Event B E) → R → Type 0
  GaveFor old xs (Ready (Value y)) new = Gave polled old xs new
  GaveFor old xs (Ready (End k)) new = ((mid : R) × Gave polled old xs mid × polled mid (Ready (End k)) new) ⊎ ((xs ≡ []) × (new ≡ old))
  GaveFor old xs Pending new = Pauses polled old xs new

module _ {R A B E M : Type 0} (polled : R → Poll (Event A E) → R → Type 0) (passes : M → List A → List B) where
  -- The source gave some values, and what passes of them is what the poll gave: so of whatever comes behind them passes what passes still.
  pub record PassesOn (m : M) (old : R) (answer : Poll (Event B E)) (n : M) (new : R) : Type 0 where
    pub xs : List A
    pub gave : GaveFor polled old xs answer new
    pub passed : (rest : List A) → passes m (xs ++ rest) ≡ given_by answer ++ passes n rest

-- in many polls the source gave xs, and the operator ys
abbrev pub PassesAll : {A B M : Type 0} → (M → List A → List B) → M → List A → List B → M → Type 0
PassesAll {A} passes m xs ys n = (rest : List A) → passes m (xs ++ rest) ≡ ys ++ passes n rest
