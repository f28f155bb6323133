-- What a source gives that never ends of itself.
use Rattle.std.specs.Prelude.{◌≡◌, List, None}
use Rattle.cold_flow.specs.Trace.{Trace, ended_by}
use Rattle.cold_flow.specs.declared.cause.Cause.TheVariants.{Cancelled}

module _ {A E : Type 0} where
  -- any values, and no end
  abbrev pub IsOpen : Trace A E → Type 0
  IsOpen t = t.1 ≡ None

  pub open-uncancelled : (xs : List A) → IsOpen (ended_by xs Cancelled) → ⊥
  open-uncancelled xs h = absurd (cc)
