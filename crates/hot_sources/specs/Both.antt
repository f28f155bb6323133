-- What a run over two runs gives, and what those gave meanwhile.
use Rattle.std.specs.Prelude.{◌≡◌, ◌⊎◌, Option, Some, None, MatchOption}
use Rattle.futures.specs.declared.task.Poll.{Poll}
use Rattle.futures.specs.declared.task.Poll.TheVariants.{Ready, Pending}
use Rattle.cold_flow.specs.declared.cause.Cause.{Cause}
use Rattle.cold_flow.specs.declared.event.Event.{Event}
use Rattle.cold_flow.specs.declared.event.Event.TheVariants.{Value, End}
use Rattle.cold_flow.specs.Trace.{Trace}
use Rattle.cold_flow.specs.Poll.{Traces}
use Rattle.hot_sources.specs.Combining.{firsts, seconds}

module _ {A B E : Type 0} where
  -- what one poll of each gives: what is new of either; where nothing is, the end of either, the first's before; else nothing yet
  abbrev pub joined : Poll (Event A E) → Poll (Event B E) → Poll (Event (Option A × Option B) E)
  joined (Ready (Value x)) (Ready (Value y)) = Ready (Value (Some x, Some y))
  joined (Ready (Value x)) (Ready (End j)) = Ready (Value (Some x, None))
  joined (Ready (Value x)) Pending = Ready (Value (Some x, None))
  joined (Ready (End k)) (Ready (Value y)) = Ready (Value (None, Some y))
  joined (Ready (End k)) (Ready (End j)) = Ready (End k)
  joined (Ready (End k)) Pending = Ready (End k)
  joined Pending (Ready (Value y)) = Ready (Value (None, Some y))
  joined Pending (Ready (End j)) = Ready (End j)
  joined Pending Pending = Pending

  -- what two runs may give together: the values of each, and then the end of either
  pub record MayJoin (left : Traces A E) (right : Traces B E) (t : Trace (Option A × Option B) E) : Type 0 where
    pub left_end : Option (Cause E)
    pub right_end : Option (Cause E)
    pub of_left : left (firsts t.0, left_end)
    pub of_right : right (seconds t.0, right_end)
    pub ends : (t.1 ≡ None) ⊎ ((t.1 ≡ left_end) ⊎ (t.1 ≡ right_end))

module _ {L R A B E : Type 0} (left : L → Poll (Event A E) → L → Type 0) (right : R → Poll (Event B E) → R → Type 0) where
  -- each was polled once, and this is what they gave
  abbrev pub PolledEach : L → R → Poll (Event (Option A × Option B) E) → L → R → Type 0
  PolledEach l r answer l2 r2 = (a : Poll (Event A E)) × (b : Poll (Event B E)) × left l a l2 × right r b r2 × (answer ≡ joined a b)

  -- the same; or all had ended, and neither was asked
  abbrev pub PolledBoth : Option (Cause E) → L → R → Poll (Event (Option A × Option B) E) → L → R → Type 0
  PolledBoth ended l r answer l2 r2 =
      MatchOption ended (PolledEach l r answer l2 r2) (λ k. (answer ≡ Ready (End k)) × (l2 ≡ l) × (r2 ≡ r))
