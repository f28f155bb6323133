-- A failure where no value came for a while.
use Rattle.std.specs.Prelude.{◌≡◌, ◌-◌, ℕ, Bool, true, false, not, IsTrue, Option, Some, None, nat_lt}
use Rattle.futures.specs.declared.task.Poll.{Poll}
use Rattle.futures.specs.declared.task.Poll.TheVariants.{Ready, Pending}
use Rattle.cold_flow.specs.declared.cause.Cause.{Cause}
use Rattle.cold_flow.specs.declared.cause.Cause.TheVariants.{Failed}
use Rattle.cold_flow.specs.declared.event.Event.{Event}
use Rattle.cold_flow.specs.declared.event.Event.TheVariants.{Value, End}
use Rattle.cold_flow.specs.Poll.{Traces}
use Rattle.more_operators.specs.Paced.{Asked}
use Rattle.more_operators.specs.declared.operators.timeout.Expiring.{Expiring}

-- whether no value came for so long
abbrev pub is_late : ℕ → ℕ → ℕ → Bool
is_late limit since now = not (nat_lt (now - since) limit)

module _ {A E S : Type 0} (stopped : S → Bool) where
  -- What a poll makes of the source's answer, and how the source stands then. A value is given, and time runs from now on; an end
  -- passes; where there is neither, and it is late, it fails, and the source is asked no more.
  abbrev pub Passes : ℕ → Bool → Poll (Event A E) → Expiring S E → S → Poll (Event A E) → Expiring S E → Type 0
  Passes now late (Ready (Value x)) old asked result new =
      (result ≡ Ready (Value x)) × (new ≡ record old { source = asked; since = now })
  Passes now late (Ready (End k)) old asked result new =
      (result ≡ Ready (End k)) × (new ≡ record old { source = asked; ended = Some k })
  Passes now false Pending old asked result new = (result ≡ Pending) × (new ≡ record old { source = asked })
  Passes now true Pending old asked result new =
      (result ≡ Ready (End (Failed old.fault))) × (new ≡ record old { source = new.source; ended = Some (Failed old.fault) })
      × IsTrue (stopped new.source)

module _ {A E S : Type 0} (may : S → Traces A E) (ended : S → Option (Cause E)) (prompt : S → Bool) (polled : S → Poll (Event A E) → S → Type 0)
    (stopped : S → Bool) where
  -- What a poll does: it gives the end again, where there was one, and else it asks the source.
  abbrev pub Expires : ℕ → Option (Cause E) → Expiring S E → Poll (Event A E) → Expiring S E → Type 0
  Expires now (Some k) old result new = (result ≡ Ready (End k)) × (new ≡ old)
  Expires now None old result new =
      (answer : Poll (Event A E)) × (asked : S) × Asked may ended prompt polled old.source answer asked
      × Passes stopped now (is_late old.limit old.since now) answer old asked result new
