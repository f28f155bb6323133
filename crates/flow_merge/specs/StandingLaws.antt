-- Laws of runs that stand side by side.
use Rattle.std.specs.Prelude.{◌≡◌, ℕ, ◌<◌, List, [], ◌∷◌, ◌++◌, length, Some, refl, slice_get, slice_set}
use Rattle.std.proofs.Common.{zero, suc, ap, subst, arith}
use Rattle.std.specs.List.{AllZip, insert, remove}
use Rattle.cold_flow.specs.declared.cause.Cause.{Cause}
use Rattle.cold_flow.specs.Trace.{Trace, ended_by, led_by}
use Rattle.cold_flow.specs.Poll.{Traces, After, Within, Narrows}
use Rattle.futures.specs.declared.task.Poll.{Poll}
use Rattle.futures.specs.declared.task.Poll.TheVariants.{Ready, Pending}
use Rattle.cold_flow.specs.declared.event.Event.{Event}
use Rattle.cold_flow.specs.declared.event.Event.TheVariants.{Value, End}
use Rattle.flow_merge.specs.Standing.{Gave, Ended, Answered}

module _ {B E R : Type 0} (may : R → Traces B E) where
  pub stand_gave : (at : ℕ) (runs : List R) (r s : R) (v : B) → slice_get runs at ≡ Some r → After (may r) v (may s)
      → (traces : List (Trace B E)) → AllZip may (slice_set runs at s) traces → Gave may runs at v traces
  stand_gave at [] r s v is after traces all = absurd (cc)
  stand_gave zero (x ∷ runs) r s v is after [] all = absurd all
  stand_gave zero (x ∷ runs) r s v is after (t ∷ traces) all =
      let same : r ≡ x = cc in
      record {
        before = led_by v t ∷ traces;
        rest = t;
        stand = (subst (λ (y : R). may y (led_by v t)) same (after t all.0), all.1);
        first = refl;
        left = refl;
      }
  stand_gave (suc at) (x ∷ runs) r s v is after [] all = absurd all
  stand_gave (suc at) (x ∷ runs) r s v is after (t ∷ traces) all =
      let g = stand_gave at runs r s v is after traces all.1 in
      record {
        before = t ∷ g.before;
        rest = g.rest;
        stand = (all.0, g.stand);
        first = g.first;
        left = ap (λ (ts : List (Trace B E)). t ∷ ts) g.left;
      }

  pub stand_ended : (at : ℕ) (runs : List R) (r : R) (k : Cause E) → slice_get runs at ≡ Some r → may r (ended_by [] k)
      → (traces : List (Trace B E)) → AllZip may (remove runs at) traces → Ended may runs at k traces
  stand_ended at [] r k is came traces all = absurd (cc)
  stand_ended zero (x ∷ runs) r k is came traces all =
      let same : r ≡ x = cc in
      record {
        before = ended_by [] k ∷ traces;
        stand = (subst (λ (y : R). may y (ended_by [] k)) same came, all);
        first = refl;
        left = refl;
      }
  stand_ended (suc at) (x ∷ runs) r k is came [] all = absurd all
  stand_ended (suc at) (x ∷ runs) r k is came (t ∷ traces) all =
      let g = stand_ended at runs r k is came traces all.1 in
      record {
        before = t ∷ g.before;
        stand = (all.0, g.stand);
        first = g.first;
        left = ap (λ (ts : List (Trace B E)). t ∷ ts) g.left;
      }

  pub stand_waits : (at : ℕ) (runs : List R) (r s : R) → slice_get runs at ≡ Some r → Within (may r) (may s)
      → (traces : List (Trace B E)) → AllZip may (slice_set runs at s) traces → AllZip may runs traces
  stand_waits at [] r s is within traces all = absurd (cc)
  stand_waits zero (x ∷ runs) r s is within [] all = all
  stand_waits zero (x ∷ runs) r s is within (t ∷ traces) all =
      let same : r ≡ x = cc in (subst (λ (y : R). may y t) same (within t all.0), all.1)
  stand_waits (suc at) (x ∷ runs) r s is within [] all = all
  stand_waits (suc at) (x ∷ runs) r s is within (t ∷ traces) all =
      (all.0, stand_waits at runs r s is within traces all.1)

module _ {R : Type 0} where
  pub remove-set : (runs : List R) (at : ℕ) (s : R) → remove (slice_set runs at s) at ≡ remove runs at
  remove-set [] at s = refl
  remove-set (x ∷ runs) zero s = refl
  remove-set (x ∷ runs) (suc at) s = ap (λ (rs : List R). x ∷ rs) (remove-set runs at s)

  -- one more, behind the last one
  pub insert-last : (runs : List R) (r : R) → insert runs (length runs) r ≡ runs ++ r ∷ []
  insert-last [] r = refl
  insert-last (x ∷ runs) r = ap (λ (rs : List R). x ∷ rs) (insert-last runs r)

  -- one more, in place of one that left
  pub set-inserts : (runs : List R) (at : ℕ) (r : R) → at < length runs → slice_set runs at r ≡ insert (remove runs at) at r
  set-inserts [] at r h = absurd (omega arith)
  set-inserts (x ∷ runs) zero r h = refl
  set-inserts (x ∷ runs) (suc at) r h = ap (λ (rs : List R). x ∷ rs) (set-inserts runs at r (omega arith))

module _ {B E R : Type 0} (may : R → Traces B E) where
  -- what the answer of the run at a place says of them all
  pub stand_answered : (at : ℕ) (runs : List R) (r s : R) (answer : Poll (Event B E)) → slice_get runs at ≡ Some r
      → Narrows (may r) answer (may s) → Answered may runs at answer (slice_set runs at s)
  stand_answered at runs r s (Ready (Value v)) is narrows = stand_gave may at runs r s v is narrows
  stand_answered at runs r s (Ready (End k)) is narrows = rw (remove-set runs at s) (stand_ended may at runs r k is narrows)
  stand_answered at runs r s Pending is narrows = stand_waits may at runs r s is narrows
