-- Laws of what a buffer in one task may give.
use Rattle.std.specs.Prelude.{◌≡◌, ℕ, ◌<◌, Bool, true, false, List, [], ◌∷◌, Option, Some, refl}
use Rattle.std.proofs.Common.{subst}
use Rattle.std.specs.Iterator.{Count, IsFinite, at_most, count_add}
use Rattle.cold_flow.specs.declared.cause.Cause.{Cause}
use Rattle.cold_flow.specs.declared.cause.Cause.TheVariants.{Cancelled}
use Rattle.flow_terms.specs.declared.policy.Policy.{Policy}
use Rattle.cold_flow.specs.Trace.{Trace, ◌⊑◌, so_far, ended_by, led_by}
use Rattle.cold_flow.specs.Poll.{Traces, After, Within, Beginnings}
use Rattle.cold_flow.specs.Laws.{begins-any}
use Rattle.flow_buffer.specs.declared.ending.Ending.{Ending}
use Rattle.flow_buffer.specs.declared.ending.Ending.TheVariants.{Going, Kept, Given}
use Rattle.flow_buffer.specs.Endings.{given}
use Rattle.flow_buffer.specs.Delivery.{Delivers, Delivered, Delivering, polls_left}
use Rattle.flow_buffer.specs.Delivery.Delivers.{stops, gives, takes, overwrites, drops, ends}

finite_add : (bounded : Bool) (bound many : ℕ) → IsFinite (record { bounded = bounded; bound = bound })
    → IsFinite (count_add (record { bounded = bounded; bound = bound }) (at_most many))
finite_add true bound many finite = tt
finite_add false bound many finite = finite

pub finite_left : {E : Type 0} (ending : Ending E) (many : ℕ) (source : Count) → IsFinite source → IsFinite (polls_left ending many source)
finite_left Going many source finite = finite_add source.bounded source.bound many finite
finite_left (Kept cause) many source finite = tt
finite_left (Given cause) many source finite = tt

module _ {T E : Type 0} (capacity : ℕ) (policy : Policy) where
  -- the oldest held value comes next
  pub delivers_oldest : (x : T) (held : List T) (source : Traces T E)
      → After (Delivered capacity policy (x ∷ held) source) x (Delivered capacity policy held source)
  delivers_oldest x held source t h = record { produced = h.produced; came = h.came; delivers = gives x h.delivers }

  -- a value comes straight through
  pub delivers_through : (x : T) (old new : Traces T E) → 0 < capacity → After old x new
      → After (Delivered capacity policy [] old) x (Delivered capacity policy [] new)
  delivers_through x old new some after t h =
      record { produced = led_by x h.produced; came = after h.produced h.came; delivers = takes x some (gives x h.delivers) }

  pub delivers_within : (held : List T) (old new : Traces T E) → Within old new
      → Within (Delivered capacity policy held old) (Delivered capacity policy held new)
  delivers_within held old new within t h = record { produced = h.produced; came = within h.produced h.came; delivers = h.delivers }

  pub delivers_end : (cause : Cause E) (source : Traces T E) → source (ended_by [] cause) → Delivered capacity policy [] source (ended_by [] cause)
  delivers_end cause source came = record { produced = ended_by [] cause; came = came; delivers = ends cause }

  pub delivers_nothing : (held : List T) (source : Traces T E) → source (so_far []) → Delivered capacity policy held source (so_far [])
  delivers_nothing held source came = record { produced = so_far []; came = came; delivers = stops }

  -- the end that came is the source's
  pub cause_kept : (held : List T) (source out : Trace T E) (cause : Cause E) → Delivers capacity policy held source out
      → out.1 ≡ Some cause → source.1 ≡ Some cause
  cause_kept held source out cause stops is = cc
  cause_kept held source out cause (gives x rest) is = cause_kept _ _ _ cause rest is
  cause_kept held source out cause (takes x room rest) is = cause_kept _ _ _ cause rest is
  cause_kept held source out cause (overwrites oldest x may full rest) is = cause_kept _ _ _ cause rest is
  cause_kept held source out cause (drops x may full rest) is = cause_kept _ _ _ cause rest is
  cause_kept held source out cause (ends k) is = is

  pub delivered_uncancelled : (source : Traces T E) → ((xs : List T) → source (ended_by xs Cancelled) → ⊥)
      → (xs : List T) → Delivered capacity policy [] source (ended_by xs Cancelled) → ⊥
  delivered_uncancelled source never xs h =
      let same = cause_kept [] h.produced (ended_by xs Cancelled) Cancelled h.delivers refl in
      never h.produced.0 (subst (λ (o : Option (Cause E)). source (h.produced.0, o)) same h.came)

module _ {T E : Type 0} where
  pub delivering_begins : (capacity : ℕ) (policy : Policy) (held : List T) (ending : Ending E) (source : Traces T E)
      → source (so_far []) → Delivering capacity policy held ending source (so_far [])
  delivering_begins capacity policy held Going source begun = delivers_nothing capacity policy held source begun
  delivering_begins capacity policy held (Kept cause) source begun =
      delivers_nothing capacity policy held (Beginnings (ended_by [] cause)) (begins-any (ended_by [] cause))
  delivering_begins capacity policy held (Given cause) source begun = begins-any (ended_by [] cause)

  pub delivering_over : (capacity : ℕ) (policy : Policy) (held : List T) (ending : Ending E) (source : Traces T E) (k : Cause E) → given ending ≡ Some k
      → (t : Trace T E) → Delivering capacity policy held ending source t → t ⊑ ended_by [] k
  delivering_over capacity policy held Going source k is t h = cc
  delivering_over capacity policy held (Kept cause) source k is t h = cc
  delivering_over capacity policy held (Given cause) source k is t h = let same : cause ≡ k = cc in subst (λ (i : Cause E). t ⊑ ended_by [] i) same h
