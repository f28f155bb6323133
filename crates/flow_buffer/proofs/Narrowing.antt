-- A fill leaves a part of what the buffer could give.
use Rattle.std.proofs.Common.{◌≡◌, ◌<◌, ℕ, true, List, [], ◌∷◌, ◌++◌, length, drop, sym, subst, inl, inr, arith}
use Rattle.cold_flow.specs.declared.cause.Cause.{Cause}
use Rattle.flow_terms.specs.declared.policy.Policy.{Policy}
use Rattle.flow_terms.specs.declared.policy.Policy.TheVariants.{DropOldest}
use Rattle.cold_flow.specs.Trace.{Trace, so_far, ended_by, led_by}
use Rattle.cold_flow.specs.Poll.{Traces, After, Within, Beginnings}
use Rattle.cold_flow.specs.Laws.{below-end}
use Rattle.flow_buffer.specs.declared.ending.Ending.TheVariants.{Kept}
use Rattle.flow_terms.specs.declared.fill.Fill.{Fill}
use Rattle.flow_terms.specs.declared.fill.Fill.TheVariants.{Took, Overwrote, Dropped, Full, Pending, Ended}
use Rattle.flow_buffer.specs.declared.store.Store.{Store}
use Rattle.flow_buffer.specs.Endings.{is_going}
use Rattle.flow_buffer.specs.Stored.{Puts}
use Rattle.flow_buffer.specs.Delivery.{Delivers, Delivered, Delivering, StoreGives}
use Rattle.flow_buffer.specs.Delivery.Delivers.{takes, overwrites, drops}
use Rattle.flow_buffer.proofs.Polls.{going_is}

module _ {T E : Type 0} where
  overwrites_first : (capacity : ℕ) (policy : Policy) (held : List T) (x : T) (source out : Trace T E) → policy ≡ DropOldest → 0 < capacity → length held ≡ capacity
      → Delivers capacity policy (drop 1 held ++ x ∷ []) source out → Delivers capacity policy held (led_by x source) out
  overwrites_first capacity policy [] x source out lossy some full d = absurd (omega arith)
  overwrites_first capacity policy (y ∷ held) x source out lossy some full d = overwrites y x lossy full d

  module _ (before after : Traces T E) (old new : Store T E) (going : is_going old.ending ≡ true) where
    -- what the old store gives, of traces that begin with x
    gives_by : (t : Trace T E) → Delivered old.held.capacity old.policy old.held.items before t → StoreGives old before t
    gives_by t h = subst (λ e. Delivering old.held.capacity old.policy old.held.items e before t) (sym (going_is old.ending going)) h

    -- what the new store gives, which is as the old one but for what it holds
    given_by : (held : List T) (t : Trace T E) → Delivering old.held.capacity old.policy held old.ending after t → Delivered old.held.capacity old.policy held after t
    given_by held t h = subst (λ e. Delivering old.held.capacity old.policy held e after t) (going_is old.ending going) h

    -- a value was put in
    pub puts_narrow : (x : T) (fill : Fill) → 0 < old.held.capacity → After before x after → Puts old x fill new → Within (StoreGives old before) (StoreGives new after)
    puts_narrow x Took some gave puts t h =
        let d = given_by (old.held.items ++ x ∷ []) t (subst (λ s. StoreGives s after t) puts.1 h) in
        gives_by t (record { produced = led_by x d.produced; came = gave d.produced d.came; delivers = takes x puts.0 d.delivers })
    puts_narrow x Overwrote some gave puts t h =
        let d = given_by (drop 1 old.held.items ++ x ∷ []) t (subst (λ s. StoreGives s after t) puts.2 h) in
        gives_by t (record {
          produced = led_by x d.produced;
          came = gave d.produced d.came;
          delivers = overwrites_first old.held.capacity old.policy old.held.items x d.produced t puts.0 some puts.1 d.delivers;
        })
    puts_narrow x Dropped some gave puts t h =
        let d = given_by old.held.items t (subst (λ s. StoreGives s after t) puts.2 h) in
        gives_by t (record { produced = led_by x d.produced; came = gave d.produced d.came; delivers = drops x puts.0 puts.1 d.delivers })
    puts_narrow x Full some gave puts t h = absurd puts
    puts_narrow x Pending some gave puts t h = absurd puts
    puts_narrow x Ended some gave puts t h = absurd puts

    -- an end was seen
    pub ends_narrow : (cause : Cause E) → before (so_far []) → before (ended_by [] cause) → new ≡ record old { ending = Kept cause } → Within (StoreGives old before) (StoreGives new after)
    ends_narrow cause begun came ends t h =
        let d : Delivered old.held.capacity old.policy old.held.items (Beginnings (ended_by [] cause)) t = subst (λ s. StoreGives s after t) ends h in
        let produced : before d.produced = elim (below-end d.produced cause d.came) [ inl e ↦ subst before (sym e) came | inr e ↦ subst before (sym e) begun ] in
        gives_by t (record { produced = d.produced; came = produced; delivers = d.delivers })
