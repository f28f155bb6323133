-- Each poll of a buffer does to its source and to its store what its contract says.
use Rattle.std.proofs.Common.{◌≡◌, ◌<◌, ◌||◌, ◌==◌, ℕ, Some, None, true, IsTrue, is_none, List, [], ◌∷◌, length, refl, sym, ap, ◌∙◌, subst, inl, inr, arith}
use Rattle.futures.specs.declared.task.Poll.TheVariants.{Ready}
use Rattle.cold_flow.specs.declared.cause.Cause.{Cause}
use Rattle.cold_flow.specs.declared.event.Event.TheVariants.{Value, End}
use Rattle.cold_flow.specs.Trace.{Trace, ended_by, led_by}
use Rattle.cold_flow.specs.Poll.{Traces, After, Beginnings}
use Rattle.flow_buffer.specs.declared.ending.Ending.{Ending}
use Rattle.flow_buffer.specs.declared.ending.Ending.TheVariants.{Going, Kept, Given}
use Rattle.flow_terms.specs.declared.fill.Fill.{Fill}
use Rattle.flow_terms.specs.declared.fill.Fill.TheVariants.{Took, Overwrote, Dropped, Full, Pending, Ended}
use Rattle.flow_buffer.specs.declared.store.Store.{Store}
use Rattle.flow_buffer.specs.Endings.{is_going, given, seen, given_now}
use Rattle.flow_buffer.specs.Contents.{IsAllTold}
use Rattle.flow_buffer.specs.Stored.{Shows, Becomes, Puts, Gets, one_more}
use Rattle.flow_buffer.specs.Buffered.{Fills, Takes}
use Rattle.flow_buffer.specs.Delivery.{Delivered, Delivering, StoreGives}
use Rattle.flow_buffer.specs.DeliveryLaws.{delivers_oldest, delivers_through, delivers_end}
use Rattle.flow_buffer.proofs.Showing.{puts_become, gets_become, passes_become, ends_become, all_told}

module _ {E : Type 0} where
  pub going_is : (e : Ending E) → is_going e ≡ true → e ≡ Going
  going_is Going is = refl
  going_is (Kept cause) is = cc
  going_is (Given cause) is = cc

  unseen_is : (e : Ending E) → seen e ≡ None → e ≡ Going
  unseen_is Going is = refl
  unseen_is (Kept cause) is = cc
  unseen_is (Given cause) is = cc

  ungiven : (e : Ending E) (many : ℕ) → IsTrue (is_none (given e) || (many == 0)) → 0 < many → given e ≡ None
  ungiven Going many empty some = refl
  ungiven (Kept cause) many empty some = refl
  ungiven (Given cause) many empty some = absurd (search (arith, empty))

module _ {U T E : Type 0} (may : U → Traces T E) where
  pub fills_value : (from to : U) (old new : Store T E) (x : T) (fill : Fill) → is_going old.ending ≡ true → 0 < old.held.capacity → After (may from) x (may to) → Puts old x fill new → Fills may from old fill to new
  fills_value from to old new x Took going some after puts = (going_is old.ending going, ap (λ s. s.ending) puts.1 ∙ going_is old.ending going, (x, after, puts_become old new (ap given (going_is old.ending going)) x Took some puts))
  fills_value from to old new x Overwrote going some after puts = (going_is old.ending going, ap (λ s. s.ending) puts.2 ∙ going_is old.ending going, (x, after, puts_become old new (ap given (going_is old.ending going)) x Overwrote some puts))
  fills_value from to old new x Dropped going some after puts = (going_is old.ending going, ap (λ s. s.ending) puts.2 ∙ going_is old.ending going, (x, after, puts_become old new (ap given (going_is old.ending going)) x Dropped some puts))
  fills_value from to old new x Full going some after puts = absurd puts
  fills_value from to old new x Pending going some after puts = absurd puts
  fills_value from to old new x Ended going some after puts = absurd puts

  module _ (old new : Store T E) where
    alive : (x : T) → IsTrue (is_none (given old.ending) || (length old.held.items == 0)) → Gets old (Some x) new → given old.ending ≡ None
    alive x empty gets = ungiven old.ending (length old.held.items) empty (let many : length old.held.items ≡ length (x ∷ new.held.items) = ap length gets.0 in omega arith)

    pub takes_oldest : (from : U) (x : T) → IsTrue (is_none (given old.ending) || (length old.held.items == 0)) → Gets old (Some x) new → Takes may from old (Ready (Value x)) from new
    takes_oldest from x empty gets = (alive x empty gets, ap (λ s. s.ending) gets.1, inl (gets_become old new (alive x empty gets) x gets, refl))

    told : old.held.items ≡ [] → Becomes old (λ c d. d ≡ c) new → Becomes old (λ c d. (d ≡ c) × IsAllTold c) new
    told empty becomes c shows = let b = becomes c shows in (b.0, (b.1, all_told old c empty shows), b.2)

    pub takes_value : (from to : U) (x : T) → seen old.ending ≡ None → 0 < old.held.capacity → old.held.items ≡ [] → After (may from) x (may to) → new ≡ record old { taken = one_more old.taken } → Takes may from old (Ready (Value x)) to new
    takes_value from to x unseen some empty after is = let going = unseen_is old.ending unseen in
        (ap given going, ap (λ s. s.ending) is, inr (going, after, passes_become old new (ap given going) x some empty is))

    pub takes_end : (from to : U) (k : Cause E) → seen old.ending ≡ None → old.held.items ≡ [] → may from (ended_by [] k) → new ≡ record old { ending = Given k } → Takes may from old (Ready (End k)) to new
    takes_end from to k unseen empty came is = let going = unseen_is old.ending unseen in
        (is, empty, told empty (ends_become old new (Given k) (ap given going) is), inl (going, came))

    told_still : old.held.items ≡ [] → new ≡ old → Becomes old (λ c d. (d ≡ c) × IsAllTold c) new
    told_still empty same c shows = (c, (refl, all_told old c empty shows), subst (λ s. Shows s c) (sym same) shows)

    takes_ending : (from : U) (k : Cause E) (e : Ending E) → old.ending ≡ e → seen e ≡ Some k → old.held.items ≡ [] → new ≡ record old { ending = given_now e } → Takes may from old (Ready (End k)) from new
    takes_ending from k Going was is empty ends = cc
    takes_ending from k (Kept cause) was is empty ends =
        let same : cause ≡ k = cc in
        let ends : new ≡ record old { ending = Given k } = ends ∙ ap (λ i. record old { ending = Given i }) same in
        (ends, empty, told empty (ends_become old new (Given k) (ap given was) ends), inr (ap seen was ∙ is, refl))
    takes_ending from k (Given cause) was is empty ends =
        let same : cause ≡ k = cc in
        let ends : new ≡ record old { ending = Given k } = ends ∙ ap (λ i. record old { ending = Given i }) same in
        let still : new ≡ old = ends ∙ ap (λ i. record old { ending = i }) (ap Given (sym same) ∙ sym was) in
        (ends, empty, told_still empty still, inr (ap seen was ∙ is, refl))

    pub takes_seen : (from : U) (k : Cause E) → seen old.ending ≡ Some k → old.held.items ≡ [] → new ≡ record old { ending = given_now old.ending } → Takes may from old (Ready (End k)) from new
    takes_seen from k = takes_ending from k old.ending refl

module _ {T E : Type 0} (source : Traces T E) where
  oldest_by : (capacity : ℕ) (held later : List T) (x : T) (e : Ending E) (old : Store T E) → given e ≡ None → held ≡ x ∷ later
      → After (Delivering capacity old.policy held e source) x (Delivering capacity old.policy later e source)
  oldest_by capacity held later x Going old free is = rw is (delivers_oldest capacity old.policy x later source)
  oldest_by capacity held later x (Kept cause) old free is = rw is (delivers_oldest capacity old.policy x later (Beginnings (ended_by [] cause)))
  oldest_by capacity held later x (Given cause) old free is = cc

  module _ (old new : Store T E) where
    pub narrows_oldest : (x : T) → IsTrue (is_none (given old.ending) || (length old.held.items == 0)) → Gets old (Some x) new → After (StoreGives old source) x (StoreGives new source)
    narrows_oldest x empty gets =
        let free : given old.ending ≡ None = ungiven old.ending (length old.held.items) empty (let many : length old.held.items ≡ length (x ∷ new.held.items) = ap length gets.0 in omega arith) in
        subst (λ s. After (StoreGives old source) x (StoreGives s source)) (sym gets.1) (oldest_by old.held.capacity old.held.items new.held.items x old.ending old free gets.0)

  seen_by : (capacity : ℕ) (held : List T) (e : Ending E) (old : Store T E) (k : Cause E) → seen e ≡ Some k → held ≡ [] → Delivering capacity old.policy held e source (ended_by [] k)
  seen_by capacity held Going old k is empty = cc
  seen_by capacity held (Kept cause) old k is empty = let same : cause ≡ k = cc in rw (empty, same) (delivers_end capacity old.policy k (Beginnings (ended_by [] k)) (inl refl))
  seen_by capacity held (Given cause) old k is empty = let same : cause ≡ k = cc in inl (ap (λ i. ended_by [] i) (sym same))

  pub narrows_seen : (old : Store T E) (k : Cause E) → seen old.ending ≡ Some k → old.held.items ≡ [] → StoreGives old source (ended_by [] k)
  narrows_seen old k is empty = seen_by old.held.capacity old.held.items old.ending old k is empty

  going_by : (old : Store T E) → old.ending ≡ Going → (t : Trace T E) → Delivered old.held.capacity old.policy old.held.items source t → StoreGives old source t
  going_by old going t h = subst (λ e. Delivering old.held.capacity old.policy old.held.items e source t) (sym going) h

  pub narrows_end : (old : Store T E) (k : Cause E) → seen old.ending ≡ None → old.held.items ≡ [] → source (ended_by [] k) → StoreGives old source (ended_by [] k)
  narrows_end old k unseen empty came =
      let ends : Delivered old.held.capacity old.policy old.held.items source (ended_by [] k) = rw empty (delivers_end old.held.capacity old.policy k source came) in
      going_by old (unseen_is old.ending unseen) (ended_by [] k) ends

pub narrows_value : {T E : Type 0} (before after : Traces T E) (old new : Store T E) (x : T) → seen old.ending ≡ None → 0 < old.held.capacity → old.held.items ≡ [] → After before x after → new ≡ record old { taken = one_more old.taken }
    → After (StoreGives old before) x (StoreGives new after)
narrows_value before after old new x unseen some empty gave is t h =
    let going = unseen_is old.ending unseen in
    let here : StoreGives (record old { taken = one_more old.taken }) after t = subst (λ s. StoreGives s after t) is h in
    let open_here : Delivered old.held.capacity old.policy old.held.items after t = subst (λ e. Delivering old.held.capacity old.policy old.held.items e after t) going here in
    let before_here : Delivered old.held.capacity old.policy [] after t = subst (λ l. Delivered old.held.capacity old.policy l after t) empty open_here in
    let led = delivers_through old.held.capacity old.policy x before after some gave t before_here in
    going_by before old going (led_by x t) (subst (λ l. Delivered old.held.capacity old.policy l before (led_by x t)) (sym empty) led)
