-- Taken, held and dropped values are all that were produced.
use Rattle.std.proofs.Common.{◌≡◌, ◌≢◌, ℕ, ◌+◌, Option, Some, None, Bool, false, List, [], ◌∷◌, map, length, sym, refl, ap, ◌∙◌, arith}
use Rattle.std.proofs.lemmas.List.{length-map}
use Rattle.flow_buffer.specs.declared.side.Fate.{Fate}
use Rattle.flow_buffer.specs.declared.side.Fate.TheVariants.{Taken, Stored, Dropped}
use Rattle.cold_flow.specs.declared.cause.Cause.{Cause}
use Rattle.flow_buffer.specs.History.{is_taken, is_stored, is_dropped, picked, marked, IsDecided}
use Rattle.flow_buffer.specs.Channel.{Agree}
use Rattle.cold_flow.specs.declared.event.Event.{Event}
use Rattle.flow_buffer.specs.Sides.{drops, NothingAfter, IsEndKnown}

module _ {T : Type 0} where
  -- each value has one fate
  all_counted : (n : ℕ) (l : List (Fate × T)) → length (picked is_taken n l) + (length (picked is_stored n l) + drops (marked l)) ≡ length l
  all_counted n [] = refl
  all_counted n ((Taken, x) ∷ l) = let rest = all_counted (n + 1) l in omega arith
  all_counted n ((Stored, x) ∷ l) = let rest = all_counted (n + 1) l in omega arith
  all_counted n ((Dropped, x) ∷ l) = let rest = all_counted (n + 1) l in omega arith

  -- where none is held and none was dropped, what was taken is all
  all_taken : (n : ℕ) (l : List (Fate × T)) → picked is_stored n l ≡ [] → picked is_dropped n l ≡ [] → map (λ e. e.1) (picked is_taken n l) ≡ map (λ e. e.1) (marked l)
  all_taken n [] held dropped = refl
  all_taken n ((Taken, x) ∷ l) held dropped = ap (λ t. x ∷ t) (all_taken (n + 1) l held dropped)
  all_taken n ((Stored, x) ∷ l) held dropped = cc
  all_taken n ((Dropped, x) ∷ l) held dropped = cc

-- where the drain has the end, nothing waits in the feed
pub none_waits : {T E : Type 0} (sent got : Option (Cause E)) (waiting : Option (Event T E)) → NothingAfter sent waiting → got ≡ sent → got ≢ None → waiting ≡ None
none_waits None got waiting after same some = absurd (some same)
none_waits (Some cause) got waiting after same some = after

module _ {T E : Type 0} (produced : List (Bool × T)) (sent : Option (Cause E)) (taken : List (ℕ × T)) (known : List (Fate × T)) (lossy : Bool) where
  decided_is : (got : Option (Cause E)) → IsEndKnown got lossy taken known → got ≢ None → IsDecided lossy taken known
  decided_is None known_is some = absurd (some refl)
  decided_is (Some cause) known_is some = known_is

  module _ (got : Option (Cause E)) (agree : Agree produced sent taken got known) (known_is : IsEndKnown got lossy taken known) (some : got ≢ None) where
    marked_is : marked known ≡ produced
    marked_is = ap marked (agree.3 some).1 ∙ agree.1

    pub totals : length taken + drops produced ≡ length produced
    totals =
        let s = decided_is got known_is some in
        let all = all_counted 0 known in
        let none : length (picked is_stored 0 known) ≡ 0 = ap length s.0 in
        let took : length (picked is_taken 0 known) ≡ length taken = ap length s.1 in
        let lost : drops (marked known) ≡ drops produced = ap drops marked_is in
        let long : length known ≡ length produced = sym (length-map known (λ (e : Fate × T). (is_dropped e.0, e.1))) ∙ ap length marked_is in omega arith

    pub wholes : lossy ≡ false → map (λ (e : ℕ × T). e.1) taken ≡ map (λ (e : Bool × T). e.1) produced
    wholes free = let s = decided_is got known_is some in
        ap (map (λ (e : ℕ × T). e.1)) (sym s.1) ∙ (all_taken 0 known s.0 (s.2 free) ∙ ap (map (λ (e : Bool × T). e.1)) marked_is)
