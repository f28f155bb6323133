-- What a drain keeps and shows once a message came.
use Rattle.std.proofs.Common.{◌≡◌, ℕ, ◌+◌, ◌-◌, ◌^◌, min, Option, Some, None, List, [], ◌∷◌, ◌++◌, length, refl, sym, ap, ◌∙◌, subst, inl, arith, length-append}
use Rattle.atomic_table.specs.declared.badge.Badge.{Badge}
use Rattle.crossbeam_channel.specs.declared.flavors.array.Doing.{Doing}
use Rattle.crossbeam_channel.specs.declared.flavors.array.Key.{Key}
use Rattle.crossbeam_channel.specs.declared.flavors.array.Rows.{Rows}
use Rattle.crossbeam_channel.specs.Claims.{Pass, view as knows, IsSeatAt}
use Rattle.cold_flow.specs.declared.cause.Cause.{Cause}
use Rattle.cold_flow.specs.declared.event.Event.{Event}
use Rattle.cold_flow.specs.declared.event.Event.TheVariants.{Value, End}
use Rattle.flow_buffer.specs.declared.side.Side.{Side}
use Rattle.flow_buffer.specs.History.{Rises, IsDecided}
use Rattle.flow_buffer.specs.Sides.{Draining, saturated, taken_after, end_by, IsEndKnown, Gave}
use Rattle.flow_buffer.specs.Channel.{drain_side, Takes}
use Rattle.flow_buffer.specs.Fitting.{channel_of, drain_view, IsDrain}

module _ {T : Type 0} where
  one_more : (n r : ℕ) (old new : List (ℕ × T)) (e : ℕ × T) → n ≡ saturated (length old) → r ≡ min (n + 1) (2 ^ 64 - 1) → new ≡ old ++ e ∷ [] → r ≡ saturated (length new)
  one_more n r old new e was now is = let many : length new ≡ length old + 1 = ap length is ∙ length-append old (e ∷ []) in omega arith

module _ {T E : Type 0} where
  abbrev IsDrainSide : Option (Cause E) → Side T E → Type 0
  IsDrainSide end s = s ≡ drain_side s.lossy end s.taken s.history s.seen

module _ {T E Q M L A : Type 0} (c : Rows (Badge (Key (Event T E))) (Doing (Event T E) (Side T E)) Q M (Key (Event T E)) L A) (was is : Pass (Event T E) (Side T E)) where
  -- what a drain keeps
  pub received : (event : Event T E) (taken now_taken : ℕ) (end : Option (Cause E)) → IsDrain c was taken None → IsSeatAt c is → Takes (knows was) event (knows is)
      → now_taken ≡ taken_after taken event → end ≡ end_by event → IsDrain c is now_taken end
  received (Value x) taken now_taken end old seat takes counted ends =
      let e = takes.0.1 in
      let before = (knows was).taken ++ (takes.0.0, x) ∷ [] in
      let side : IsDrainSide end (knows is) = subst (IsDrainSide end) (sym e) (ap (λ (n : Option (Cause E)). drain_side (knows was).lossy n before (knows was).history (knows is).seen) (sym ends)) in
      let known : IsEndKnown end (knows is).lossy (knows is).taken (knows is).history = subst (λ (n : Option (Cause E)). IsEndKnown n (knows is).lossy (knows is).taken (knows is).history) (sym ends) tt in
      (seat, side, one_more taken now_taken _ _ _ old.2 counted (ap (λ (s : Side T E). s.taken) e), takes.1, known)
  received (End cause) taken now_taken end old seat takes counted ends =
      let e = takes.0 in
      let lossy : (knows was).lossy ≡ (knows is).lossy = sym (ap (λ (s : Side T E). s.lossy) e) in
      let same : (knows was).taken ≡ (knows is).taken = sym (ap (λ (s : Side T E). s.taken) e) in
      let side : IsDrainSide end (knows is) = subst (λ (n : Option (Cause E)). IsDrainSide n (knows is)) (sym ends)
      (e ∙ (ap (λ l. drain_side l (Some cause) (knows was).taken (knows is).history (knows was).seen) lossy ∙ (ap (λ t. drain_side (knows is).lossy (Some cause) t (knows is).history (knows was).seen) same
      ∙ ap (λ n. drain_side (knows is).lossy (Some cause) (knows is).taken (knows is).history n) (sym (ap (λ (s : Side T E). s.seen) e))))) in
      let decided : IsDecided (knows is).lossy (knows is).taken (knows is).history =
      subst (λ l. IsDecided l (knows is).taken (knows is).history) lossy (subst (λ t. IsDecided (knows was).lossy t (knows is).history) same takes.1) in
      let known : IsEndKnown end (knows is).lossy (knows is).taken (knows is).history = subst (λ (n : Option (Cause E)). IsEndKnown n (knows is).lossy (knows is).taken (knows is).history) (sym ends) decided in
      (seat, side, counted ∙ (old.2 ∙ ap (λ (t : List (ℕ × T)). saturated (length t)) same), subst (Rises 0) same old.3, known)

  -- what it shows of the channel
  abbrev shown : Side T E → Option (Cause E) → Draining T E
  shown s end = record { channel = channel_of c; lossy = s.lossy; taken = s.taken; end = end; history = s.history }

  pub has_given : (event : Event T E) (end : Option (Cause E)) → Takes (knows was) event (knows is) → end ≡ end_by event → Gave (drain_view c was None) event (drain_view c is end)
  has_given (Value x) end takes ends =
      let e = takes.0.1 in
      (refl, (takes.0.0, ap (λ (n : Option (Cause E)). shown (knows is) n) ends ∙ ap (λ (s : Side T E). shown s None) e), takes.1)
  has_given (End cause) end takes ends =
      let e = takes.0 in
      let lossy : (knows is).lossy ≡ (knows was).lossy = ap (λ (s : Side T E). s.lossy) e in
      let same : (knows is).taken ≡ (knows was).taken = ap (λ (s : Side T E). s.taken) e in
      let decided : IsDecided (knows is).lossy (knows is).taken (knows is).history =
      subst (λ l. IsDecided l (knows is).taken (knows is).history) (sym lossy) (subst (λ t. IsDecided (knows was).lossy t (knows is).history) (sym same) takes.1) in
      (ends, refl, lossy, same, decided, inl refl)
