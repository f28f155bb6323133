-- What the fate of an emission says of the state.
use Rattle.std.proofs.Common.{◌≡◌, ◌≢◌, ℕ, ◌<◌, Bool, true, false, cond, ◌&&◌, eqb, ltb, List, [], ◌∷◌, length, refl, ap, ◌∙◌, arith}
use Rattle.std.proofs.lemmas.Bool.{eqb-true, eqb-false, lt-ltb}
use Rattle.std.specs.List.{filter, list_all}
use Rattle.shared_core.specs.Flow.{State, Overflow, suspend, drop_oldest, drop_latest, Subscription, has_room, pending, places, capacity, live_count, waiting_count}
use Rattle.shared_core.specs.Calls.{Fate, enters, pushes_in, handed_over, held_up, fate, without_room}
use Rattle.shared_core.proofs.Pending.{pending-closed}

-- where nobody is live there is room
room_alone : {T : Type 0} (p total : ℕ) (subscriptions : List (Subscription T)) → 0 < p → length (filter (λ s. s.live) subscriptions) ≡ 0 → list_all (λ s. ltb (length (pending total s)) p) subscriptions ≡ true
room_alone p total [] some none = refl
room_alone p total (s ∷ rest) some none =
    elim s.live as (λ b. s.live ≡ b → length (cond b (s ∷ filter (λ s. s.live) rest) (filter (λ s. s.live) rest)) ≡ 0 → (ltb (length (pending total s)) p && list_all (λ s. ltb (length (pending total s)) p) rest) ≡ true) [
      | true ↦ λ _ h. absurd (omega (arith, h))
      | false ↦ λ closed h.
          ap (λ (ps : List ℕ). ltb (length ps) p && list_all (λ s. ltb (length (pending total s)) p) rest) (pending-closed total s closed)
          ∙ ap (λ b. b && list_all (λ s. ltb (length (pending total s)) p) rest) (lt-ltb 0 p some)
          ∙ room_alone p total rest some h
    ] refl none

never_enters : (o : Overflow) → without_room o ≡ enters → ⊥
never_enters suspend is = cc
never_enters drop_oldest is = cc
never_enters drop_latest is = cc

never_hands : (o : Overflow) → without_room o ≡ handed_over → ⊥
never_hands suspend is = cc
never_hands drop_oldest is = cc
never_hands drop_latest is = cc

-- a fate by its tests: whether nobody is live, there are no places, none waits, and there is room
abbrev by_tests : Bool → Bool → Bool → Bool → Overflow → Fate
by_tests alone none calm room o = cond alone enters (cond none (cond room (cond calm handed_over held_up) held_up) (cond room enters (without_room o)))

-- an emission enters beside room
by_entering : (alone none calm room : Bool) (o : Overflow) → (alone ≡ true → room ≡ true) → by_tests alone none calm room o ≡ enters → room ≡ true
by_entering alone none calm true o free is = refl
by_entering true none calm false o free is = free refl
by_entering false true calm false o free is = absurd (cc)
by_entering false false calm false o free is = absurd (never_enters o is)

by_handing : (alone none calm room : Bool) (o : Overflow) → by_tests alone none calm room o ≡ handed_over → room ≡ true
by_handing alone none calm true o is = refl
by_handing true none calm false o is = absurd (cc)
by_handing false true calm false o is = absurd (cc)
by_handing false false calm false o is = absurd (never_hands o is)

-- one is pushed in only where there are places
by_pushing : (alone none calm room : Bool) (o : Overflow) → by_tests alone none calm room o ≡ pushes_in → none ≡ false
by_pushing true none calm room o is = absurd (cc)
by_pushing false false calm room o is = refl
by_pushing false true calm false o is = absurd (cc)
by_pushing false true true true o is = absurd (cc)
by_pushing false true false true o is = absurd (cc)

module _ {T : Type 0} where
  pub alone_room : (M : State T) → live_count M ≡ 0 → has_room M ≡ true
  unfolding live_count has_room
  alone_room M none = room_alone (places M.parameters) (length M.accepted) M.subscriptions (omega arith) none

  pub entering_room : (M : State T) → fate M ≡ enters → has_room M ≡ true
  entering_room M is =
      by_entering (eqb (live_count M) 0) (eqb (capacity M.parameters) 0) (eqb (waiting_count M) 0) (has_room M) M.parameters.overflow (λ alone. alone_room M (eqb-true (live_count M) 0 alone)) is

  pub handing_room : (M : State T) → fate M ≡ handed_over → has_room M ≡ true
  handing_room M is = by_handing (eqb (live_count M) 0) (eqb (capacity M.parameters) 0) (eqb (waiting_count M) 0) (has_room M) M.parameters.overflow is

  pub pushing_places : (M : State T) → fate M ≡ pushes_in → capacity M.parameters ≢ 0
  pushing_places M is =
      eqb-false (capacity M.parameters) 0 (by_pushing (eqb (live_count M) 0) (eqb (capacity M.parameters) 0) (eqb (waiting_count M) 0) (has_room M) M.parameters.overflow is)
