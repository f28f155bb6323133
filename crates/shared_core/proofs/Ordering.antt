-- Each call keeps the order of emissions.
use Rattle.std.proofs.Common.{◌≡◌, ◌≢◌, ℕ, zero, suc, ◌+◌, ◌<◌, Bool, true, false, cond, ◌||◌, ◌⊎◌, inl, inr, ⊎_elim, eqb, List, [], ◌∷◌, ◌++◌, length, Some, slice_get, refl, sym, ap, ◌∙◌, arith}
use Rattle.std.proofs.lemmas.Bool.{eq-eqb, eqb-true, eqb-false, ne_eqb}
use Rattle.std.proofs.lemmas.Option.{same_Some}
use Rattle.std.specs.List.{filter, list_any}
use Rattle.shared_core.specs.Flow.{State, Standing, waits, stands, gone, does_wait, Overflow, suspend, drop_oldest, drop_latest, change, has_room, capacity, live_count, waiting_count}
use Rattle.shared_core.specs.Calls.{Fate, enters, pushes_in, handed_over, held_up, fate, without_room}
use Rattle.shared_core.proofs.Fates.{alone_room}
use Rattle.shared_core.proofs.Queueing.{kept_from}

without_room-cases : (o : Overflow) (f : Fate) → without_room o ≡ f → (f ≢ enters) × (f ≡ pushes_in → o ≡ drop_oldest) × (f ≢ handed_over) × (f ≡ held_up → o ≡ suspend)
without_room-cases suspend f is = ((λ h. cc), (λ h. absurd (cc)), (λ h. cc), (λ h. refl))
without_room-cases drop_oldest f is = ((λ h. cc), (λ h. refl), (λ h. cc), (λ h. absurd (cc)))
without_room-cases drop_latest f is = ((λ h. cc), (λ h. absurd (cc)), (λ h. cc), (λ h. absurd (cc)))

module _ {T : Type 0} where
  -- no emission waits beside room, and none where the policy drops
  pub record IsQueued (M : State T) : Type 0 where
    pub held : list_any does_wait M.tickets ≡ true → has_room M ≡ false
    pub suspends : list_any does_wait M.tickets ≡ true → (capacity M.parameters ≡ 0) ⊎ (M.parameters.overflow ≡ suspend)

  none_beside : (M : State T) → IsQueued M → has_room M ≡ true → list_any does_wait M.tickets ≡ false
  none_beside M queued room =
      elim (list_any does_wait M.tickets) as (λ b. list_any does_wait M.tickets ≡ b → b ≡ false) [
        | true ↦ λ some. absurd (let no = queued.held some in cc)
        | false ↦ λ _. refl
      ] refl

  -- what a fate says of the state
  record FateSays (M : State T) (f : Fate) : Type 0 where
    entering : f ≡ enters → has_room M ≡ true
    pushing : f ≡ pushes_in → (capacity M.parameters ≢ 0) × (M.parameters.overflow ≡ drop_oldest)
    handing : f ≡ handed_over → has_room M ≡ true
    holding : f ≡ held_up → IsQueued M → (has_room M ≡ false) × ((capacity M.parameters ≡ 0) ⊎ (M.parameters.overflow ≡ suspend))

  some_wait : (tickets : List (Standing T)) → length (filter does_wait tickets) ≢ 0 → list_any does_wait tickets ≡ true
  some_wait [] some = absurd (some refl)
  some_wait (waits emitter v ∷ rest) some = refl
  some_wait (stands i ∷ rest) some = some_wait rest some
  some_wait (gone ∷ rest) some = some_wait rest some

  count_wait : (M : State T) → waiting_count M ≢ 0 → list_any does_wait M.tickets ≡ true
  unfolding waiting_count
  count_wait M some = some_wait M.tickets some

  fate_says : (M : State T) → FateSays M (fate M)
  fate_says M =
      elim (eqb (live_count M) 0) as (λ a. eqb (live_count M) 0 ≡ a → FateSays M (cond a enters (cond (eqb (capacity M.parameters) 0) (cond (has_room M) (cond (eqb (waiting_count M) 0) handed_over held_up) held_up) (cond (has_room M) enters (without_room M.parameters.overflow))))) [
        | true ↦ λ alone. record { entering = λ _. alone_room M (eqb-true (live_count M) 0 alone); pushing = λ h. absurd (cc); handing = λ h. absurd (cc); holding = λ h. absurd (cc) }
        | false ↦ λ _. elim (eqb (capacity M.parameters) 0) as (λ b. eqb (capacity M.parameters) 0 ≡ b → FateSays M (cond b (cond (has_room M) (cond (eqb (waiting_count M) 0) handed_over held_up) held_up) (cond (has_room M) enters (without_room M.parameters.overflow)))) [
          | true ↦ λ none. let no_places = eqb-true (capacity M.parameters) 0 none in
              elim (has_room M) as (λ r. has_room M ≡ r → FateSays M (cond r (cond (eqb (waiting_count M) 0) handed_over held_up) held_up)) [
                | true ↦ λ room. elim (eqb (waiting_count M) 0) as (λ w. eqb (waiting_count M) 0 ≡ w → FateSays M (cond w handed_over held_up)) [
                  | true ↦ λ _. record { entering = λ h. absurd (cc); pushing = λ h. absurd (cc); handing = λ _. room; holding = λ h. absurd (cc) }
                  | false ↦ λ some. record {
                    entering = λ h. absurd (cc);
                    pushing = λ h. absurd (cc);
                    handing = λ h. absurd (cc);
                    holding = λ _ queued. (queued.held (count_wait M (eqb-false (waiting_count M) 0 some)), inl no_places);
                  }
                ] refl
                | false ↦ λ full. record { entering = λ h. absurd (cc); pushing = λ h. absurd (cc); handing = λ h. absurd (cc); holding = λ _ _. (full, inl no_places) }
              ] refl
          | false ↦ λ more. let has_places = eqb-false (capacity M.parameters) 0 more in
              elim (has_room M) as (λ r. has_room M ≡ r → FateSays M (cond r enters (without_room M.parameters.overflow))) [
                | true ↦ λ room. record { entering = λ _. room; pushing = λ h. absurd (cc); handing = λ h. absurd (cc); holding = λ h. absurd (cc) }
                | false ↦ λ full. let cases = without_room-cases M.parameters.overflow (without_room M.parameters.overflow) refl in
                    record {
                      entering = λ h. absurd (cases.0 h);
                      pushing = λ h. (has_places, cases.1 h);
                      handing = λ h. absurd (cases.2 h);
                      holding = λ h _. (full, inr (cases.3 h));
                    }
              ] refl
        ] refl
      ] refl

  -- an emission enters where none waits
  pub none_entering : (M : State T) → IsQueued M → fate M ≡ enters → list_any does_wait M.tickets ≡ false
  none_entering M queued is = none_beside M queued ((fate_says M).entering is)

  pub none_handed : (M : State T) → IsQueued M → fate M ≡ handed_over → list_any does_wait M.tickets ≡ false
  none_handed M queued is = none_beside M queued ((fate_says M).handing is)

  pub none_pushing : (M : State T) → IsQueued M → fate M ≡ pushes_in → list_any does_wait M.tickets ≡ false
  none_pushing M queued is =
      let says = (fate_says M).pushing is in
      elim (list_any does_wait M.tickets) as (λ b. list_any does_wait M.tickets ≡ b → b ≡ false) [
        | true ↦ λ some. absurd (⊎_elim (λ none. says.0 none) (λ suspends. let drops = says.1 in cc) (queued.suspends some))
        | false ↦ λ _. refl
      ] refl

  -- only one policy pushes an emission in
  pub pushing_drops : (M : State T) → fate M ≡ pushes_in → M.parameters.overflow ≡ drop_oldest
  pushing_drops M is = ((fate_says M).pushing is).1

  pub says_held : (M : State T) → IsQueued M → fate M ≡ held_up → (has_room M ≡ false) × ((capacity M.parameters ≡ 0) ⊎ (M.parameters.overflow ≡ suspend))
  says_held M queued is = (fate_says M).holding is queued

  -- ---- lists of tickets

  pub kept_same : (q r : ℕ → Bool) (j : ℕ) (tickets : List (Standing T)) → ((k : ℕ) → q k ≡ r k) → kept_from q j tickets ≡ kept_from r j tickets
  kept_same q r j [] same = refl
  kept_same q r j (waits emitter v ∷ rest) same =
      ap (λ b. cond b (kept_from q (suc j) rest) ((emitter, v) ∷ kept_from q (suc j) rest)) (same j)
      ∙ ap (λ xs. cond (r j) xs ((emitter, v) ∷ xs)) (kept_same q r (suc j) rest same)
  kept_same q r j (stands i ∷ rest) same = kept_same q r (suc j) rest same
  kept_same q r j (gone ∷ rest) same = kept_same q r (suc j) rest same

  pub kept_push : (q : ℕ → Bool) (j : ℕ) (tickets : List (Standing T)) (new : Standing T) → kept_from q j (tickets ++ new ∷ []) ≡ kept_from q j tickets ++ kept_from q (j + length tickets) (new ∷ [])
  kept_push q j [] new = ap (λ n. kept_from q n (new ∷ [])) (omega arith)
  kept_push q j (waits emitter v ∷ rest) new =
      let later = kept_push q (suc j) rest new ∙ ap (λ n. kept_from q (suc j) rest ++ kept_from q n (new ∷ [])) (omega arith) in
      elim (q j) as (λ b. cond b (kept_from q (suc j) (rest ++ new ∷ [])) ((emitter, v) ∷ kept_from q (suc j) (rest ++ new ∷ []))
      ≡ cond b (kept_from q (suc j) rest) ((emitter, v) ∷ kept_from q (suc j) rest) ++ kept_from q (j + suc (length rest)) (new ∷ [])) [
        | true ↦ later
        | false ↦ ap (λ xs. (emitter, v) ∷ xs) later
      ]
  kept_push q j (stands i ∷ rest) new = kept_push q (suc j) rest new ∙ ap (λ n. kept_from q (suc j) rest ++ kept_from q n (new ∷ [])) (omega arith)
  kept_push q j (gone ∷ rest) new = kept_push q (suc j) rest new ∙ ap (λ n. kept_from q (suc j) rest ++ kept_from q n (new ∷ [])) (omega arith)

  -- the first ticket is left out where it is named
  kept_named : (q : ℕ → Bool) (j : ℕ) (t : Standing T) (rest : List (Standing T)) → q j ≡ true → kept_from q (suc j) rest ≡ kept_from q j (t ∷ rest)
  kept_named q j (waits emitter v) rest named = ap (λ b. cond b (kept_from q (suc j) rest) ((emitter, v) ∷ kept_from q (suc j) rest)) (sym named)
  kept_named q j (stands i) rest named = refl
  kept_named q j gone rest named = refl

  -- a name below the first ticket names none
  kept_below : (q : ℕ → Bool) (n j : ℕ) (tickets : List (Standing T)) → n < j → kept_from q j tickets ≡ kept_from (λ i. eqb n i || q i) j tickets
  kept_below q n j [] below = refl
  kept_below q n j (waits emitter v ∷ rest) below =
      let later = kept_below q n (suc j) rest (omega arith) in
      ap (λ b. cond (b || q j) (kept_from q (suc j) rest) ((emitter, v) ∷ kept_from q (suc j) rest)) (sym (ne_eqb n j (λ same. omega arith)))
      ∙ ap (λ xs. cond (eqb n j || q j) xs ((emitter, v) ∷ xs)) later
  kept_below q n j (stands i ∷ rest) below = kept_below q n (suc j) rest (omega arith)
  kept_below q n j (gone ∷ rest) below = kept_below q n (suc j) rest (omega arith)

  -- a ticket that is gone is left out, as if it was named
  pub kept_gone : (q : ℕ → Bool) (j k : ℕ) (tickets : List (Standing T)) → kept_from q j (change k (λ _. gone) tickets) ≡ kept_from (λ i. eqb (j + k) i || q i) j tickets
  kept_gone q j k [] = refl
  kept_gone q j zero (t ∷ rest) =
      kept_below q (j + 0) (suc j) rest (omega arith) ∙ kept_named (λ i. eqb (j + 0) i || q i) j t rest (ap (λ b. b || q j) (eq-eqb (j + 0) j (omega arith)))
  kept_gone q j (suc k) (waits emitter v ∷ rest) =
      let later = kept_gone q (suc j) k rest ∙ kept_same (λ i. eqb (suc j + k) i || q i) (λ i. eqb (j + suc k) i || q i) (suc j) rest (λ i. ap (λ n. eqb n i || q i) (omega arith)) in
      ap (λ xs. cond (q j) xs ((emitter, v) ∷ xs)) later
      ∙ ap (λ b. cond (b || q j) (kept_from (λ i. eqb (j + suc k) i || q i) (suc j) rest) ((emitter, v) ∷ kept_from (λ i. eqb (j + suc k) i || q i) (suc j) rest)) (sym (ne_eqb (j + suc k) j (λ same. omega arith)))
  kept_gone q j (suc k) (stands i ∷ rest) =
      kept_gone q (suc j) k rest ∙ kept_same (λ i. eqb (suc j + k) i || q i) (λ i. eqb (j + suc k) i || q i) (suc j) rest (λ i. ap (λ n. eqb n i || q i) (omega arith))
  kept_gone q j (suc k) (gone ∷ rest) =
      kept_gone q (suc j) k rest ∙ kept_same (λ i. eqb (suc j + k) i || q i) (λ i. eqb (j + suc k) i || q i) (suc j) rest (λ i. ap (λ n. eqb n i || q i) (omega arith))

  -- what stood isn't missed
  pub kept_calm : (q : ℕ → Bool) (j k : ℕ) (tickets : List (Standing T)) (t : Standing T) → slice_get tickets k ≡ Some t → does_wait t ≡ false → kept_from q j (change k (λ _. gone) tickets) ≡ kept_from q j tickets
  kept_calm q j k [] t gets calm = refl
  kept_calm q j zero (waits emitter v ∷ rest) t gets calm = absurd (let same = ap does_wait (same_Some (waits emitter v) t gets) in cc)
  kept_calm q j zero (stands i ∷ rest) t gets calm = refl
  kept_calm q j zero (gone ∷ rest) t gets calm = refl
  kept_calm q j (suc k) (waits emitter v ∷ rest) t gets calm = ap (λ xs. cond (q j) xs ((emitter, v) ∷ xs)) (kept_calm q (suc j) k rest t gets calm)
  kept_calm q j (suc k) (stands i ∷ rest) t gets calm = kept_calm q (suc j) k rest t gets calm
  kept_calm q j (suc k) (gone ∷ rest) t gets calm = kept_calm q (suc j) k rest t gets calm

  pub any_push : (tickets : List (Standing T)) (new : Standing T) → list_any does_wait (tickets ++ new ∷ []) ≡ (list_any does_wait tickets || does_wait new)
  any_push [] new = elim (does_wait new) as (λ b. (b || false) ≡ b) [ true ↦ refl | false ↦ refl ]
  any_push (t ∷ rest) new = elim (does_wait t) as (λ b. (b || list_any does_wait (rest ++ new ∷ [])) ≡ ((b || list_any does_wait rest) || does_wait new)) [ true ↦ refl | false ↦ any_push rest new ]

  pub last_push : (tickets : List (Standing T)) (new : Standing T) → slice_get (tickets ++ new ∷ []) (length tickets) ≡ Some new
  last_push [] new = refl
  last_push (t ∷ rest) new = last_push rest new
