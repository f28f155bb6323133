-- What a try, and the start of an emission, answer and leave, by the emission's fate.
use Rattle.std.proofs.Common.{◌≡◌, ◌≢◌, ℕ, ◌+◌, ◌-◌, ◌<◌, ◌≤◌, Bool, true, false, cond, ◌&&◌, ◌||◌, ◌⊎◌, ⊎_elim, eqb, ltb, List, [], ◌∷◌, ◌++◌, length, drop, map, Result, Ok, Err, refl, sym, ap, ◌∙◌, subst, arith, length-append}
use Rattle.std.proofs.Math.Bool.{or-true}
use Rattle.std.proofs.lemmas.Bool.{eqb-false, eq-eqb, ne_eqb, ltb-true}
use Rattle.std.specs.List.{list_all}
use Rattle.flow_terms.specs.declared.refusal.Refusal.{Refusal}
use Rattle.flow_terms.specs.declared.refusal.Refusal.TheVariants.{EmitsFull, Spent}
use Rattle.flow_terms.specs.declared.ids.Ticket.{Ticket}
use Rattle.flow_terms.specs.declared.answers.Tried.{Tried}
use Rattle.flow_terms.specs.declared.answers.Tried.TheVariants as tried
use Rattle.flow_terms.specs.declared.answers.Begun.{Begun}
use Rattle.flow_terms.specs.declared.answers.Begun.TheVariants as begun
use Rattle.shared_core.specs.Flow.{State, Standing, Parameters, Overflow, waits, stands, is_out, accept, lose_oldest, give, number, number_limit, capacity, places, has_room, waiting_count, out_count}
use Rattle.shared_core.specs.Calls.{Call, step, trying, starting, try_emit, try_by, start_emit, start_by, wait_with, fate, fate_by, without_room, Fate, enters, pushes_in, handed_over, dropped, held_up, numbers_spent, tickets_spent}
use Rattle.shared_core.specs.Shown.{Seen, seen_of, Shows, Follows}
use Rattle.shared_core.specs.Accepting.{IsSound, with_accepted, without_oldest_of, with_ticket, waiting_in, room_in, fate_in}
use Rattle.shared_core.proofs.Sound.{sound-lose_oldest}
use Rattle.shared_core.proofs.Numbered.{numbered-push, count_numbered}
use Rattle.shared_core.proofs.Settling.{waiting_numbered}
use Rattle.shared_core.proofs.Fates.{pushing_places}
use Rattle.shared_core.proofs.Steps.{live_count-seen, shown_after, shown_sound}
use Rattle.shared_core.proofs.Accepted.{seen-accept, seen-lose_oldest, has_room-seen}

-- a number that isn't the limit lies below it
pub within_limit : (n : ℕ) → eqb n number_limit ≡ false → n ≤ number_limit → n < number_limit
within_limit n unspent bound = let apart = eqb-false n number_limit unspent in omega arith

pub below_limit : (n : ℕ) → n < number_limit → eqb n number_limit ≡ false
below_limit n below = ne_eqb n number_limit (λ is. omega (arith, below, is))

-- the fates beside a live subscription in a flow without places
pub is_held_up : (live all waiting : ℕ) (room : Bool) (overflow : Overflow) → live ≢ 0 → all ≡ 0 → (waiting ≢ 0) ⊎ (room ≡ false) → fate_by live all waiting room overflow ≡ held_up
is_held_up live all waiting true overflow some none held =
    let a = ne_eqb live 0 some in let b = eq-eqb all 0 none in let c = ne_eqb waiting 0 (⊎_elim (λ behind. behind) (λ full. absurd (cc)) held) in rw (a, b, c) refl
is_held_up live all waiting false overflow some none held = let a = ne_eqb live 0 some in let b = eq-eqb all 0 none in rw (a, b) refl

pub is_handed : (live all waiting : ℕ) (overflow : Overflow) → live ≢ 0 → all ≡ 0 → waiting ≡ 0 → fate_by live all waiting true overflow ≡ handed_over
is_handed live all waiting overflow some none first =
    let a = ne_eqb live 0 some in let b = eq-eqb all 0 none in let c = eq-eqb waiting 0 first in rw (a, b, c) refl

-- the fates beside a live subscription in a flow with places
pub by_room : (live all waiting : ℕ) (room : Bool) (overflow : Overflow) → live ≢ 0 → all ≢ 0 → fate_by live all waiting room overflow ≡ cond room enters (without_room overflow)
by_room live all waiting room overflow some places = let a = ne_eqb live 0 some in let b = ne_eqb all 0 places in rw (a, b) refl

and_both : (a b : Bool) → (a && b) ≡ true → (a ≡ true) × (b ≡ true)
and_both true b both = (refl, both)
and_both false b both = absurd (cc)

module _ {T : Type 0} where
  -- where there is room nobody loses a value
  none_lost : (limit : ℕ) (live : List (ℕ × List T)) → list_all (λ e. ltb (length e.1) limit) live ≡ true → map (λ e. cond (eqb (length e.1) limit) (e.0, drop 1 e.1) e) live ≡ live
  none_lost limit [] room = refl
  none_lost limit (e ∷ live) room =
      let both = and_both (ltb (length e.1) limit) (list_all (λ d. ltb (length d.1) limit) live) room in
      let below = ltb-true (length e.1) limit both.0 in
      let short : eqb (length e.1) limit ≡ false = ne_eqb (length e.1) limit (λ full. omega (arith, below, full)) in
      ap (λ b. cond b (e.0, drop 1 e.1) e ∷ map (λ d. cond (eqb (length d.1) limit) (d.0, drop 1 d.1) d) live) short ∙ ap (λ xs. e ∷ xs) (none_lost limit live both.1)

  unchanged : (old : Seen T) → room_in old ≡ true → without_oldest_of (places old.parameters) old ≡ old
  unchanged old room = ap (λ xs. record old { live = xs }) (none_lost (places old.parameters) old.live room)

  pub waiting_count-seen : (M : State T) → waiting_count M ≡ waiting_in (seen_of M)
  unfolding waiting_count seen_of
  waiting_count-seen M = waiting_numbered M.parameters.first M.tickets

  out_count-seen : (M : State T) → out_count M ≡ length (seen_of M).out
  unfolding out_count seen_of
  out_count-seen M = count_numbered is_out (λ standing. standing) M.parameters.first M.tickets

  seen_parameters : (M : State T) → (seen_of M).parameters ≡ M.parameters
  unfolding seen_of
  seen_parameters M = refl

  fate-seen : (M : State T) → IsSound M → fate M ≡ fate_in (seen_of M)
  fate-seen M sound =
      ap (λ live. fate_by live (capacity M.parameters) (waiting_count M) (has_room M) M.parameters.overflow) (live_count-seen M)
      ∙ ap (λ waiting. fate_by (length (seen_of M).live) (capacity M.parameters) waiting (has_room M) M.parameters.overflow) (waiting_count-seen M)
      ∙ ap (λ room. fate_by (length (seen_of M).live) (capacity M.parameters) (waiting_in (seen_of M)) room M.parameters.overflow) (has_room-seen M sound)
      ∙ ap (λ (p : Parameters). fate_by (length (seen_of M).live) (capacity p) (waiting_in (seen_of M)) (room_in (seen_of M)) p.overflow) (sym (seen_parameters M))

  -- the numbers, as contracts see them
  abbrev pub total_in : Seen T → ℕ
  total_in seen = seen.next_number + waiting_in seen

  spent-seen : (M : State T) → numbers_spent M ≡ eqb (total_in (seen_of M)) number_limit
  unfolding seen_of
  spent-seen M = ap (λ n. eqb n number_limit) (omega (arith, waiting_count-seen M))

  tickets_spent-seen : (M : State T) → tickets_spent M ≡ eqb ((seen_of M).parameters.first + (seen_of M).tickets) number_limit
  unfolding seen_of
  tickets_spent-seen M = refl

  number_shown : {old : Seen T} (M : State T) → Shows old M → number M (length M.accepted) ≡ old.next_number
  unfolding seen_of
  number_shown M shows = ap (λ (seen : Seen T). seen.next_number) (sym shows.same)

  index_shown : {old : Seen T} (M : State T) → Shows old M → length M.accepted ≡ old.next_number - old.parameters.first
  unfolding seen_of
  index_shown M shows =
      let back : length M.accepted ≡ (M.parameters.first + length M.accepted) - M.parameters.first = omega arith in
      back ∙ ap (λ (seen : Seen T). seen.next_number - seen.parameters.first) (sym shows.same)

  ticket_shown : {old : Seen T} (M : State T) → Shows old M → number M (length M.tickets) ≡ old.parameters.first + old.tickets
  unfolding seen_of
  ticket_shown M shows = ap (λ (seen : Seen T). seen.parameters.first + seen.tickets) (sym shows.same)

  seen-give : (standing : Standing T) → is_out standing ≡ true → (M : State T) → seen_of (give standing M) ≡ with_ticket standing (seen_of M)
  unfolding seen_of
  seen-give standing out M =
      ap (λ xs. record (seen_of M) { tickets = length (M.tickets ++ standing ∷ []); out = xs }) (numbered-push is_out (λ t. t) M.parameters.first M.tickets standing out)
      ∙ ap (λ n. record (with_ticket standing (seen_of M)) { tickets = n }) (length-append M.tickets (standing ∷ []))

  -- a call whose answer and state are known
  pub follows_by : {R : Type 0} (call : Call T) (does : State T → R × State T) (answer : R) (old new : Seen T) (M N : State T) → Shows old M
      → does M ≡ (answer, N) → (step call M).1 ≡ (does M).1 → new ≡ seen_of N → (answer ≡ (does M).0) × Shows new (does M).1
  follows_by call does answer old new M N shows is steps same = (
    ap (λ (a : _ × State T). a.0) (sym is),
    subst (Shows new) steps (shown_after call new shows (same ∙ ap (λ (a : _ × State T). seen_of a.1) (sym is) ∙ ap seen_of (sym steps))),
  )

  accepted_shown : (emitter : ℕ) (v : T) (old : Seen T) (M : State T) → Shows old M → with_accepted v old ≡ seen_of (accept emitter v M)
  accepted_shown emitter v old M shows = ap (with_accepted v) shows.same ∙ sym (seen-accept emitter v M (shown_sound shows))

  fate_shown : (f : Fate) (old : Seen T) → f ≡ fate_in old → (M : State T) → Shows old M → fate M ≡ f
  fate_shown f old is M shows = fate-seen M (shown_sound shows) ∙ ap fate_in (sym shows.same) ∙ sym is

  pushed_shown : (emitter : ℕ) (v : T) (old : Seen T) → pushes_in ≡ fate_in old → (M : State T) → Shows old M
      → with_accepted v (without_oldest_of (places old.parameters) old) ≡ seen_of (accept emitter v (lose_oldest M))
  pushed_shown emitter v old pushes M shows =
      let sound = shown_sound shows in
      let some = pushing_places M (fate_shown pushes_in old pushes M shows) in
      let same : places old.parameters ≡ capacity M.parameters =
      ap (λ (seen : Seen T). places seen.parameters) shows.same ∙ ap places (seen_parameters M) ∙ (let all : places M.parameters ≡ capacity M.parameters = omega (arith, some) in all) in
      ap (λ limit. with_accepted v (without_oldest_of limit old)) same ∙ ap (λ seen. with_accepted v (without_oldest_of (capacity M.parameters) seen)) shows.same
      ∙ ap (with_accepted v) (sym (seen-lose_oldest M sound (omega (arith, some, same))))
      ∙ sym (seen-accept emitter v (lose_oldest M) (sound-lose_oldest M sound))

  module _ (emitter : ℕ) (v : T) (old : Seen T) where
    pub try_spent : eqb (total_in old) number_limit ≡ true → Follows (try_emit emitter v) old (Err Spent) old
    unfolding try_emit
    try_spent spent M shows =
        let is = spent-seen M ∙ ap (λ seen. eqb (total_in seen) number_limit) (sym shows.same) ∙ spent in
        follows_by (trying emitter v) (try_emit emitter v) (Err Spent) old old M M shows (ap (λ b. cond b (Err Spent, M) (try_by (fate M) emitter v M)) is) refl shows.same

    module _ (unspent : eqb (total_in old) number_limit ≡ false) where
      try_is : (f : Fate) → f ≡ fate_in old → (M : State T) → Shows old M → try_emit emitter v M ≡ try_by f emitter v M
      unfolding try_emit
      try_is f fated M shows =
          let is = spent-seen M ∙ ap (λ seen. eqb (total_in seen) number_limit) (sym shows.same) ∙ unspent in
          ap (λ b. cond b (Err Spent, M) (try_by (fate M) emitter v M)) is ∙ ap (λ g. try_by g emitter v M) (fate_shown f old fated M shows)

      pub try_enters : enters ≡ fate_in old → Follows (try_emit emitter v) old (Ok (tried.Accepted old.next_number)) (with_accepted v old)
      try_enters fated M shows =
          follows_by (trying emitter v) (try_emit emitter v) _ old _ M (accept emitter v M) shows
          (try_is enters fated M shows ∙ ap (λ n. (Ok (tried.Accepted n), accept emitter v M)) (number_shown M shows)) refl (accepted_shown emitter v old M shows)

      try_takes : pushes_in ≡ fate_in old → Follows (try_emit emitter v) old (Ok (tried.Accepted old.next_number)) (with_accepted v (without_oldest_of (places old.parameters) old))
      try_takes fated M shows =
          follows_by (trying emitter v) (try_emit emitter v) _ old _ M (accept emitter v (lose_oldest M)) shows
          (try_is pushes_in fated M shows ∙ ap (λ n. (Ok (tried.Accepted n), accept emitter v (lose_oldest M))) (number_shown M shows)) refl (pushed_shown emitter v old fated M shows)

      pub try_pushes : (pushes_in ≡ fate_in old) ⊎ ((enters ≡ fate_in old) × (room_in old ≡ true))
          → Follows (try_emit emitter v) old (Ok (tried.Accepted old.next_number)) (with_accepted v (without_oldest_of (places old.parameters) old))
      try_pushes fated =
          ⊎_elim (λ takes. try_takes takes)
          (λ (fits : (enters ≡ fate_in old) × (room_in old ≡ true)).
          subst (λ (seen : Seen T). Follows (try_emit emitter v) old (Ok (tried.Accepted old.next_number)) (with_accepted v seen)) (sym (unchanged old fits.1)) (try_enters fits.0)) fated

      pub try_stays : (f : Fate) (answer : Result (Tried ℕ) Refusal) → f ≡ fate_in old → ((M : State T) → try_by f emitter v M ≡ (answer, M)) → Follows (try_emit emitter v) old answer old
      try_stays f answer fated stays M shows =
          follows_by (trying emitter v) (try_emit emitter v) answer old old M M shows (try_is f fated M shows ∙ stays M) refl shows.same

    -- whether the emission's number or its ticket's would be over the limit
    abbrev pub spent_in : Bool
    spent_in = eqb (total_in old) number_limit || eqb (old.parameters.first + old.tickets) number_limit

    spent_shown : (M : State T) → Shows old M → (numbers_spent M || tickets_spent M) ≡ spent_in
    spent_shown M shows =
        ap (λ b. b || tickets_spent M) (spent-seen M) ∙ ap (λ b. eqb (total_in (seen_of M)) number_limit || b) (tickets_spent-seen M)
        ∙ ap (λ (seen : Seen T). eqb (total_in seen) number_limit || eqb (seen.parameters.first + seen.tickets) number_limit) (sym shows.same)

    pub unspent_from : eqb (total_in old) number_limit ≡ false → old.parameters.first + old.tickets ≢ number_limit → spent_in ≡ false
    unspent_from emissions tickets =
        ap (λ b. b || eqb (old.parameters.first + old.tickets) number_limit) emissions ∙ ne_eqb (old.parameters.first + old.tickets) number_limit tickets

    pub spent_from_emissions : eqb (total_in old) number_limit ≡ true → spent_in ≡ true
    spent_from_emissions spent = ap (λ b. b || eqb (old.parameters.first + old.tickets) number_limit) spent

    pub spent_from_tickets : old.parameters.first + old.tickets ≡ number_limit → spent_in ≡ true
    spent_from_tickets spent =
        ap (λ b. eqb (total_in old) number_limit || b) (eq-eqb (old.parameters.first + old.tickets) number_limit spent) ∙ or-true (eqb (total_in old) number_limit)

    pub start_spent : spent_in ≡ true → Follows (start_emit emitter v) old (Err Spent) old
    unfolding start_emit
    start_spent spent M shows =
        follows_by (starting emitter v) (start_emit emitter v) (Err Spent) old old M M shows
        (ap (λ b. cond b (Err Spent, M) (start_by (fate M) emitter v M)) (spent_shown M shows ∙ spent)) refl shows.same

    module _ (unspent : spent_in ≡ false) where
      start_is : (f : Fate) → f ≡ fate_in old → (M : State T) → Shows old M → start_emit emitter v M ≡ start_by f emitter v M
      unfolding start_emit
      start_is f fated M shows =
          ap (λ b. cond b (Err Spent, M) (start_by (fate M) emitter v M)) (spent_shown M shows ∙ unspent) ∙ ap (λ g. start_by g emitter v M) (fate_shown f old fated M shows)

      pub start_enters : enters ≡ fate_in old → Follows (start_emit emitter v) old (Ok (begun.Accepted old.next_number)) (with_accepted v old)
      start_enters fated M shows =
          follows_by (starting emitter v) (start_emit emitter v) _ old _ M (accept emitter v M) shows
          (start_is enters fated M shows ∙ ap (λ n. (Ok (begun.Accepted n), accept emitter v M)) (number_shown M shows)) refl (accepted_shown emitter v old M shows)

      start_takes : pushes_in ≡ fate_in old → Follows (start_emit emitter v) old (Ok (begun.Accepted old.next_number)) (with_accepted v (without_oldest_of (places old.parameters) old))
      start_takes fated M shows =
          follows_by (starting emitter v) (start_emit emitter v) _ old _ M (accept emitter v (lose_oldest M)) shows
          (start_is pushes_in fated M shows ∙ ap (λ n. (Ok (begun.Accepted n), accept emitter v (lose_oldest M))) (number_shown M shows)) refl (pushed_shown emitter v old fated M shows)

      pub start_pushes : (pushes_in ≡ fate_in old) ⊎ ((enters ≡ fate_in old) × (room_in old ≡ true))
          → Follows (start_emit emitter v) old (Ok (begun.Accepted old.next_number)) (with_accepted v (without_oldest_of (places old.parameters) old))
      start_pushes fated =
          ⊎_elim (λ takes. start_takes takes)
          (λ (fits : (enters ≡ fate_in old) × (room_in old ≡ true)).
          subst (λ (seen : Seen T). Follows (start_emit emitter v) old (Ok (begun.Accepted old.next_number)) (with_accepted v seen)) (sym (unchanged old fits.1)) (start_enters fits.0)) fated

      pub start_dropped : dropped ≡ fate_in old → Follows (start_emit emitter v) old (Ok begun.Dropped) old
      start_dropped fated M shows =
          follows_by (starting emitter v) (start_emit emitter v) _ old old M M shows (start_is dropped fated M shows) refl shows.same

      -- a ticket is given where fewer are out than may be
      waits_by : (M : State T) (standing : Standing T) (after : State T) (b : Bool) → Shows old M → ltb (length old.out) old.parameters.emits ≡ b
          → wait_with M standing after ≡ cond b (Ok (begun.Waiting (record { 0 = old.parameters.first + old.tickets })), give standing after) (Err EmitsFull, M)
      waits_by M standing after b shows space =
          let test : ltb (out_count M) M.parameters.emits ≡ b =
          ap (λ n. ltb n M.parameters.emits) (out_count-seen M) ∙ ap (λ (p : Parameters). ltb (length (seen_of M).out) p.emits) (sym (seen_parameters M))
          ∙ ap (λ (seen : Seen T). ltb (length seen.out) seen.parameters.emits) (sym shows.same) ∙ space in
          ap (λ n. cond (ltb (out_count M) M.parameters.emits) (Ok (begun.Waiting (record { 0 = n })), give standing after) (Err EmitsFull, M)) (ticket_shown M shows)
          ∙ ap (λ c. cond c (Ok (begun.Waiting (record { 0 = old.parameters.first + old.tickets })), give standing after) (Err EmitsFull, M)) test

      pub start_full : (f : Fate) → f ≡ fate_in old → (f ≡ handed_over) ⊎ (f ≡ held_up) → ltb (length old.out) old.parameters.emits ≡ false → Follows (start_emit emitter v) old (Err EmitsFull) old
      start_full f fated kind full M shows =
          follows_by (starting emitter v) (start_emit emitter v) (Err EmitsFull) old old M M shows
          (start_is f fated M shows
          ∙ ⊎_elim
          (λ (hands : f ≡ handed_over). ap (λ g. start_by g emitter v M) hands ∙ waits_by M (stands (length M.accepted)) (accept emitter v M) false shows full)
          (λ (holds : f ≡ held_up). ap (λ g. start_by g emitter v M) holds ∙ waits_by M (waits emitter v) M false shows full)
          kind) refl shows.same

      module _ (space : ltb (length old.out) old.parameters.emits ≡ true) where
        abbrev pub begins : Result (Begun ℕ Ticket) Refusal
        begins = Ok (begun.Waiting (record { 0 = old.parameters.first + old.tickets }))

        pub start_hands : handed_over ≡ fate_in old → Follows (start_emit emitter v) old begins (with_ticket (stands (old.next_number - old.parameters.first)) (with_accepted v old))
        start_hands fated M shows =
            follows_by (starting emitter v) (start_emit emitter v) begins old _ M (give (stands (length M.accepted)) (accept emitter v M)) shows
            (start_is handed_over fated M shows ∙ waits_by M (stands (length M.accepted)) (accept emitter v M) true shows space) refl
            (ap (λ i. with_ticket (stands i) (with_accepted v old)) (sym (index_shown M shows)) ∙ ap (with_ticket (stands (length M.accepted))) (accepted_shown emitter v old M shows)
            ∙ sym (seen-give (stands (length M.accepted)) refl (accept emitter v M)))

        pub start_waits : held_up ≡ fate_in old → Follows (start_emit emitter v) old begins (with_ticket (waits emitter v) old)
        start_waits fated M shows =
            follows_by (starting emitter v) (start_emit emitter v) begins old _ M (give (waits emitter v) M) shows
            (start_is held_up fated M shows ∙ waits_by M (waits emitter v) M true shows space) refl
            (ap (with_ticket (waits emitter v)) shows.same ∙ sym (seen-give (waits emitter v) refl M))
