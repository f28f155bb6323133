-- What becomes of a ticket that is out, and of the emission that waits longest.
use Rattle.std.proofs.Common.{◌≡◌, ℕ, zero, suc, ◌+◌, ◌-◌, ◌<◌, Bool, true, false, not, cond, ◌||◌, eqb, leb, List, [], ◌∷◌, ◌++◌, length, take, drop, map, set, Some, None, slice_get, refl, sym, ap, ◌∙◌, subst, arith, append_assoc, length-append}
use Rattle.std.proofs.Math.ListN.{length-map}
use Rattle.std.proofs.Math.Seq.{set-append_seam}
use Rattle.std.proofs.lemmas.Bool.{leb-true}
use Rattle.std.proofs.lemmas.List.{map-append, append-nil, take_all}
use Rattle.std.proofs.lemmas.List.Folds.{list_any-append}
use Rattle.std.proofs.lemmas.List.Edits.{remove-append_left, remove-append_right}
use Rattle.std.proofs.lemmas.Option.{none-some, same_Some, slice_get_within, slice_get-map, get_or_from_slice_get}
use Rattle.std.specs.Option.{option_map}
use Rattle.std.proofs.lemmas.List.Elements.{All-append, All-take, All-drop, All-same}
use Rattle.std.specs.List.{All, filter, list_any, remove}
use Rattle.flow_terms.specs.declared.answers.Emit.TheVariants as emit
use Rattle.flow_terms.specs.declared.answers.Withdrawn.TheVariants as withdrawn
use Rattle.shared_core.specs.declared.tickets.OutTicket.{OutTicket}
use Rattle.shared_core.specs.declared.tickets.Accepted.{Accepted}
use Rattle.shared_core.specs.declared.tickets.Waiting.{Waiting}
use Rattle.shared_core.specs.Flow.{State, Standing, waits, stands, gone, does_wait, is_out, accept, put, change, has_room, number, index}
use Rattle.shared_core.specs.Calls.{poll_emit, poll_at, polling, cancel_emit, cancel_emit_at, withdrawing, ticket_at, or_gone, is_done}
use Rattle.shared_core.specs.Shown.{Seen, seen_of, Shows, Follows, out_from}
use Rattle.shared_core.specs.Accepting.{Settles, Settling, SettlesOnce, with_accepted, waiting_in, room_in, finished_in}
use Rattle.shared_core.specs.Kept.{shown_accepted, shown_waiting}
use Rattle.shared_core.proofs.Sound.{sound-accept, sound-tickets}
use Rattle.shared_core.proofs.Numbered.{IsEntry, entry_of, fails_without_entry}
use Rattle.shared_core.proofs.Settling.{settle-full, settle-none, settle-first, any_numbered}
use Rattle.shared_core.proofs.Steps.{length-change, index-low, shown_sound}
use Rattle.shared_core.proofs.Accepted.{seen-accept, has_room-seen, finished-seen}
use Rattle.shared_core.proofs.Emitting.{follows_by}
use Rattle.shared_core.proofs.Entries.{list_any-map, map-remove}

module _ {X : Type 0} where
  get_left : (xs ys : List X) (k : ℕ) (x : X) → slice_get xs k ≡ Some x → slice_get (xs ++ ys) k ≡ Some x
  get_left [] ys k x gets = absurd (none-some _ gets)
  get_left (y ∷ xs) ys zero x gets = gets
  get_left (y ∷ xs) ys (suc k) x gets = get_left xs ys k x gets

  get_right : (xs ys : List X) (k : ℕ) → slice_get (xs ++ ys) (length xs + k) ≡ slice_get ys k
  get_right [] ys k = ap (slice_get ys) (omega arith)
  get_right (x ∷ xs) ys k = let more : suc (length xs) + k ≡ suc (length xs + k) = omega arith in ap (slice_get (x ∷ xs ++ ys)) more ∙ get_right xs ys k

  take_left : (xs ys : List X) → take (length xs) (xs ++ ys) ≡ xs
  take_left [] [] = refl
  take_left [] (y ∷ ys) = refl
  take_left (x ∷ xs) ys = ap (λ r. x ∷ r) (take_left xs ys)

-- what holds of each ticket that is out holds of those that are left
pub still_indexes : {X : Type 0} (P : X → Type 0) (xs ys : List X) (at : ℕ) → ys ≡ remove xs at → All P xs → All P ys
still_indexes P xs ys at is all = All-same P ys (remove xs at) is (All-append P (take at xs) (drop (suc at) xs) (All-take P at xs all) (All-drop P (suc at) xs all))

pub holds_there : {X : Type 0} (P : X → Type 0) (xs : List X) (at : ℕ) (x : X) → All P xs → slice_get xs at ≡ Some x → P x
holds_there P xs at x all gets = subst P (get_or_from_slice_get xs at x x gets) (all at x (slice_get_within xs at x gets))

-- the ticket of an emission that waited, now that it was accepted
abbrev pub landed : {T : Type 0} → ℕ → OutTicket (Waiting T) → OutTicket Accepted
landed i w = record { ticket = w.ticket; emission = record { index = i } }

gone_unless_out : {T : Type 0} (t : Standing T) → is_out t ≡ false → t ≡ gone
gone_unless_out (waits emitter v) fails = absurd (cc)
gone_unless_out (stands i) fails = absurd (cc)
gone_unless_out gone fails = refl

none_wait : (T : Type 0) (us : List (OutTicket Accepted)) → list_any (λ (e : ℕ × Standing T). does_wait e.1) (map shown_accepted us) ≡ false
none_wait T [] = refl
none_wait T (u ∷ us) = none_wait T us

module _ {T : Type 0} where
  abbrev as_it_is : Standing T → Standing T
  as_it_is standing = standing

  abbrev IsTicket : State T → ℕ → ℕ → Standing T → Type 0
  IsTicket M at n standing = IsEntry is_out as_it_is M.parameters.first M.tickets at n standing

  -- ---- one ticket, as contracts see it

  ticket-missing : (M : State T) (n : ℕ) → list_any (λ e. eqb e.0 n) (out_from M.parameters.first M.tickets) ≡ false → ticket_at M.tickets (index M n) ≡ gone
  ticket-missing M n missing =
      let first = M.parameters.first in
      elim (leb first n) as (λ b. leb first n ≡ b → ticket_at M.tickets (cond b (Some (n - first)) None) ≡ gone) [
        | true ↦ λ low. elim (slice_get M.tickets (n - first)) as (λ o. slice_get M.tickets (n - first) ≡ o → or_gone o ≡ gone) [
          | None ↦ λ _. refl
          | Some t ↦ λ gets. gone_unless_out t (fails_without_entry is_out as_it_is first n M.tickets (leb-true first n low) missing t gets)
        ] refl
        | false ↦ λ _. refl
      ] refl

  index-ticket : (M : State T) {at n : ℕ} {standing : Standing T} (e : IsTicket M at n standing) → index M n ≡ Some e.k
  index-ticket M e = ap (index M) e.is_number ∙ index-low M e.k

  ticket-there : (M : State T) {at n : ℕ} {standing : Standing T} (e : IsTicket M at n standing) → ticket_at M.tickets (index M n) ≡ standing
  ticket-there M e = ap (ticket_at M.tickets) (index-ticket M e) ∙ ap or_gone e.gets ∙ sym e.shows

  seen-put_gone : (M : State T) {at n : ℕ} {standing : Standing T} (e : IsTicket M at n standing) → record (seen_of M) { out = remove (seen_of M).out at } ≡ seen_of (put e.k gone M)
  unfolding seen_of
  seen-put_gone M {at = at} e =
      ap (λ xs. record (seen_of M) { out = xs }) (sym (e.removed (λ _. gone) refl))
      ∙ ap (λ n. record (seen_of M) { tickets = n; out = out_from M.parameters.first (change e.k (λ _. gone) M.tickets) }) (sym (length-change e.k (λ _. gone) M.tickets))

  module _ (old : Seen T) where
    ticket_of : (M : State T) → Shows old M → (at n : ℕ) (standing : Standing T) → slice_get old.out at ≡ Some (n, standing) → IsTicket M at n standing
    unfolding seen_of
    ticket_of M shows at n standing gets =
        entry_of is_out as_it_is M.parameters.first M.tickets at n standing (ap (λ (seen : Seen T). slice_get seen.out at) (sym shows.same) ∙ gets)

    missing_of : (M : State T) → Shows old M → (n : ℕ) → list_any (λ e. eqb e.0 n) old.out ≡ false → ticket_at M.tickets (index M n) ≡ gone
    unfolding seen_of
    missing_of M shows n missing =
        ticket-missing M n (ap (λ (seen : Seen T). list_any (λ e. eqb e.0 n) seen.out) (sym shows.same) ∙ missing)

    -- what is seen once the ticket is gone
    without_ticket : (M : State T) → Shows old M → {at n : ℕ} {standing : Standing T} (e : IsTicket M at n standing) → record old { out = remove old.out at } ≡ seen_of (put e.k gone M)
    without_ticket M shows {at = at} e = ap (λ (seen : Seen T). record seen { out = remove seen.out at }) shows.same ∙ seen-put_gone M e

    number_of : (M : State T) → Shows old M → (i : ℕ) → number M i ≡ old.parameters.first + i
    unfolding seen_of
    number_of M shows i = ap (λ (seen : Seen T). seen.parameters.first + i) (sym shows.same)

    -- ---- a poll

    pub poll_missing : (n : ℕ) → list_any (λ e. eqb e.0 n) old.out ≡ false → Follows (poll_emit n) old emit.Gone old
    unfolding poll_emit
    poll_missing n missing M shows =
        follows_by (polling n) (poll_emit n) emit.Gone old old M M shows
        (ap (λ t. poll_at (index M n) t M) (missing_of M shows n missing)) refl shows.same

    pub poll_waiting : (at n emitter : ℕ) (v : T) → slice_get old.out at ≡ Some (n, waits emitter v) → Follows (poll_emit n) old emit.Waiting old
    unfolding poll_emit
    poll_waiting at n emitter v gets M shows =
        follows_by (polling n) (poll_emit n) emit.Waiting old old M M shows
        (ap (λ t. poll_at (index M n) t M) (ticket-there M (ticket_of M shows at n (waits emitter v) gets))) refl shows.same

    module _ (at n i : ℕ) (gets : slice_get old.out at ≡ Some (n, stands i)) where
      done_of : (M : State T) (shows : Shows old M) → old.parameters.first + i < old.next_number → (b : Bool) → finished_in i old ≡ b
          → poll_emit n M ≡ cond b (emit.Done (old.parameters.first + i), put (ticket_of M shows at n (stands i) gets).k gone M) (emit.Waiting, M)
      unfolding poll_emit seen_of
      done_of M shows within b finished =
          let e = ticket_of M shows at n (stands i) gets in
          let accepted : M.parameters.first + i < (seen_of M).next_number = subst (λ (seen : Seen T). seen.parameters.first + i < seen.next_number) shows.same within in
          let test : is_done M i ≡ b = finished-seen M i (shown_sound shows) accepted ∙ ap (finished_in i) (sym shows.same) ∙ finished in
          ap (λ t. poll_at (index M n) t M) (ticket-there M e) ∙ ap (λ o. poll_at o (stands i) M) (index-ticket M e)
          ∙ ap (λ c. cond c (emit.Done (number M i), put e.k gone M) (emit.Waiting, M)) test
          ∙ ap (λ m. cond b (emit.Done m, put e.k gone M) (emit.Waiting, M)) (number_of M shows i)

      pub poll_unfinished : old.parameters.first + i < old.next_number → finished_in i old ≡ false → Follows (poll_emit n) old emit.Waiting old
      poll_unfinished within accepted M shows =
          follows_by (polling n) (poll_emit n) emit.Waiting old old M M shows (done_of M shows within false accepted) refl shows.same

      pub poll_done : old.parameters.first + i < old.next_number → finished_in i old ≡ true → Follows (poll_emit n) old (emit.Done (old.parameters.first + i)) (record old { out = remove old.out at })
      poll_done within finished M shows =
          let e = ticket_of M shows at n (stands i) gets in
          follows_by (polling n) (poll_emit n) (emit.Done (old.parameters.first + i)) old _ M (put e.k gone M) shows (done_of M shows within true finished) refl (without_ticket M shows e)

      pub withdraw_stands : Follows (cancel_emit n) old (withdrawn.Left (old.parameters.first + i)) (record old { out = remove old.out at })
      unfolding cancel_emit
      withdraw_stands M shows =
          let e = ticket_of M shows at n (stands i) gets in
          follows_by (withdrawing n) (cancel_emit n) (withdrawn.Left (old.parameters.first + i)) old _ M (put e.k gone M) shows
          (ap (λ t. cancel_emit_at (index M n) t M) (ticket-there M e) ∙ ap (λ o. cancel_emit_at o (stands i) M) (index-ticket M e)
          ∙ ap (λ m. (withdrawn.Left m, put e.k gone M)) (number_of M shows i)) refl (without_ticket M shows e)

    pub withdraw_missing : (n : ℕ) → list_any (λ e. eqb e.0 n) old.out ≡ false → Follows (cancel_emit n) old withdrawn.Gone old
    unfolding cancel_emit
    withdraw_missing n missing M shows =
        follows_by (withdrawing n) (cancel_emit n) withdrawn.Gone old old M M shows
        (ap (λ t. cancel_emit_at (index M n) t M) (missing_of M shows n missing)) refl shows.same

    pub withdraw_waiting : (at n emitter : ℕ) (v : T) → slice_get old.out at ≡ Some (n, waits emitter v)
        → Follows (cancel_emit n) old withdrawn.Removed (record old { out = remove old.out at })
    unfolding cancel_emit
    withdraw_waiting at n emitter v gets M shows =
        let e = ticket_of M shows at n (waits emitter v) gets in
        follows_by (withdrawing n) (cancel_emit n) withdrawn.Removed old _ M (put e.k gone M) shows
        (ap (λ t. cancel_emit_at (index M n) t M) (ticket-there M e) ∙ ap (λ o. cancel_emit_at o (waits emitter v) M) (index-ticket M e)) refl (without_ticket M shows e)

  -- ---- the two lists of tickets

  abbrev pub shown_out : List (OutTicket Accepted) → List (OutTicket (Waiting T)) → List (ℕ × Standing T)
  shown_out us ws = map shown_accepted us ++ map shown_waiting ws

  all_wait : (ws : List (OutTicket (Waiting T))) → length (filter (λ (e : ℕ × Standing T). does_wait e.1) (map shown_waiting ws)) ≡ length ws
  all_wait [] = refl
  all_wait (w ∷ ws) = ap suc (all_wait ws)

  accepted_part : (us : List (OutTicket Accepted)) (ws : List (OutTicket (Waiting T))) → filter (λ e. not (does_wait e.1)) (shown_out us ws) ≡ map shown_accepted us
  accepted_part [] [] = refl
  accepted_part [] (w ∷ ws) = accepted_part [] ws
  accepted_part (u ∷ us) ws = ap (λ xs. shown_accepted u ∷ xs) (accepted_part us ws)

  waiting_part : (us : List (OutTicket Accepted)) (ws : List (OutTicket (Waiting T))) → filter (λ e. does_wait e.1) (shown_out us ws) ≡ map shown_waiting ws
  waiting_part [] [] = refl
  waiting_part [] (w ∷ ws) = ap (λ xs. shown_waiting w ∷ xs) (waiting_part [] ws)
  waiting_part (u ∷ us) ws = waiting_part us ws

  -- one more accepted emission beside lists that contracts see alike
  pub one_more_accepted : (us vs : List (OutTicket Accepted)) (ws xs : List (OutTicket (Waiting T))) (h : OutTicket Accepted) → shown_out us ws ≡ shown_out vs xs → shown_out (us ++ h ∷ []) ws ≡ shown_out (vs ++ h ∷ []) xs
  one_more_accepted us vs ws xs h same =
      let accepted = sym (accepted_part us ws) ∙ ap (filter (λ e. not (does_wait e.1))) same ∙ accepted_part vs xs in
      let waiting = sym (waiting_part us ws) ∙ ap (filter (λ e. does_wait e.1)) same ∙ waiting_part vs xs in
      ap (λ es. es ++ map shown_waiting ws) (map-append (shown_accepted {T = T}) us (h ∷ []))
      ∙ ap (λ es. (es ++ shown_accepted h ∷ []) ++ map shown_waiting ws) accepted
      ∙ ap (λ es. (map shown_accepted vs ++ shown_accepted h ∷ []) ++ es) waiting
      ∙ ap (λ es. es ++ map shown_waiting xs) (sym (map-append (shown_accepted {T = T}) vs (h ∷ [])))

  pub count_waiting : (us : List (OutTicket Accepted)) (ws : List (OutTicket (Waiting T))) → length (filter (λ e. does_wait e.1) (shown_out us ws)) ≡ length ws
  count_waiting [] ws = all_wait ws
  count_waiting (u ∷ us) ws = count_waiting us ws

  pub length-out : (us : List (OutTicket Accepted)) (ws : List (OutTicket (Waiting T))) → length (shown_out us ws) ≡ length us + length ws
  length-out us ws = omega (arith, length-append (map (shown_accepted {T = T}) us) (map shown_waiting ws), length-map us (shown_accepted {T = T}), length-map ws (shown_waiting {T = T}))

  out_waiting : (us : List (OutTicket Accepted)) (ws : List (OutTicket (Waiting T))) (at : ℕ) (h : OutTicket (Waiting T)) → slice_get ws at ≡ Some h → slice_get (shown_out us ws) (length us + at) ≡ Some (shown_waiting h)
  out_waiting us ws at h gets =
      ap (λ n. slice_get (shown_out us ws) (n + at)) (sym (length-map us (shown_accepted {T = T})))
      ∙ get_right (map shown_accepted us) (map shown_waiting ws) at ∙ slice_get-map shown_waiting ws at ∙ ap (option_map shown_waiting) gets

  module _ (old : Seen T) (us : List (OutTicket Accepted)) (ws : List (OutTicket (Waiting T))) (out : old.out ≡ shown_out us ws) where
    pub held_nowhere : (n : ℕ) → list_any (λ h. eqb h.ticket n) us ≡ false → list_any (λ h. eqb h.ticket n) ws ≡ false → list_any (λ e. eqb e.0 n) old.out ≡ false
    held_nowhere n no_accepted no_waiting =
        ap (list_any (λ e. eqb e.0 n)) out
        ∙ list_any-append (λ (e : ℕ × Standing T). eqb e.0 n) (map shown_accepted us) (map shown_waiting ws)
        ∙ ap (λ b. b || list_any (λ e. eqb e.0 n) (map (shown_waiting {T = T}) ws)) (list_any-map (λ (e : ℕ × Standing T). eqb e.0 n) shown_accepted us ∙ no_accepted)
        ∙ list_any-map (λ (e : ℕ × Standing T). eqb e.0 n) shown_waiting ws ∙ no_waiting

    pub held_accepted : (at n : ℕ) (h : OutTicket Accepted) → slice_get us at ≡ Some h → (p : OutTicket Accepted) × (slice_get us at ≡ Some p) × (p.ticket ≡ n) → slice_get old.out at ≡ Some (n, stands h.emission.index)
    held_accepted at n h gets found =
        ap (λ xs. slice_get xs at) out
        ∙ get_left (map shown_accepted us) (map shown_waiting ws) at (shown_accepted h) (slice_get-map shown_accepted us at ∙ ap (option_map shown_accepted) gets)
        ∙ ap (λ m. Some (m, stands h.emission.index)) (ap (λ (p : OutTicket Accepted). p.ticket) (same_Some h found.0 (sym gets ∙ found.1)) ∙ found.2)

    pub held_waiting : (at n : ℕ) (found : (p : OutTicket (Waiting T)) × (slice_get ws at ≡ Some p) × (p.ticket ≡ n)) → slice_get old.out (length us + at) ≡ Some (n, waits found.0.emission.emitter found.0.emission.value)
    held_waiting at n found =
        ap (λ xs. slice_get xs (length us + at)) out ∙ out_waiting us ws at found.0 found.1 ∙ ap (λ m. Some (m, waits found.0.emission.emitter found.0.emission.value)) found.2

    pub without_accepted : (at : ℕ) (rest : List (OutTicket Accepted)) → at < length us → rest ≡ remove us at → record old { out = shown_out rest ws } ≡ record old { out = remove old.out at }
    without_accepted at rest within is =
        ap (λ vs. record old { out = shown_out vs ws }) is
        ∙ ap (λ xs. record old { out = xs })
        (ap (λ xs. xs ++ map shown_waiting ws) (map-remove shown_accepted us at)
        ∙ sym (remove-append_left (map shown_accepted us) (map shown_waiting ws) at (omega (arith, length-map us (shown_accepted {T = T})))) ∙ ap (λ xs. remove xs at) (sym out))

    pub without_waiting : (at : ℕ) (rest : List (OutTicket (Waiting T))) → rest ≡ remove ws at → record old { out = shown_out us rest } ≡ record old { out = remove old.out (length us + at) }
    without_waiting at rest is =
        let back : (length us + at) - length us ≡ at = omega arith in
        ap (λ vs. record old { out = shown_out us vs }) is
        ∙ ap (λ xs. record old { out = xs })
        (ap (λ xs. map shown_accepted us ++ xs) (map-remove shown_waiting ws at) ∙ ap (λ k. map shown_accepted us ++ remove (map shown_waiting ws) k) (sym back)
        ∙ sym (remove-append_right (map shown_accepted us) (map shown_waiting ws) (length us) (length us + at) (length-map us (shown_accepted {T = T})) (omega arith))
        ∙ ap (λ xs. remove xs (length us + at)) (sym out))

  -- ---- the emission that waits longest

  pub settles_full : (old : Seen T) → room_in old ≡ false → Settles old old
  settles_full old full M sound same = same ∙ ap seen_of (sym (settle-full M (has_room-seen M sound ∙ ap room_in (sym same) ∙ full)))

  pub settles_none : (old : Seen T) (us : List (OutTicket Accepted)) → old.out ≡ shown_out us [] → Settles old old
  unfolding seen_of
  settles_none old us out M sound same =
      let none : list_any does_wait M.tickets ≡ false =
      any_numbered M.parameters.first M.tickets ∙ ap (λ (seen : Seen T). list_any (λ e. does_wait e.1) seen.out) (sym same) ∙ ap (list_any (λ e. does_wait e.1)) (out ∙ append-nil _) ∙ none_wait T us in
      same ∙ ap seen_of (sym (settle-none M (ap (list_any does_wait) (take_all (length M.tickets) M.tickets (omega arith)) ∙ none)))

  seen-put_stands : (M : State T) {at n : ℕ} {standing : Standing T} (e : IsTicket M at n standing) (i : ℕ) → seen_of (put e.k (stands i) M) ≡ record (seen_of M) { out = set (seen_of M).out at (n, stands i) }
  unfolding seen_of
  seen-put_stands M {at = at} {n = n} e i =
      ap (λ k. record (seen_of M) { tickets = k; out = out_from M.parameters.first (change e.k (λ _. stands i) M.tickets) }) (length-change e.k (λ _. stands i) M.tickets)
      ∙ ap (λ xs. record (seen_of M) { out = xs }) (e.kept (λ _. stands i) refl)

  module _ (old new : Seen T) (us : List (OutTicket Accepted)) (w : OutTicket (Waiting T)) (ws : List (OutTicket (Waiting T))) (i : ℕ) (index_is : i ≡ old.next_number - old.parameters.first) where
    out_landed : set (shown_out us (w ∷ ws)) (length us) (w.ticket, stands i) ≡ shown_out (us ++ landed i w ∷ []) ws
    out_landed =
        ap (λ k. set (shown_out us (w ∷ ws)) k (w.ticket, stands i)) (sym (length-map us (shown_accepted {T = T})))
        ∙ set-append_seam (map shown_accepted us) (shown_waiting w) (map shown_waiting ws) (w.ticket, stands i)
        ∙ sym (append_assoc (map shown_accepted us) ((w.ticket, stands i) ∷ []) (map shown_waiting ws))
        ∙ ap (λ xs. xs ++ map shown_waiting ws) (sym (map-append (shown_accepted {T = T}) us (landed i w ∷ [])))

    settles_to : old.out ≡ shown_out us (w ∷ ws) → room_in old ≡ true → new ≡ record (with_accepted w.emission.value old) { out = shown_out (us ++ landed i w ∷ []) ws } → Settling old new
    unfolding seen_of
    settles_to out room new_is M sound same =
        let v = w.emission.value in
        let emitter = w.emission.emitter in
        let at = length us in
        let out_of : out_from M.parameters.first M.tickets ≡ shown_out us (w ∷ ws) = ap (λ (seen : Seen T). seen.out) (sym same) ∙ out in
        let there : slice_get (out_from M.parameters.first M.tickets) at ≡ Some (w.ticket, waits emitter v) =
        ap (λ xs. slice_get xs at) out_of ∙ ap (slice_get (shown_out us (w ∷ ws))) (let e : at ≡ at + 0 = omega arith in e) ∙ out_waiting us (w ∷ ws) 0 w refl in
        let e = entry_of is_out as_it_is M.parameters.first M.tickets at w.ticket (waits emitter v) there in
        let gets : slice_get M.tickets e.k ≡ Some (waits emitter v) = e.gets ∙ ap Some (sym e.shows) in
        let none : list_any does_wait (take e.k M.tickets) ≡ false =
        any_numbered M.parameters.first (take e.k M.tickets) ∙ ap (list_any (λ e. does_wait e.1)) (e.before ∙ ap (take at) out_of
        ∙ ap (λ n. take n (shown_out us (w ∷ ws))) (sym (length-map us (shown_accepted {T = T}))) ∙ take_left (map shown_accepted us) (map shown_waiting (w ∷ ws))) ∙ none_wait T us in
        let has : has_room M ≡ true = has_room-seen M sound ∙ ap room_in (sym same) ∙ room in
        let A = accept emitter v M in
        let N = put e.k (stands (length M.accepted)) A in
        let count : length M.accepted ≡ i =
        (let back : length M.accepted ≡ (M.parameters.first + length M.accepted) - M.parameters.first = omega arith in back) ∙ ap (λ (seen : Seen T). seen.next_number - seen.parameters.first) (sym same) ∙ sym index_is in
        let shown : seen_of N ≡ new =
        seen-put_stands A e (length M.accepted)
        ∙ ap (λ (seen : Seen T). record seen { out = set (out_from M.parameters.first M.tickets) at (w.ticket, stands (length M.accepted)) }) (seen-accept emitter v M sound ∙ ap (with_accepted v) (sym same))
        ∙ ap (λ k. record (with_accepted v old) { out = set (out_from M.parameters.first M.tickets) at (w.ticket, stands k) }) count
        ∙ ap (λ xs. record (with_accepted v old) { out = set xs at (w.ticket, stands i) }) out_of
        ∙ ap (λ xs. record (with_accepted v old) { out = xs }) out_landed
        ∙ sym new_is in
        (N, sound-tickets A N.tickets (sound-accept emitter v M sound), sym shown, sym (settle-first M e.k emitter v gets none has))

    pub settles_once : old.out ≡ shown_out us (w ∷ ws) → room_in old ≡ true → new ≡ record (with_accepted w.emission.value old) { out = shown_out (us ++ landed i w ∷ []) ws } → SettlesOnce old true new
    settles_once out room new_is =
        let before : waiting_in old ≡ suc (length ws) = ap (λ xs. length (filter (λ e. does_wait e.1) xs)) out ∙ count_waiting us (w ∷ ws) in
        let after : waiting_in new ≡ length ws = ap waiting_in new_is ∙ count_waiting (us ++ landed i w ∷ []) ws in
        (settles_to out room new_is, omega arith)
