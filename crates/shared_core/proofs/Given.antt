-- The values in the replies to `next` are those that the subscription received.
use Rattle.std.proofs.Common.{◌≡◌, ℕ, zero, suc, ◌+◌, ◌-◌, ◌<◌, ⊎_elim, Bool, true, false, cond, ◌||◌, eqb, leb, List, [], ◌∷◌, ◌++◌, length, take, drop, map, Option, Some, None, slice_get, refl, sym, ap, ◌∙◌, subst, arith, append_assoc, length-drop}
use Rattle.std.proofs.Math.Bool.{or-true}
use Rattle.std.proofs.Math.Dec.{eqb-suc-suc}
use Rattle.std.proofs.Math.ListN.{length-map}
use Rattle.std.proofs.lemmas.Bool.{eq-eqb, ne_eqb, eqb-true, eqb-false, leb-true}
use Rattle.std.proofs.lemmas.List.{append-nil, map-append}
use Rattle.std.proofs.lemmas.List.Elements.{filter_map-append}
use Rattle.std.proofs.lemmas.Option.{none-some, same_Some, some_pair_parts}
use Rattle.std.specs.List.{cons_option}
use Rattle.flow_terms.specs.declared.answers.Next.TheVariants as next
use Rattle.shared_core.specs.Flow.{State, Subscription, empty, rest, accept, lose_oldest, greet, receive, settle, change, contains, greeted, received_next, lost_next, lose_first, pending, pending_values, values, values_at, number}
use Rattle.shared_core.specs.Calls.{Call, trying, starting, polling, withdrawing, subscribing, receiving, cancelling, resetting, counting, Reply, to_try, to_start, to_poll, to_withdraw, to_subscribe, to_receive, to_cancel, to_reset, to_count, step, replies, after, next_value, next_at, next_of, live_one, live_at, if_live}
use Rattle.shared_core.specs.Story.{IsTold, told_count, received_values, given_to, ReceivedLaw}
use Rattle.shared_core.proofs.Lists.{range_bounds, contains-Interleaves}
use Rattle.shared_core.proofs.Greeting.{rest-live, greeted-some}
use Rattle.shared_core.proofs.Pending.{position, pending_values-live, received_next-some}
use Rattle.shared_core.specs.Accepting.{IsSound}
use Rattle.shared_core.proofs.Sound.{sound-empty, sound-accept, sound-greet, sound-receive, sound-lose_oldest, sound-open, sound-close, sound-reset, sound-tickets, all_at}
use Rattle.shared_core.proofs.Walks.{OverQuiet, IsQuiet, step_quiet, settle_over}

pub slice_get-append : {X : Type 0} (xs ys : List X) (i : ℕ) → i < length xs → slice_get (xs ++ ys) i ≡ slice_get xs i
slice_get-append [] ys i within = absurd (omega arith)
slice_get-append (x ∷ xs) ys zero within = refl
slice_get-append (x ∷ xs) ys (suc i) within = slice_get-append xs ys i (omega arith)

values_at-longer : {T : Type 0} (xs ys : List T) (indexes : List ℕ) → ((i : ℕ) → contains indexes i ≡ true → i < length xs) → values_at (xs ++ ys) indexes ≡ values_at xs indexes
values_at-longer xs ys [] within = refl
values_at-longer xs ys (i ∷ indexes) within =
    let here = slice_get-append xs ys i (within i (ap (λ b. b || contains indexes i) (eq-eqb i i refl))) in
    let rest = values_at-longer xs ys indexes (λ j h. within j (ap (λ b. eqb j i || b) h ∙ or-true (eqb j i))) in
    ap (λ o. cons_option o (values_at (xs ++ ys) indexes)) here ∙ ap (cons_option (slice_get xs i)) rest

-- what was received was accepted
received_within : {T : Type 0} (total : ℕ) (s : Subscription T) → IsTold total s → (i : ℕ) → contains s.received i ≡ true → i < total
received_within total s told i within =
    let bounds = range_bounds s.start (told_count s) i (sym (contains-Interleaves i told.together) ∙ ap (λ b. b || contains s.lost i) within) in
    omega (arith, told.within)

abbrev got_of : {T : Type 0} → List (ℕ × T) → Option (Subscription T) → List T
got_of accepted None = []
got_of accepted (Some s) = received_values accepted s

got_changed : {T : Type 0} (accepted : List (ℕ × T)) (n : ℕ) (f : Subscription T → Subscription T) → ((s : Subscription T) → received_values accepted (f s) ≡ received_values accepted s) → (k : ℕ) (xs : List (Subscription T))
    → got_of accepted (slice_get (change n f xs) k) ≡ got_of accepted (slice_get xs k)
got_changed accepted n f same k [] = refl
got_changed accepted zero f same zero (x ∷ xs) = same x
got_changed accepted zero f same (suc k) (x ∷ xs) = refl
got_changed accepted (suc n) f same zero (x ∷ xs) = refl
got_changed accepted (suc n) f same (suc k) (x ∷ xs) = got_changed accepted n f same k xs

got_mapped : {T : Type 0} (accepted : List (ℕ × T)) (f : Subscription T → Subscription T) → ((s : Subscription T) → received_values accepted (f s) ≡ received_values accepted s) → (k : ℕ) (xs : List (Subscription T))
    → got_of accepted (slice_get (map f xs) k) ≡ got_of accepted (slice_get xs k)
got_mapped accepted f same k [] = refl
got_mapped accepted f same zero (x ∷ xs) = same x
got_mapped accepted f same (suc k) (x ∷ xs) = got_mapped accepted f same k xs

got_pushed : {T : Type 0} (accepted : List (ℕ × T)) (new : Subscription T) → received_values accepted new ≡ [] → (k : ℕ) (xs : List (Subscription T))
    → got_of accepted (slice_get (xs ++ new ∷ []) k) ≡ got_of accepted (slice_get xs k)
got_pushed accepted new fresh zero [] = fresh
got_pushed accepted new fresh (suc k) [] = refl
got_pushed accepted new fresh zero (x ∷ xs) = refl
got_pushed accepted new fresh (suc k) (x ∷ xs) = got_pushed accepted new fresh k xs

lose_first-received : {T : Type 0} (accepted : List (ℕ × T)) (s : Subscription T) (indexes : List ℕ) → received_values accepted (lose_first s indexes) ≡ received_values accepted s
lose_first-received accepted s [] = refl
lose_first-received accepted s (i ∷ more) = refl

cond-received : {T : Type 0} (accepted : List (ℕ × T)) (b : Bool) (s t : Subscription T) → received_values accepted t ≡ received_values accepted s → received_values accepted (cond b t s) ≡ received_values accepted s
cond-received accepted true s t same = same
cond-received accepted false s t same = refl

take-next : {X : Type 0} (n : ℕ) (xs : List X) (x : X) (more : List X) → drop n xs ≡ x ∷ more → take (n + 1) xs ≡ take n xs ++ x ∷ []
take-next zero [] x more is = absurd (cc)
take-next zero (y ∷ xs) x more is = cc
take-next (suc n) [] x more is = absurd (cc)
take-next (suc n) (y ∷ xs) x more is = let same : suc n + 1 ≡ suc (n + 1) = omega arith in ap (λ k. take k (y ∷ xs)) same ∙ ap (λ ys. y ∷ ys) (take-next n xs x more is)

first_dropped : {X : Type 0} (p : ℕ) (xs : List X) (v : X) (rest : List X) → drop p xs ≡ v ∷ rest → slice_get xs p ≡ Some v
first_dropped zero [] v rest is = absurd (cc)
first_dropped zero (x ∷ xs) v rest is = let same : x ≡ v = cc in ap Some same
first_dropped (suc p) [] v rest is = absurd (cc)
first_dropped (suc p) (x ∷ xs) v rest is = first_dropped p xs v rest is

module _ {T : Type 0} where
  abbrev got : State T → ℕ → List T
  got M k = got_of M.accepted (slice_get M.subscriptions k)

  -- nothing is received from M to N
  abbrev Keeps : State T → State T → Type 0
  Keeps M N = IsSound M → IsSound N × (N.parameters ≡ M.parameters) × ((k : ℕ) → got N k ≡ got M k)

  got_accepted : (emitter : ℕ) (v : T) (M : State T) (k : ℕ) (o : Option (Subscription T)) → slice_get M.subscriptions k ≡ o → IsSound M
      → got_of (M.accepted ++ (emitter, v) ∷ []) o ≡ got_of M.accepted o
  got_accepted emitter v M k None gets sound = refl
  got_accepted emitter v M k (Some s) gets sound =
      let told = all_at (IsTold (length M.accepted)) M.subscriptions k s sound.told gets in
      ap (λ xs. take s.given s.prelude ++ values_at xs s.received) (map-append (λ (e : ℕ × T). e.1) M.accepted ((emitter, v) ∷ []))
      ∙ ap (λ xs. take s.given s.prelude ++ xs) (values_at-longer (values M.accepted) (v ∷ []) s.received (λ i within.
      let below = received_within (length M.accepted) s told i within in omega (arith, length-map M.accepted (λ (e : ℕ × T). e.1))))

  keeps_accepted : (emitter : ℕ) (v : T) (M : State T) → Keeps M (accept emitter v M)
  keeps_accepted emitter v M sound = (sound-accept emitter v M sound, refl, λ k. got_accepted emitter v M k (slice_get M.subscriptions k) refl sound)

  keeps-quiet : OverQuiet Keeps
  keeps-quiet = record {
    same = λ M sound. (sound, refl, λ k. refl);
    then = λ first second sound. let mid = first sound in let last = second mid.0 in (last.0, last.1 ∙ mid.1, λ k. last.2 k ∙ mid.2 k);
    accepts = λ emitter v M _ sound. keeps_accepted emitter v M sound;
    pushes = λ emitter v M _ sound.
        let lost = sound-lose_oldest M sound in
        let accepted = keeps_accepted emitter v (lose_oldest M) lost in (
          accepted.0,
          refl,
          λ k.
              accepted.2 k
              ∙ got_mapped M.accepted _ (λ s. cond-received M.accepted _ s (lost_next (length M.accepted) s) (lose_first-received M.accepted s (pending (length M.accepted) s))) k M.subscriptions,
        );
    opens = λ prelude M sound. (sound-open prelude M sound, refl, λ k. got_pushed M.accepted _ refl k M.subscriptions);
    closes = λ n M sound. (sound-close n M sound, refl, λ k. got_changed M.accepted n (λ s. record s { live = false }) (λ s. refl) k M.subscriptions);
    tickets = λ M tickets sound. (sound-tickets M tickets sound, refl, λ k. refl);
  }

  -- one more value for a subscription, where it is the one of this number
  abbrev with_one : ℕ → ℕ → T → List T → List T
  with_one k n v xs = cond (eqb k n) (xs ++ v ∷ []) xs

  got_taken : (f : Subscription T → Subscription T) (accepted : List (ℕ × T)) (n k : ℕ) (s : Subscription T) (v : T) (xs : List (Subscription T)) → slice_get xs n ≡ Some s
      → received_values accepted (f s) ≡ received_values accepted s ++ v ∷ []
      → got_of accepted (slice_get (change n f xs) k) ≡ with_one k n v (got_of accepted (slice_get xs k))
  got_taken f accepted n k s v [] gets one = absurd (none-some s gets)
  got_taken f accepted zero zero s v (x ∷ xs) gets one =
      let same = same_Some x s gets in
      subst (λ (t : Subscription T). received_values accepted (f t) ≡ received_values accepted t ++ v ∷ []) (sym same) one
  got_taken f accepted zero (suc k) s v (x ∷ xs) gets one =
      ap (λ b. cond b (got_of accepted (slice_get xs k) ++ v ∷ []) (got_of accepted (slice_get xs k))) (sym (ne_eqb (suc k) 0 (λ h. omega arith)))
  got_taken f accepted (suc n) zero s v (x ∷ xs) gets one =
      ap (λ b. cond b (received_values accepted x ++ v ∷ []) (received_values accepted x)) (sym (ne_eqb 0 (suc n) (λ h. omega arith)))
  got_taken f accepted (suc n) (suc k) s v (x ∷ xs) gets one =
      got_taken f accepted n k s v xs gets one
      ∙ ap (λ b. cond b (got_of accepted (slice_get xs k) ++ v ∷ []) (got_of accepted (slice_get xs k))) (sym (eqb-suc-suc k n))

  -- the live subscription that a number names
  pub record IsFound (M : State T) (n k : ℕ) (s : Subscription T) : Type 0 where
    pub named : n ≡ number M k
    pub gets : slice_get M.subscriptions k ≡ Some s
    pub lives : s.live ≡ true

  found_live : (M : State T) (n j k : ℕ) (s : Subscription T) (o : Option (Subscription T)) → n ≡ number M j → slice_get M.subscriptions j ≡ o → if_live j o ≡ Some (k, s) → IsFound M n k s
  found_live M n j k s None named gets is = absurd (none-some _ is)
  found_live M n j k s (Some t) named gets is =
      let target : Option (ℕ × Subscription T) = Some (k, s) in
      let this : Option (ℕ × Subscription T) = Some (j, t) in
      elim t.live as (λ b. t.live ≡ b → cond b this None ≡ target → IsFound M n k s) [
        | true ↦ λ live same.
            let parts = some_pair_parts j k t s same in
            record {
              named = named ∙ ap (number M) parts.0;
              gets = ap (slice_get M.subscriptions) (sym parts.0) ∙ gets ∙ ap Some parts.1;
              lives = ap (λ (u : Subscription T). u.live) (sym parts.1) ∙ live;
            }
        | false ↦ λ _ same. absurd (none-some _ same)
      ] refl is

  pub found_one : (M : State T) (n k : ℕ) (s : Subscription T) → live_one M n ≡ Some (k, s) → IsFound M n k s
  found_one M n k s is =
      elim (leb M.parameters.first n) as (λ b. leb M.parameters.first n ≡ b → live_at M.subscriptions (cond b (Some (n - M.parameters.first)) None) ≡ Some (k, s) → IsFound M n k s) [
        | true ↦ λ low found.
            let below = leb-true M.parameters.first n low in
            found_live M n (n - M.parameters.first) k s (slice_get M.subscriptions (n - M.parameters.first)) (omega arith) refl found
        | false ↦ λ _ found. absurd (none-some _ found)
      ] refl is

  -- the step of one call
  abbrev Gives : Call T → State T → Type 0
  Gives call M =
      IsSound (step call M).1 × ((step call M).1.parameters ≡ M.parameters)
      × ((k : ℕ) → got (step call M).1 k ≡ got M k ++ given_to (number M k) (call ∷ []) ((step call M).0 ∷ []))

  given_quiet : (call : Call T) → IsQuiet call → (n : ℕ) (reply : Reply T) → given_to n (call ∷ []) (reply ∷ []) ≡ []
  given_quiet (trying emitter v) quiet n reply = refl
  given_quiet (starting emitter v) quiet n reply = refl
  given_quiet (polling m) quiet n reply = refl
  given_quiet (withdrawing m) quiet n reply = refl
  given_quiet (subscribing prelude) quiet n reply = refl
  given_quiet (receiving m) quiet n reply = absurd quiet
  given_quiet (cancelling m) quiet n reply = refl
  given_quiet resetting quiet n reply = refl
  given_quiet counting quiet n reply = refl

  gives_quiet : (call : Call T) → IsQuiet call → (M : State T) → IsSound M → Gives call M
  gives_quiet call quiet M sound =
      let kept = step_quiet keeps-quiet call quiet M sound in
      (kept.0, kept.1, λ k. kept.2 k ∙ sym (ap (λ xs. got M k ++ xs) (given_quiet call quiet (number M k) (step call M).0) ∙ append-nil (got M k)))

  -- what a next value gives, by the answer and the state
  abbrev GivesAs : ℕ → State T → next.the_data T × State T → Type 0
  GivesAs n M answer =
      IsSound answer.1 × (answer.1.parameters ≡ M.parameters)
      × ((k : ℕ) → got answer.1 k ≡ got M k ++ given_to (number M k) (receiving n ∷ []) (to_receive answer.0 ∷ []))

  gives_nothing : (n : ℕ) (M : State T) → IsSound M → GivesAs n M (next.Nothing, M)
  gives_nothing n M sound = (sound, refl, λ k. sym (append-nil (got M k)))

  gives_closed : (n : ℕ) (M : State T) → IsSound M → GivesAs n M (next.Closed, M)
  gives_closed n M sound = (sound, refl, λ k. sym (append-nil (got M k)))

  one_given : (n k0 k : ℕ) (v : T) (M : State T) (xs : List T) → n ≡ number M k0 → with_one k k0 v xs ≡ xs ++ cond (eqb n (number M k)) (v ∷ []) []
  one_given n k0 k v M xs named =
      elim (eqb k k0) as (λ b. eqb k k0 ≡ b → cond b (xs ++ v ∷ []) xs ≡ xs ++ cond (eqb n (number M k)) (v ∷ []) []) [
        | true ↦ λ is.
            let same = eqb-true k k0 is in
            ap (λ b. xs ++ cond b (v ∷ []) []) (sym (eq-eqb n (number M k) (omega arith)))
        | false ↦ λ is.
            let other = eqb-false k k0 is in
            sym (append-nil xs) ∙ ap (λ b. xs ++ cond b (v ∷ []) []) (sym (ne_eqb n (number M k) (λ same. other (omega arith))))
      ] refl

  gives_value : (n k0 : ℕ) (s : Subscription T) (v : T) (more : List T) (M : State T) → IsSound M → IsFound M n k0 s → rest s ≡ [] → pending_values M.accepted s ≡ v ∷ more → GivesAs n M (next.Value v, settle (receive k0 M))
  gives_value n k0 s v more M sound found none pending =
      let total = length M.accepted in
      let all = values M.accepted in
      let told = all_at (IsTold total) M.subscriptions k0 s sound.told found.gets in
      let p = position s in
      let shown : drop p all ≡ v ∷ more = sym (pending_values-live M.accepted s told found.lives) ∙ pending in
      let below : p < total = omega (arith, ap length shown, length-drop p all, length-map M.accepted (λ (e : ℕ × T). e.1)) in
      let is_next = received_next-some total s told found.lives none below in
      let before = take s.given s.prelude in
      let one : received_values M.accepted (received_next total s) ≡ received_values M.accepted s ++ v ∷ [] =
      ap (λ (u : Subscription T). received_values M.accepted u) is_next ∙ ap (λ xs. before ++ xs) (filter_map-append (slice_get all) s.received (p ∷ []))
      ∙ ap (λ o. before ++ (values_at all s.received ++ cons_option o [])) (first_dropped p all v more shown)
      ∙ sym (append_assoc before (values_at all s.received) (v ∷ [])) in
      let settled = settle_over keeps-quiet (receive k0 M) (sound-receive k0 M sound) in (
        settled.0,
        settled.1,
        λ k.
            settled.2 k ∙ got_taken (received_next total) M.accepted k0 k s v M.subscriptions found.gets one ∙ one_given n k0 k v M (got M k) found.named,
      )

  gives_greeting : (n k0 : ℕ) (s : Subscription T) (v : T) (more : List T) (M : State T) → IsSound M → IsFound M n k0 s → rest s ≡ v ∷ more → GivesAs n M (next.Value v, greet k0 M)
  gives_greeting n k0 s v more M sound found left =
      let all = values M.accepted in
      let told = all_at (IsTold (length M.accepted)) M.subscriptions k0 s sound.told found.gets in
      let waits : drop s.given s.prelude ≡ v ∷ more = sym (rest-live s found.lives) ∙ left in
      let fresh : s.received ≡ [] = ⊎_elim (λ (wholly : drop s.given s.prelude ≡ []). absurd (cc)) (λ (none : s.received ≡ []). none) told.prelude_first in
      let one : received_values M.accepted (greeted s) ≡ received_values M.accepted s ++ v ∷ [] =
      ap (λ (u : Subscription T). received_values M.accepted u) (greeted-some s v more left)
      ∙ ap (λ is. take (s.given + 1) s.prelude ++ values_at all is) fresh ∙ append-nil (take (s.given + 1) s.prelude)
      ∙ take-next s.given s.prelude v more waits
      ∙ ap (λ xs. xs ++ v ∷ []) (sym (ap (λ is. take s.given s.prelude ++ values_at all is) fresh ∙ append-nil (take s.given s.prelude))) in (
        sound-greet k0 M sound,
        refl,
        λ k. got_taken greeted M.accepted k0 k s v M.subscriptions found.gets one ∙ one_given n k0 k v M (got M k) found.named,
      )

  gives_next_of : (n k0 : ℕ) (s : Subscription T) (vs ps : List T) (M : State T) → IsSound M → IsFound M n k0 s → rest s ≡ vs → pending_values M.accepted s ≡ ps → GivesAs n M (next_of k0 vs ps M)
  gives_next_of n k0 s [] [] M sound found none is = gives_nothing n M sound
  gives_next_of n k0 s (v ∷ more) ps M sound found left is = gives_greeting n k0 s v more M sound found left
  gives_next_of n k0 s [] (v ∷ more) M sound found none is = gives_value n k0 s v more M sound found none is

  gives_next_at : (n : ℕ) (M : State T) (o : Option (ℕ × Subscription T)) → IsSound M → live_one M n ≡ o → GivesAs n M (next_at o M)
  gives_next_at n M None sound is = gives_closed n M sound
  gives_next_at n M (Some (k, s)) sound is = gives_next_of n k s (rest s) (pending_values M.accepted s) M sound (found_one M n k s is) refl refl

  gives : (call : Call T) (M : State T) → IsSound M → Gives call M
  unfolding next_value
  gives (trying emitter v) M sound = gives_quiet (trying emitter v) tt M sound
  gives (starting emitter v) M sound = gives_quiet (starting emitter v) tt M sound
  gives (polling m) M sound = gives_quiet (polling m) tt M sound
  gives (withdrawing m) M sound = gives_quiet (withdrawing m) tt M sound
  gives (subscribing prelude) M sound = gives_quiet (subscribing prelude) tt M sound
  gives (receiving m) M sound = gives_next_at m M (live_one M m) sound refl
  gives (cancelling m) M sound = gives_quiet (cancelling m) tt M sound
  gives resetting M sound = (sound-reset M sound, refl, λ k. sym (append-nil (got M k)))
  gives counting M sound = gives_quiet counting tt M sound

  pub given_append : (n : ℕ) (call : Call T) (reply : Reply T) (calls : List (Call T)) (rs : List (Reply T)) → given_to n (call ∷ calls) (reply ∷ rs) ≡ given_to n (call ∷ []) (reply ∷ []) ++ given_to n calls rs
  given_append n (trying emitter v) reply calls rs = refl
  given_append n (starting emitter v) reply calls rs = refl
  given_append n (polling m) reply calls rs = refl
  given_append n (withdrawing m) reply calls rs = refl
  given_append n (subscribing prelude) reply calls rs = refl
  given_append n (cancelling m) reply calls rs = refl
  given_append n resetting reply calls rs = refl
  given_append n counting reply calls rs = refl
  given_append n (receiving m) (to_receive (next.Value v)) calls rs =
      elim (eqb m n) as (λ b. cond b (v ∷ given_to n calls rs) (given_to n calls rs) ≡ cond b (v ∷ []) [] ++ given_to n calls rs) [ true ↦ refl | false ↦ refl ]
  given_append n (receiving m) (to_receive next.Nothing) calls rs = refl
  given_append n (receiving m) (to_receive next.Closed) calls rs = refl
  given_append n (receiving m) (to_try answer) calls rs = refl
  given_append n (receiving m) (to_start answer) calls rs = refl
  given_append n (receiving m) (to_poll answer) calls rs = refl
  given_append n (receiving m) (to_withdraw answer) calls rs = refl
  given_append n (receiving m) (to_subscribe answer) calls rs = refl
  given_append n (receiving m) (to_cancel answer) calls rs = refl
  given_append n (receiving m) to_reset calls rs = refl
  given_append n (receiving m) (to_count answer) calls rs = refl

  got_after : (calls : List (Call T)) (M : State T) (k : ℕ) → IsSound M → got (after calls M) k ≡ got M k ++ given_to (number M k) calls (replies calls M)
  got_after [] M k sound = sym (append-nil (got M k))
  got_after (call ∷ calls) M k sound =
      let one = gives call M sound in
      let same : number (step call M).1 k ≡ number M k = ap (λ p. p.first + k) one.1 in
      got_after calls (step call M).1 k one.0
      ∙ ap (λ xs. xs ++ given_to (number (step call M).1 k) calls (replies calls (step call M).1)) (one.2 k)
      ∙ ap (λ m. (got M k ++ given_to (number M k) (call ∷ []) ((step call M).0 ∷ [])) ++ given_to m calls (replies calls (step call M).1)) same
      ∙ append_assoc (got M k) _ _
      ∙ ap (λ xs. got M k ++ xs) (sym (given_append (number M k) call (step call M).0 calls (replies calls (step call M).1)))

pub received_law : (T : Type 0) → ReceivedLaw T
received_law T p calls k s gets =
    ap (got_of (after calls (empty p)).accepted) (sym gets) ∙ got_after calls (empty p) k (sound-empty p)
