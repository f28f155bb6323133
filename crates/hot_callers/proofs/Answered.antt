-- As many emissions were accepted, at least, as a list of rounds answered with an acceptance. Each of the others stands with its ticket.
use Rattle.std.proofs.Common.{◌≡◌, ⊎_elim, ◌==◌, ℕ, suc, ◌+◌, ◌≤◌, Bool, true, false, cond, Some, Ok, Err, List, [], ◌∷◌, ◌++◌, length, map, take, slice_get, refl, sym, ap, ◌∙◌, subst, arith, length-append}
use Rattle.std.proofs.lemmas.List.{length-map}
use Rattle.std.specs.List.{remove}
use Rattle.std.proofs.lemmas.List.Edits.{length-remove}
use Rattle.std.proofs.lemmas.Option.{slice_get_within}
use Rattle.flow_terms.specs.declared.answers.Tried.TheVariants as tried
use Rattle.flow_terms.specs.declared.answers.Begun.TheVariants as begun
use Rattle.flow_terms.specs.declared.answers.Emit.TheVariants as emit
use Rattle.flow_terms.specs.declared.answers.Withdrawn.TheVariants as withdrawn
use Rattle.flow_terms.specs.declared.refusal.Refusal.{Refusal}
use Rattle.flow_terms.specs.declared.refusal.Refusal.TheVariants as refusals
use Rattle.round_lock.specs.History.{own_of}
use Rattle.round_lock.specs.History.After.{new, more}
use Rattle.shared_lane.specs.Law.{Entry}
use Rattle.shared_lane.specs.Blocks.{entries, AcceptedTogether, AcceptedInTurn, IsTurnedAway, TriedAllOn}
use Rattle.shared_lane.specs.Views.{LaneSeen, SequencerSeen}
use Rattle.shared_lane.specs.Sequencers.{OnlyLoaded, FoundNoRoom, TriedOn, AcceptedWaiting, RefusedStart, entry_of, next, seen, stood}
use Rattle.shared_lane.specs.Places.{NotAdmitted}
use Rattle.shared_lane.specs.declared.tickets.Standing.{Standing}
use Rattle.shared_lane.specs.declared.tickets.Waiting.{Waiting}
use Rattle.shared_rounds.specs.declared.round.Round.{Round}
use Rattle.shared_rounds.specs.declared.round.Round.TheVariants as round
use Rattle.shared_rounds.specs.Entering.{IsLeftBy}
use Rattle.shared_rounds.specs.Names.{SharedSeen}
use Rattle.shared_rounds.specs.Reach.{Rounds}
use Rattle.shared_rounds.specs.Rounds.{Makes, Finishes, Scanned, Does, entry}

-- of how many emissions a round answered that they were accepted
abbrev pub answers : Round → ℕ
answers (round.Try e (Ok (tried.Accepted n))) = 1
answers (round.TryAll emitter words (Ok n)) = length (take n words)
answers (round.Start e (Ok (begun.Accepted n))) = 1
answers (round.Poll ticket (emit.Done n)) = 1
answers (round.Withdraw ticket (withdrawn.Left n)) = 1
answers _ = 0

abbrev pub answers_of : List Round → ℕ
answers_of [] = 0
answers_of (r ∷ rounds) = answers r + answers_of rounds

abbrev answers_in : Rounds → ℕ
answers_in [] = 0
answers_in (t ∷ log) = answers t.1 + answers_in log

-- So many were answered from q to t: those that were accepted meanwhile, or stood, and stand no more.
abbrev Answered : ℕ → SequencerSeen → SequencerSeen → Type 0
Answered k q t = (k + length t.standing) + length (seen q) ≤ length q.standing + length (seen t)

abbrev stands : SequencerSeen → List Standing
stands q = q.standing

-- ---- what each step leaves

none_by : (q t : SequencerSeen) → stands t ≡ stands q → seen t ≡ seen q → Answered 0 q t
none_by q t stand log =
    let a = ap (λ (l : List Standing). length l) stand in
    let b = ap (λ (l : List Entry). length l) log in omega (arith, a, b)

some_by : (q t : SequencerSeen) (es : List Entry) → stands t ≡ stands q → seen t ≡ seen q ++ es → Answered (length es) q t
some_by q t es stand log =
    let a = ap (λ (l : List Standing). length l) stand in
    let b = ap (λ (l : List Entry). length l) log ∙ length-append (seen q) es in omega (arith, a, b)

stood_by : (q t : SequencerSeen) (ss : List Standing) (es : List Entry) → length ss ≡ length es → stands t ≡ stands q ++ ss → seen t ≡ seen q ++ es → Answered 0 q t
stood_by q t ss es same stand log =
    let a = ap (λ (l : List Standing). length l) stand ∙ length-append (stands q) ss in
    let b = ap (λ (l : List Entry). length l) log ∙ length-append (seen q) es in omega (arith, a, b, same)

back_by : (k : ℕ) (q t : SequencerSeen) (i : ℕ) (s : Standing) → k ≤ 1 → slice_get (stands q) i ≡ Some s → stands t ≡ remove (stands q) i → seen t ≡ seen q → Answered k q t
back_by k q t i s few here stand log =
    let a = ap (λ (l : List Standing). length l) stand in
    let b = ap (λ (l : List Entry). length l) log in
    let c = length-remove (stands q) i (slice_get_within (stands q) i s here) in omega (arith, a, b, c, few)

then_by : (j k : ℕ) (q m t : SequencerSeen) → Answered j q m → Answered k m t → Answered (j + k) q t
then_by j k q m t first second = omega (arith, first, second)

same_by : (q t : SequencerSeen) → t ≡ q → Answered 0 q t
same_by q t is = none_by q t (ap stands is) (ap seen is)

loaded_by : (q t : SequencerSeen) → OnlyLoaded q t → Answered 0 q t
loaded_by q t only = none_by q t (ap stands only.0) only.2

pub entries_length : (emitter : ℕ) (words : List ℕ) → length (entries emitter words) ≡ length words
entries_length emitter [] = refl
entries_length emitter (word ∷ words) = ap suc (entries_length emitter words)

stood_length : (n : ℕ) (ws : List Waiting) → length (stood n ws) ≡ length ws
stood_length n [] = refl
stood_length n (w ∷ ws) = ap suc (stood_length (suc n) ws)

settled_by : (k : ℕ) (q m : SequencerSeen) → AcceptedWaiting k q m → Answered 0 q m
settled_by k q m settled =
    let ws = take k q.waiting in
    stood_by q m (stood (next q) ws) (map entry_of ws) (stood_length (next q) ws ∙ sym (length-map ws entry_of)) settled.standing_is settled.accepted

rests_by : (q t : SequencerSeen) → Finishes q t → Answered 0 q t
rests_by q t rests = ⊎_elim
    (λ is. then_by 0 0 q rests.0 t (same_by q rests.0 is) (loaded_by rests.0 t rests.2))
    (λ (scan : Scanned q rests.0). then_by 0 0 q rests.0 t
    (subst (Answered 0 q) (sym scan.5) (settled_by scan.1 q scan.0 scan.3)) (loaded_by rests.0 t rests.2))
    rests.1

full_stands : (q t : SequencerSeen) → FoundNoRoom q t → (stands t ≡ stands q) × (seen t ≡ seen q)
full_stands q t found = ⊎_elim (λ stays. (ap stands stays.1, ap seen stays.1)) (λ moved. (ap stands moved.0.0, moved.0.2)) found

refused_by : (q : SequencerSeen) (refusal : Refusal) (t : SequencerSeen) → RefusedStart q refusal t → Answered 0 q t
refused_by q refusals.Spent t on = same_by q t on.1
refused_by q refusals.EmitsFull t on = let same = full_stands q t on.3 in none_by q t same.0 same.1
refused_by q _ t on = absurd on

shut_by : (q : SequencerSeen) (refusal : Refusal) (t : SequencerSeen) → NotAdmitted q refusal t → Answered 0 q t
shut_by q refusals.Spent t on = same_by q t on.1
shut_by q refusals.SubscribersFull t on = loaded_by q t on.2
shut_by q _ t on = absurd on

-- ---- a block leaves those that stand

together_stands : (q t : SequencerSeen) (es : List Entry) → AcceptedTogether q es t → stands t ≡ stands q
together_stands q t es on = ap stands on.1.3 ∙ ap stands on.1.1.0

in_turn_stands : (q t : SequencerSeen) (blocks : List (List Entry)) → AcceptedInTurn q blocks t → stands t ≡ stands q
in_turn_stands q t [] is = ap stands is
in_turn_stands q t (es ∷ blocks) in_turn = in_turn_stands in_turn.0 t blocks in_turn.3 ∙ together_stands q in_turn.0 es in_turn.2

turned_stands : (q t : SequencerSeen) → IsTurnedAway q t → stands t ≡ stands q
turned_stands q t turned = let any : Entry = (0, 0) in ⊎_elim
    (λ spent. ap stands spent.2)
    (λ each. ⊎_elim (λ (full : TriedOn q any tried.Full t). (full_stands q t full.1).0) (λ (dropped : TriedOn q any tried.Dropped t). ap stands dropped.1.0.0) (each any))
    turned

tried_stands : (q t : SequencerSeen) (emitter : ℕ) (words : List ℕ) (n : ℕ) → TriedAllOn q emitter words n t → stands t ≡ stands q
tried_stands q t emitter words n on = let blocks = on.in_turn in
    ⊎_elim (λ whole. ap stands whole.1) (λ cut. turned_stands blocks.1 t cut.1) blocks.4 ∙ in_turn_stands q blocks.1 blocks.0 blocks.3

-- ---- what each call answers

makes_by : (lane : LaneSeen) (q : SequencerSeen) (r : Round) (t : SequencerSeen) → Makes lane q r t → Answered (answers r) q t
makes_by lane q (round.Try e (Ok (tried.Accepted n))) t on = some_by q t (entry e ∷ []) on.4.1 on.2
makes_by lane q (round.Try e (Ok tried.Dropped)) t on = none_by q t (ap stands on.1.0.0) on.1.0.2
makes_by lane q (round.Try e (Ok tried.Full)) t on = let same = full_stands q t on.1 in none_by q t same.0 same.1
makes_by lane q (round.Try e (Err refusal)) t on = same_by q t on.2
makes_by lane q (round.TryAll emitter words (Ok n)) t on =
    let es = entries emitter (take n words) in
    subst (λ k. Answered k q t) (entries_length emitter (take n words)) (some_by q t es (tried_stands q t emitter words n on) on.accepted)
makes_by lane q (round.TryAll emitter words (Err refusal)) t on = same_by q t on.1.2
makes_by lane q (round.Start e (Ok (begun.Accepted n))) t on = some_by q t (entry e ∷ []) on.4.1 on.2
makes_by lane q (round.Start e (Ok begun.Dropped)) t on = none_by q t (ap stands on.1.0.0) on.1.0.2
makes_by lane q (round.Start e (Ok (begun.Waiting ticket))) t on = ⊎_elim
    (λ on_top. stood_by q t (record { ticket = q.ticket; emitter = e.emitter; number = next q } ∷ []) (entry e ∷ []) refl on_top.2.2 on_top.2.3)
    (λ waits. none_by q t (ap stands waits.0) waits.1)
    on.3
makes_by lane q (round.Start e (Err refusal)) t on = refused_by q refusal t on
makes_by lane q (round.Poll ticket (emit.Done n)) t on = back_by 1 q t on.0 on.1 (omega arith) on.2.0 (ap stands on.5.0) on.5.2
makes_by lane q (round.Poll ticket emit.Waiting) t on = loaded_by q t on.0
makes_by lane q (round.Poll ticket emit.Gone) t on = same_by q t on.0
makes_by lane q (round.StrayPoll ticket emitter last n) t on = back_by 0 q t on.0.0 on.0.1 (omega arith) on.0.2.0 (ap stands on.0.5.0) on.0.5.2
makes_by lane q (round.StrayWithdraw ticket emitter last n) t on = back_by 0 q t on.0.0 on.0.1 (omega arith) on.0.2.0 (ap stands on.0.5) (ap seen on.0.5)
makes_by lane q (round.Withdraw ticket withdrawn.Removed) t on = none_by q t (ap stands on.3) (ap seen on.3)
makes_by lane q (round.Withdraw ticket (withdrawn.Left n)) t on = back_by 1 q t on.0 on.1 (omega arith) on.2.0 (ap stands on.5) (ap seen on.5)
makes_by lane q (round.Withdraw ticket withdrawn.Gone) t on = same_by q t on.0
makes_by lane q (round.Subscribe (Ok number)) t on = none_by q t (ap stands on.1.1.counted) on.1.1.same_log
makes_by lane q (round.Subscribe (Err refusal)) t on = shut_by q refusal t on
makes_by lane q (round.Next number) t on = same_by q t on
makes_by lane q (round.Pending number) t on = same_by q t on
makes_by lane q (round.Cancel number) t on = then_by 0 0 q on.0 t (loaded_by q on.0 on.2) (none_by on.0 t (ap stands on.4) (ap seen on.4))
makes_by lane q round.Reset t on = none_by q t (ap stands on) (ap seen on)
makes_by lane q (round.Cache (Ok words)) t on = same_by q t on.0
makes_by lane q (round.Cache (Err refusal)) t on = same_by q t on.0
makes_by lane q (round.Count count) t on = loaded_by q t on.0
makes_by lane q (round.Hold count) t on = loaded_by q t on.0

does_by : (s : SharedSeen) (r : Round) (t : SharedSeen) → Does s r t → Answered (answers r) s.sequencer t.sequencer
does_by s r t does =
    let after = does.2 in
    let m = after.0 in
    let n = after.5.0 in
    let first = settled_by after.1 s.sequencer m after.3 in
    let made = makes_by s.name.lane m r n after.5.1 in
    let rest = rests_by n t.sequencer after.5.2 in
    omega (arith, first, made, rest)

-- ---- what a list of rounds answers

answers_more : (log : Rounds) (t : ℕ × Round × SharedSeen) → answers_in (log ++ t ∷ []) ≡ answers_in log + answers t.1
answers_more [] t = omega arith
answers_more (x ∷ log) t = let rest = answers_more log t in omega (arith, rest)

answered : (made : SharedSeen) (log : Rounds) (s : SharedSeen) → IsLeftBy made log s → answers_in log + length (stands s.sequencer) ≤ length (seen s.sequencer)
answered _ _ _ (new s fresh) = let none = ap (λ (l : List Standing). length l) fresh.1.8 in omega (arith, none)
answered _ _ _ (more made log s pass r t before does) =
    let was = answered made log s before in
    let grew = answers_more log (pass, r, t) in
    let now = does_by s r t does in
    omega (arith, was, grew, now)

-- one party's are some of them
own_within : (pass : ℕ) (log : Rounds) → answers_of (own_of pass log) ≤ answers_in log
own_within pass [] = omega arith
own_within pass (t ∷ log) = by (t.0 == pass) (own_within pass log)
  where
    by : (b : Bool) → answers_of (own_of pass log) ≤ answers_in log → answers_of (cond b (t.1 ∷ own_of pass log) (own_of pass log)) ≤ answers t.1 + answers_in log
    by true rest = omega (arith, rest)
    by false rest = omega (arith, rest)

-- so are those that it answered before the last round
pub own_answered : (pass : ℕ) (made : SharedSeen) (log : Rounds) (last : ℕ × Round × SharedSeen) (s : SharedSeen) → IsLeftBy made (log ++ last ∷ []) s
    → answers_of (own_of pass log) ≤ length (seen s.sequencer)
own_answered pass made log last s left =
    let own = own_within pass log in
    let grew = answers_more log last in
    let all = answered made (log ++ last ∷ []) s left in
    omega (arith, own, grew, all)
