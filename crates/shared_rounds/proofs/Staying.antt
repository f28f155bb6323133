-- A ticket that is out stays out through a round, but for the one that the round takes back.
use Rattle.std.proofs.Common.{◌≡◌, ◌≢◌, ◌⊎◌, ℕ, zero, suc, ◌+◌, ◌<◌, ◌≤◌, Option, Some, None, List, [], ◌∷◌, ◌++◌, Ok, Err, IfSome, is_some, cond, count_by, slice_index_or, length, take, drop, slice_get, refl, sym, ap, ◌∙◌, subst, ⊎_elim, inl, inr, arith}
use Rattle.std.proofs.lemmas.Bool.{cases_eq, cases_lt}
use Rattle.std.proofs.lemmas.List.Sums.{sum_by-cons}
use Rattle.std.proofs.lemmas.Option.{none-some, same_Some, slice_get_within}
use Rattle.shared_core.proofs.Given.{slice_get-append}
use Rattle.shared_core.proofs.Latest.{got_dropped}
use Rattle.shared_core.proofs.Moments.{slice_get-after}
use Rattle.slab.specs.Slab.{Slab, get}
use Rattle.flow_terms.specs.declared.ids.Ticket.{Ticket}
use Rattle.flow_terms.specs.declared.refusal.Refusal.{Refusal}
use Rattle.flow_terms.specs.declared.refusal.Refusal.TheVariants as refusals
use Rattle.flow_terms.specs.declared.answers.Tried.TheVariants as tried
use Rattle.flow_terms.specs.declared.answers.Begun.TheVariants as begun
use Rattle.flow_terms.specs.declared.answers.Emit.TheVariants as emit
use Rattle.flow_terms.specs.declared.answers.Withdrawn.TheVariants as withdrawn
use Rattle.round_lock.specs.History.After.{new, more}
use Rattle.shared_lane.specs.Law.{Entry}
use Rattle.shared_lane.specs.declared.tickets.Waiting.{Waiting}
use Rattle.shared_lane.specs.declared.tickets.Standing.{Standing}
use Rattle.shared_lane.specs.Views.{LaneSeen, SequencerSeen}
use Rattle.shared_lane.specs.Blocks.{AcceptedInTurn, IsTurnedAway}
use Rattle.shared_lane.specs.Ordering.{IsOut, FirstUnfinished}
use Rattle.shared_lane.specs.Places.{NotAdmitted}
use Rattle.shared_lane.specs.Polls.{IsNotOut, IsOutFor, PolledOn, given_back, withdrawn_from}
use Rattle.shared_lane.specs.Sequencers.{OnlyLoaded, LoadedOrMoved, AcceptedWaiting, BegunOn, RefusedStart, FoundNoRoom, stood}
use Rattle.shared_rounds.specs.declared.round.Round.{Round}
use Rattle.shared_rounds.specs.declared.round.Round.TheVariants as round
use Rattle.shared_rounds.specs.declared.wait_list.Sleeper.{Sleeper}
use Rattle.shared_rounds.specs.Names.{SharedSeen}
use Rattle.shared_rounds.specs.Rounds.{Makes, Finishes, Scanned, Comes}
use Rattle.shared_rounds.specs.Sleeping.{OnlyThese, Parks, SleepsOn}
use Rattle.shared_rounds.specs.Waking.{AreOutBut, HasToWait, FallsAsleep, taken_by}
use Rattle.shared_rounds.proofs.Numbers.{Left}
use Rattle.shared_rounds.proofs.Rises.{not_out}

-- ---- what a call does

same_out : (q t : SequencerSeen) (b : ℕ) → t.standing ≡ q.standing → t.waiting ≡ q.waiting → IsOut q b → IsOut t b
same_out q t b stands waits out = ⊎_elim
    (λ s. inl (s.0, s.1, ap (λ l. slice_get l s.0) stands ∙ s.2, s.3))
    (λ w. inr (w.0, w.1, (ap (λ l. slice_get l w.0) waits ∙ w.2.0, w.2.1)))
    out

loaded_out : (q t : SequencerSeen) (b : ℕ) → OnlyLoaded q t → IsOut q b → IsOut t b
loaded_out q t b only out = same_out q t b (ap (λ (z : SequencerSeen). z.standing) only.0) (ap (λ (z : SequencerSeen). z.waiting) only.0) out

moved_out : (q t : SequencerSeen) (b : ℕ) → LoadedOrMoved q t → IsOut q b → IsOut t b
moved_out q t b only out = same_out q t b (ap (λ (z : SequencerSeen). z.standing) only.0) (ap (λ (z : SequencerSeen). z.waiting) only.0) out

equal_out : (q t : SequencerSeen) (b : ℕ) → t ≡ q → IsOut q b → IsOut t b
equal_out q t b is out = subst (λ (z : SequencerSeen). IsOut z b) (sym is) out

-- who is accepted stands with its ticket
now_stands : (n k i b : ℕ) (l : List Waiting) (w : Waiting) → i < k → slice_get l i ≡ Some w → w.ticket ≡ b
    → (s : Standing) × (slice_get (stood n (take k l)) i ≡ Some s) × (s.ticket ≡ b)
now_stands n k i b [] w low gets is = absurd (none-some w gets)
now_stands n zero i b (x ∷ xs) w low gets is = absurd (omega (arith, low))
now_stands n (suc k) zero b (x ∷ xs) w low gets is = (record { ticket = x.ticket; emitter = x.emitter; number = n }, refl, ap (λ (z : Waiting). z.ticket) (same_Some x w gets) ∙ is)
now_stands n (suc k) (suc i) b (x ∷ xs) w low gets is = now_stands (suc n) k i b xs w (omega (arith, low)) gets is

past : (k i : ℕ) → k ≤ i → (j : ℕ) × (i ≡ k + j)
past zero i le = (i, omega arith)
past (suc k) zero le = absurd (omega (arith, le))
past (suc k) (suc i) le = let on = past k i (omega (arith, le)) in let is = on.1 in (on.0, omega (arith, is))

settled_out : (k : ℕ) (q m : SequencerSeen) (b : ℕ) → AcceptedWaiting k q m → IsOut q b → IsOut m b
settled_out k q m b settled out = ⊎_elim
    (λ s. let inside = slice_get_within q.standing s.0 s.1 s.2 in
    inl (s.0, s.1, ap (λ l. slice_get l s.0) settled.standing_is ∙ slice_get-append q.standing _ s.0 inside ∙ s.2, s.3))
    (λ w. ⊎_elim
    (λ (low : w.0 < k). let s = now_stands _ k w.0 b q.waiting w.1 low w.2.0 w.2.1 in
    inl (length q.standing + w.0, s.0, ap (λ l. slice_get l (length q.standing + w.0)) settled.standing_is ∙ slice_get-after q.standing _ w.0 ∙ s.1, s.2))
    (λ (high : k ≤ w.0). let rest = past k w.0 high in
    inr (rest.0, w.1, (ap (λ l. slice_get l rest.0) settled.waiting_is ∙ (got_dropped k rest.0 q.waiting ∙ ap (slice_get q.waiting) (sym rest.1)) ∙ w.2.0, w.2.1)))
    (cases_lt w.0 k))
    out

scanned_out : (q t : SequencerSeen) (b : ℕ) → Scanned q t → IsOut q b → IsOut t b
scanned_out q t b scan out = equal_out scan.0 t b scan.5 (settled_out scan.1 q scan.0 b scan.3 out)

rests_out : (q t : SequencerSeen) (b : ℕ) → Finishes q t → IsOut q b → IsOut t b
rests_out q t b rests out = loaded_out rests.0 t b rests.2 (⊎_elim (λ is. equal_out q rests.0 b is out) (λ scan. scanned_out q rests.0 b scan out) rests.1)

-- the others stand on where one is taken out
without : {X : Type 0} (xs : List X) (i j : ℕ) (x y : X) → slice_get xs i ≡ Some x → slice_get xs j ≡ Some y → (x ≡ y → ⊥) → (k : ℕ) × (slice_get (take i xs ++ drop (suc i) xs) k ≡ Some y)
without [] i j x y here there other = absurd (none-some x here)
without (z ∷ zs) zero zero x y here there other = absurd (other (same_Some x y (sym here ∙ there)))
without (z ∷ zs) zero (suc j) x y here there other = (j, there)
without (z ∷ zs) (suc i) zero x y here there other = (zero, there)
without (z ∷ zs) (suc i) (suc j) x y here there other = let kept = without zs i j x y here there other in (suc kept.0, kept.1)

-- one ticket is taken back, of those that stand or of those that wait
given_out : (i : ℕ) (s : Standing) (q : SequencerSeen) (b : ℕ) → slice_get q.standing i ≡ Some s → s.ticket ≢ b → IsOut q b → IsOut (given_back i q) b
given_out i s q b here other out = ⊎_elim
    (λ x. let kept = without q.standing i x.0 s x.1 here x.2 (λ same. other (ap (λ (z : Standing). z.ticket) same ∙ x.3)) in inl (kept.0, x.1, kept.1, x.3))
    (λ x. inr x)
    out

withdrawn_out : (i : ℕ) (w : Waiting) (q : SequencerSeen) (b : ℕ) → slice_get q.waiting i ≡ Some w → w.ticket ≢ b → IsOut q b → IsOut (withdrawn_from i q) b
withdrawn_out i w q b here other out = ⊎_elim
    (λ x. inl x)
    (λ x. let kept = without q.waiting i x.0 w x.1 here x.2.0 (λ same. other (ap (λ (z : Waiting). z.ticket) same ∙ x.2.1)) in inr (kept.0, x.1, (kept.1, x.2.1)))
    out

stands_more : (q t : SequencerSeen) (x : Standing) (b : ℕ) → t.standing ≡ q.standing ++ x ∷ [] → t.waiting ≡ q.waiting → IsOut q b → IsOut t b
stands_more q t x b stands waits out = ⊎_elim
    (λ s. inl (s.0, s.1, ap (λ l. slice_get l s.0) stands ∙ slice_get-append q.standing (x ∷ []) s.0 (slice_get_within q.standing s.0 s.1 s.2) ∙ s.2, s.3))
    (λ w. inr (w.0, w.1, (ap (λ l. slice_get l w.0) waits ∙ w.2.0, w.2.1)))
    out

waits_more : (q t : SequencerSeen) (x : Waiting) (b : ℕ) → t.standing ≡ q.standing → t.waiting ≡ q.waiting ++ x ∷ [] → IsOut q b → IsOut t b
waits_more q t x b stands waits out = ⊎_elim
    (λ s. inl (s.0, s.1, ap (λ l. slice_get l s.0) stands ∙ s.2, s.3))
    (λ w. inr (w.0, w.1, (ap (λ l. slice_get l w.0) waits ∙ slice_get-append q.waiting (x ∷ []) w.0 (slice_get_within q.waiting w.0 w.1 w.2.0) ∙ w.2.0, w.2.1)))
    out

full_out : (q t : SequencerSeen) (b : ℕ) → FoundNoRoom q t → IsOut q b → IsOut t b
full_out q t b on out = ⊎_elim (λ stays. equal_out q t b stays.1 out) (λ moved. moved_out q t b moved.0 out) on

refused_out : (q : SequencerSeen) (refusal : Refusal) (t : SequencerSeen) (b : ℕ) → RefusedStart q refusal t → IsOut q b → IsOut t b
refused_out q refusals.Spent t b on out = equal_out q t b on.1 out
refused_out q refusals.EmitsFull t b on out = full_out q t b on.3 out
refused_out q _ t b on out = absurd on

shut_out : (q : SequencerSeen) (refusal : Refusal) (t : SequencerSeen) (b : ℕ) → NotAdmitted q refusal t → IsOut q b → IsOut t b
shut_out q refusals.Spent t b on out = equal_out q t b on.1 out
shut_out q refusals.SubscribersFull t b on out = loaded_out q t b on.2 out
shut_out q _ t b on out = absurd on

waiting_out : (q : SequencerSeen) (e : Entry) (ticket : Ticket) (t : SequencerSeen) (b : ℕ) → BegunOn q e (begun.Waiting ticket) t → IsOut q b → IsOut t b
waiting_out q e ticket t b on out = ⊎_elim
    (λ stands. stands_more q t _ b stands.2.2 stands.2.1 out)
    (λ waits. waits_more q t _ b (ap (λ (z : SequencerSeen). z.standing) waits.0) (ap (λ (z : SequencerSeen). z.waiting) waits.0) out)
    on.3

turns_out : (q : SequencerSeen) (blocks : List (List Entry)) (t : SequencerSeen) (b : ℕ) → AcceptedInTurn q blocks t → IsOut q b → IsOut t b
turns_out q [] t b on out = equal_out q t b on out
turns_out q (es ∷ blocks) t b on out =
    let m : SequencerSeen = on.0 in
    let together = on.2 in
    let loaded : SequencerSeen = together.1.0 in
    turns_out m blocks t b on.3
    (same_out loaded m b (ap (λ (z : SequencerSeen). z.standing) together.1.3) (ap (λ (z : SequencerSeen). z.waiting) together.1.3) (moved_out q loaded b together.1.1 out))

away_out : (q t : SequencerSeen) (b : ℕ) → IsTurnedAway q t → IsOut q b → IsOut t b
away_out q t b away out = ⊎_elim
    (λ refused. equal_out q t b refused.2 out)
    (λ tries. ⊎_elim (λ full. full_out q t b full.1 out) (λ dropped. moved_out q t b dropped.1.0 out) (tries (0, 0)))
    away

-- the ticket of a poll that waits is out
polled_out : (q : SequencerSeen) (ticket : ℕ) (t : SequencerSeen) → PolledOn q ticket emit.Waiting t → IsOut t ticket
polled_out q ticket t on = loaded_out q t ticket on.0 (⊎_elim
    (λ waits. inr (waits.0, waits.1, waits.2))
    (λ stands. inl (stands.0, stands.1, stands.3.0, stands.3.1))
    on.1)

makes_out : (lane : LaneSeen) (q : SequencerSeen) (r : Round) (t : SequencerSeen) (b : ℕ) → Makes lane q r t → taken_by r ≢ Some b → IsOut q b → IsOut t b
makes_out lane q (round.Try e (Ok (tried.Accepted n))) t b on kept out = same_out q t b on.4.1 on.4.0 out
makes_out lane q (round.Try e (Ok tried.Dropped)) t b on kept out = moved_out q t b on.1.0 out
makes_out lane q (round.Try e (Ok tried.Full)) t b on kept out = full_out q t b on.1 out
makes_out lane q (round.Try e (Err refusal)) t b on kept out = equal_out q t b on.2 out
makes_out lane q (round.TryAll emitter words (Ok n)) t b on kept out =
    let turn = on.in_turn in
    let m : SequencerSeen = turn.1 in
    let accepted = turns_out q turn.0 m b turn.3 out in
    ⊎_elim (λ all. equal_out m t b all.1 accepted) (λ some. away_out m t b some.1 accepted) turn.4
makes_out lane q (round.TryAll emitter words (Err refusal)) t b on kept out = equal_out q t b on.1.2 out
makes_out lane q (round.Start e (Ok (begun.Accepted n))) t b on kept out = same_out q t b on.4.1 on.4.0 out
makes_out lane q (round.Start e (Ok begun.Dropped)) t b on kept out = moved_out q t b on.1.0 out
makes_out lane q (round.Start e (Ok (begun.Waiting ticket))) t b on kept out = waiting_out q (e.emitter, e.word) ticket t b on out
makes_out lane q (round.Start e (Err refusal)) t b on kept out = refused_out q refusal t b on out
makes_out lane q (round.Poll ticket (emit.Done n)) t b on kept out =
    loaded_out (given_back on.0 q) t b on.5 (given_out on.0 on.1 q b on.2.0 (λ same. kept (ap Some (sym on.2.1 ∙ same))) out)
makes_out lane q (round.Poll ticket emit.Waiting) t b on kept out = loaded_out q t b on.0 out
makes_out lane q (round.Poll ticket emit.Gone) t b on kept out = equal_out q t b on.0 out
makes_out lane q (round.StrayPoll ticket emitter last n) t b on kept out =
    let polled = on.0 in loaded_out (given_back polled.0 q) t b polled.5 (given_out polled.0 polled.1 q b polled.2.0 (λ same. kept (ap Some (sym polled.2.1 ∙ same))) out)
makes_out lane q (round.Withdraw ticket withdrawn.Removed) t b on kept out = equal_out (withdrawn_from on.0 q) t b on.3 (withdrawn_out on.0 on.1 q b on.2.0 (λ same. kept (ap Some (sym on.2.1 ∙ same))) out)
makes_out lane q (round.Withdraw ticket (withdrawn.Left n)) t b on kept out = equal_out (given_back on.0 q) t b on.5 (given_out on.0 on.1 q b on.2.0 (λ same. kept (ap Some (sym on.2.1 ∙ same))) out)
makes_out lane q (round.Withdraw ticket withdrawn.Gone) t b on kept out = equal_out q t b on.0 out
makes_out lane q (round.StrayWithdraw ticket emitter last n) t b on kept out =
    let gave = on.0 in equal_out (given_back gave.0 q) t b gave.5 (given_out gave.0 gave.1 q b gave.2.0 (λ same. kept (ap Some (sym gave.2.1 ∙ same))) out)
makes_out lane q (round.Subscribe (Ok number)) t b on kept out = let is = on.1.1.counted in same_out q t b (ap (λ (z : SequencerSeen). z.standing) is) (ap (λ (z : SequencerSeen). z.waiting) is) out
makes_out lane q (round.Subscribe (Err refusal)) t b on kept out = shut_out q refusal t b on out
makes_out lane q (round.Next number) t b on kept out = equal_out q t b on out
makes_out lane q (round.Pending number) t b on kept out = equal_out q t b on out
makes_out lane q (round.Cancel number) t b on kept out = let is = on.4 in same_out on.0 t b (ap (λ (z : SequencerSeen). z.standing) is) (ap (λ (z : SequencerSeen). z.waiting) is) (loaded_out q on.0 b on.2 out)
makes_out lane q round.Reset t b on kept out = same_out q t b (ap (λ (z : SequencerSeen). z.standing) on) (ap (λ (z : SequencerSeen). z.waiting) on) out
makes_out lane q (round.Cache (Ok words)) t b on kept out = equal_out q t b on.0 out
makes_out lane q (round.Cache (Err refusal)) t b on kept out = equal_out q t b on.0 out
makes_out lane q (round.Count count) t b on kept out = loaded_out q t b on.0 out
makes_out lane q (round.Hold count) t b on kept out = loaded_out q t b on.0 out

comes_out : (s t : SharedSeen) (r : Round) (b : ℕ) → Comes s r t → taken_by r ≢ Some b → IsOut s.sequencer b → IsOut t.sequencer b
comes_out s t r b came kept out =
    let after = came.2 in
    let m : SequencerSeen = after.0 in
    let n : SequencerSeen = after.5.0 in
    rests_out n t.sequencer b after.5.2 (makes_out s.name.lane m r n b after.5.1 kept (settled_out after.1 s.sequencer m b after.3 out))

-- ---- who sleeps

-- nobody fell asleep, or one whose poll waits
fell_asleep : (s t : SharedSeen) (r : Round) → FallsAsleep s r t → (t.emissions ≡ s.emissions) ⊎ ((ticket : Ticket) × (r ≡ round.Poll ticket emit.Waiting) × Parks ticket.0 s.emissions t.emissions)
fell_asleep s t (round.Pending number) lies = inl lies.1
fell_asleep s t (round.Poll ticket emit.Waiting) lies = inr (ticket, refl, lies.1)
fell_asleep s t (round.Poll ticket (emit.Done n)) lies = inl lies.1
fell_asleep s t (round.Poll ticket emit.Gone) lies = inl lies.1
fell_asleep s t (round.Try e a) lies = inl lies.1
fell_asleep s t (round.TryAll e words a) lies = inl lies.1
fell_asleep s t (round.Start e a) lies = inl lies.1
fell_asleep s t (round.StrayPoll ticket e last n) lies = inl lies.1
fell_asleep s t (round.Withdraw ticket a) lies = inl lies.1
fell_asleep s t (round.StrayWithdraw ticket e last n) lies = inl lies.1
fell_asleep s t (round.Subscribe a) lies = inl lies.1
fell_asleep s t (round.Next n) lies = inl lies.1
fell_asleep s t (round.Cancel n) lies = inl lies.1
fell_asleep s t round.Reset lies = inl lies.1
fell_asleep s t (round.Cache a) lies = inl lies.1
fell_asleep s t (round.Count n) lies = inl lies.1
fell_asleep s t (round.Hold n) lies = inl lies.1

waits_out : (s t : SharedSeen) (r : Round) (ticket : Ticket) → r ≡ round.Poll ticket emit.Waiting → Comes s r t → IsOut t.sequencer ticket.0
waits_out s t r ticket is came =
    let here : Comes s (round.Poll ticket emit.Waiting) t = subst (λ x. Comes s x t) is came in
    let after = here.2 in
    rests_out after.5.0 t.sequencer ticket.0 after.5.2 (polled_out after.0 ticket.0 after.5.0 after.5.1)

-- whose tickets were out as the lock was taken, and who fell asleep since, has a ticket that is out, but for the one that was taken back
pub asleep_out : (s t : SharedSeen) (r : Round) (taken : Option ℕ) → taken ≡ taken_by r → AreOutBut None s → Comes s r t → FallsAsleep s r t → AreOutBut taken t
asleep_out s t r taken is were came lies key sleeper gets other =
    let kept : taken_by r ≢ Some sleeper.number = λ same. other (is ∙ same) in
    let was : get s.emissions key ≡ Some sleeper → IsOut t.sequencer sleeper.number = λ slept. comes_out s t r sleeper.number came kept (were key sleeper slept (λ no. none-some _ no)) in
    ⊎_elim
    (λ same. was (ap (λ l. get l key) (sym same) ∙ gets))
    (λ lay. ⊎_elim
    (λ same. was (sym same ∙ gets))
    (λ lies_here. let it = lies_here.0 in
    subst (λ b. IsOut t.sequencer b) (sym it.2 ∙ ap (λ (z : Sleeper). z.number) (same_Some it.0 sleeper (sym it.1 ∙ gets))) (waits_out s t r lay.0 lay.1 came))
    (lay.2 key))
    (fell_asleep s t r lies)

-- after a round everyone who sleeps has to wait, so its ticket is out
pub out_for : (q : SequencerSeen) (b emitter : ℕ) → IsOutFor q b emitter → IsOut q b
out_for q b emitter (inl w) = inr (w.0, w.1, w.2)
out_for q b emitter (inr s) = inl (s.0, s.1, s.2.0, s.2.1)

has_ticket : (q : SequencerSeen) (below b : ℕ) → HasToWait q below b → IsOut q b
has_ticket q below b waits = out_for q b waits.1.0 waits.1.1

none_there : (slots : List (Option Sleeper)) (key : ℕ) (sleeper : Sleeper) → count_by is_some slots ≡ 0 → slice_index_or slots key None ≡ Some sleeper → ⊥
none_there [] key sleeper none gets = none-some sleeper gets
none_there (None ∷ rest) zero sleeper none gets = none-some sleeper gets
none_there (None ∷ rest) (suc key) sleeper none gets = none_there rest key sleeper none gets
none_there (Some x ∷ rest) key sleeper none gets = let one : count_by is_some (Some x ∷ rest) ≡ 1 + count_by is_some rest = sum_by-cons (λ (y : Option Sleeper). cond (is_some y) 1 0) (Some x) rest in omega (arith, one, none)

module _ {S : Type 0} (value : S → SharedSeen) where
  pub left_out : (made : S) (log : List (ℕ × Round × S)) (s : S) → Left value made log s → AreOutBut None (value s)
  left_out _ _ _ (new s fresh) key sleeper gets other = absurd (none_there (value s).emissions.slots key sleeper fresh.3 gets)
  left_out _ _ _ (more made log s pass r t before does) key sleeper gets other = ⊎_elim
      (λ nobody. absurd (none_there (does.3).called.emissions.slots key sleeper nobody.0 (ap (λ l. get l key) (sym nobody.1) ∙ gets)))
      (λ woke. has_ticket (value t).sequencer woke.0 sleeper.number ((woke.2 key sleeper).0 gets).1)
      (does.3).helps.emissions

pub still_out : (taken : Option ℕ) (s t : SharedSeen) → t.emissions ≡ s.emissions → t.sequencer ≡ s.sequencer → AreOutBut taken s → AreOutBut taken t
still_out taken s t same sequencer were key sleeper gets other = subst (λ (q : SequencerSeen). IsOut q sleeper.number) (sym sequencer) (were key sleeper (ap (λ l. get l key) (sym same) ∙ gets) other)

-- ---- who is woken

or_not : (taken : Option ℕ) (b : ℕ) → (taken ≡ Some b) ⊎ (taken ≢ Some b)
or_not None b = inr (λ is. none-some b is)
or_not (Some m) b = ⊎_elim (λ is. inl (ap Some is)) (λ other. inr (λ is. other (same_Some m b is))) (cases_eq m b)

at_some : (P : ℕ → Type 0) (o : Option ℕ) (b : ℕ) → IfSome o P → o ≡ Some b → P b
at_some P None b fact is = absurd (none-some b is)
at_some P (Some m) b fact is = subst P (same_Some m b is) fact

-- those that aren't before the first that has to wait, and not gone, are those that have to wait
pub who_waits : (q t : SequencerSeen) (below : ℕ) (first : Option Ticket) (gone taken : Option ℕ) (old later : Slab Sleeper) → OnlyLoaded q t → FirstUnfinished t below first
    → IfSome gone (λ b. IsNotOut t b) → ((b : ℕ) → taken ≡ Some b → gone ≢ Some b → IsOut t b)
    → ((key : ℕ) (sleeper : Sleeper) → get old key ≡ Some sleeper → taken ≢ Some sleeper.number → IsOut q sleeper.number)
    → OnlyThese (SleepsOn first gone) old later → OnlyThese (HasToWait t below) old later
who_waits q t below first gone taken old later loaded from not_out_if out asleep only key sleeper = (
  λ now. let was = (only key sleeper).0 now in
      let is_out : IsOut t sleeper.number = ⊎_elim (λ is. out sleeper.number is was.1.1) (λ other. loaded_out q t sleeper.number loaded (asleep key sleeper was.0 other)) (or_not taken sleeper.number) in
      (was.0, from.each_after sleeper.number was.1.0 is_out),
  λ was. (only key sleeper).1 (
    was.0,
    (
      λ before. from.none_before sleeper.number before was.1,
      λ is. not_out t sleeper.number was.1.1.0 (at_some (λ b. IsNotOut t b) gone sleeper.number not_out_if is) was.1.1.1,
    ),
  ),
)
