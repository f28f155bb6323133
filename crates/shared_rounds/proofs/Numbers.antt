-- The numbers that rounds answer with are below the next one, and rise.
use Rattle.std.specs.Prelude.{⊤}
use Rattle.std.proofs.Common.{◌≡◌, ◌≢◌, ◌⊎◌, ◌==◌, ℕ, zero, suc, ◌+◌, ◌<◌, ◌≤◌, Bool, true, false, cond, List, [], ◌∷◌, ◌++◌, length, take, Ok, Err, refl, sym, ap, ◌∙◌, subst, arith, length-append, ⊎_elim}
use mathlib.Core.Option.{some, some-ne-none}
use lib.ListN.{get_elem?}
use Rattle.flow_terms.specs.declared.answers.Tried.TheVariants as tried
use Rattle.flow_terms.specs.declared.answers.Begun.TheVariants as begun
use Rattle.flow_terms.specs.declared.answers.Emit.TheVariants as emit
use Rattle.flow_terms.specs.declared.answers.Withdrawn.TheVariants as withdrawn
use Rattle.round_lock.specs.History.{After, own_of}
use Rattle.round_lock.specs.History.After.{new, more}
use Rattle.shared_lane.specs.Law.{Entry}
use Rattle.shared_lane.specs.Blocks.{entries}
use Rattle.shared_lane.specs.Views.{LaneSeen, SequencerSeen}
use Rattle.flow_terms.specs.declared.ids.Ticket.{Ticket}
use Rattle.flow_terms.specs.declared.refusal.Refusal.{Refusal}
use Rattle.flow_terms.specs.declared.refusal.Refusal.TheVariants as refusals
use Rattle.shared_lane.specs.Sequencers.{IsSameSequencer, OnlyLoaded, LoadedOrMoved, Passed, AcceptedWaiting, BegunOn, RefusedStart, seen, next}
use Rattle.shared_lane.specs.Places.{IsAccepted, NotAdmitted}
use Rattle.shared_lane.specs.Polls.{given_back}
use Rattle.shared_rounds.specs.declared.round.Round.{Round}
use Rattle.shared_rounds.specs.declared.round.Round.TheVariants as round
use Rattle.shared_rounds.specs.Names.{SharedSeen, IsNew}
use Rattle.shared_rounds.specs.Rounds.{Makes, Finishes, Scanned, Does, after_number, Below}

pub below_more : (n m : ℕ) (rs : List Round) → n ≤ m → Below n rs → Below m rs
below_more n m [] le all = all
below_more n m (r ∷ rs) le all = (let first = all.0 in omega (arith, first, le), below_more n m rs le all.1)

pub below_snoc : (n : ℕ) (rs : List Round) (r : Round) → Below n rs → after_number r ≤ n → Below n (rs ++ r ∷ [])
below_snoc n [] r all last = (last, all)
below_snoc n (x ∷ rs) r all last = (all.0, below_snoc n rs r all.1 last)

-- ---- the next number never falls

pub settled_next : (k : ℕ) (q m : SequencerSeen) → IsSameSequencer q m → AcceptedWaiting k q m → next q ≤ next m
settled_next k q m same settled =
    let first : m.view.shape.first ≡ q.view.shape.first = ap (λ z. z.first) same.1 in
    let count = ap length settled.accepted ∙ length-append (seen q) _ in
    omega (arith, first, count)

loaded_next : (q t : SequencerSeen) → OnlyLoaded q t → next q ≤ next t
loaded_next q t only =
    let first : t.view.shape.first ≡ q.view.shape.first = ap (λ z. z.first) only.1 in
    let count = ap length only.2 in
    omega (arith, first, count)

-- so a round for an acceptance leaves it, which may have moved cursors on
moved_next : (q t : SequencerSeen) → LoadedOrMoved q t → next q ≤ next t
moved_next q t only =
    let first : t.view.shape.first ≡ q.view.shape.first = ap (λ z. z.first) only.1 in
    let count = ap length only.2 in
    omega (arith, first, count)

scanned_next : (q t : SequencerSeen) → Scanned q t → next q ≤ next t
scanned_next q t scan = subst (λ z. next q ≤ next z) (sym scan.5) (settled_next scan.1 q scan.0 scan.2 scan.3)

pub rests_next : (q t : SequencerSeen) → Finishes q t → next q ≤ next t
rests_next q t rests =
    let to : next q ≤ next rests.0 = ⊎_elim (λ is. subst (λ z. next q ≤ next z) (sym is) (omega arith)) (scanned_next q rests.0) rests.1 in
    let on = loaded_next rests.0 t rests.2 in
    omega (arith, to, on)

at_below : (l : List Entry) (i : ℕ) (a : Entry) → get_elem? l i ≡ some a → i < length l
at_below [] i a e = absurd (some-ne-none a (sym e))
at_below (x ∷ l) zero a e = omega arith
at_below (x ∷ l) (suc i) a e = let below = at_below l i a e in omega arith

accepted_below : (q : SequencerSeen) (e n : ℕ) → IsAccepted q e n → n + 1 ≤ next q
accepted_below q e n accepted = let is = accepted.2 in let below = at_below (seen q) accepted.0 (e, accepted.1) accepted.3 in omega (arith, is, below)

-- one more was accepted
one_more : (q : SequencerSeen) (e : Entry) (t : SequencerSeen) → t.view.shape ≡ q.view.shape → seen t ≡ seen q ++ e ∷ [] → next t ≡ next q + 1
one_more q e t same is =
    let first : t.view.shape.first ≡ q.view.shape.first = ap (λ z. z.first) same in
    let count = ap length is ∙ length-append (seen q) (e ∷ []) in
    omega (arith, first, count)

-- some more were accepted, or none
some_more : (q : SequencerSeen) (es : List Entry) (t : SequencerSeen) → t.view.shape ≡ q.view.shape → seen t ≡ seen q ++ es → next q ≤ next t
some_more q es t same is =
    let first : t.view.shape.first ≡ q.view.shape.first = ap (λ z. z.first) same in
    let count = ap length is ∙ length-append (seen q) es in
    omega (arith, first, count)

pub same_log : (q t : SequencerSeen) → t.view.shape ≡ q.view.shape → seen t ≡ seen q → next t ≡ next q
same_log q t same is =
    let first : t.view.shape.first ≡ q.view.shape.first = ap (λ z. z.first) same in
    let count = ap length is in
    omega (arith, first, count)

same_state : (q t : SequencerSeen) → t ≡ q → next q ≤ next t
same_state q t is = subst (λ z. next q ≤ next z) (sym is) (omega arith)

full_next : (q t : SequencerSeen) → ((q.waiting ≢ []) × (t ≡ q)) ⊎ (LoadedOrMoved q t × Passed q.capacity q false t) → next q ≤ next t
full_next q t on = ⊎_elim (λ stays. same_state q t stays.1) (λ moved. moved_next q t moved.0) on

refused_next : (q : SequencerSeen) (refusal : Refusal) (t : SequencerSeen) → RefusedStart q refusal t → next q ≤ next t
refused_next q refusals.Spent t on = same_state q t on.1
refused_next q refusals.EmitsFull t on = full_next q t on.3
refused_next q _ t on = absurd on

shut_next : (q : SequencerSeen) (refusal : Refusal) (t : SequencerSeen) → NotAdmitted q refusal t → next q ≤ next t
shut_next q refusals.Spent t on = same_state q t on.1
shut_next q refusals.SubscribersFull t on = loaded_next q t on.2
shut_next q _ t on = absurd on

-- a call without a number
unnumbered : (q t : SequencerSeen) → next q ≤ next t → (next q ≤ next t) × (0 ≤ next t)
unnumbered q t le = (le, omega arith)

waiting_next : (q : SequencerSeen) (e : Entry) (ticket : Ticket) (t : SequencerSeen) → t.view.shape ≡ q.view.shape → BegunOn q e (begun.Waiting ticket) t → next q ≤ next t
waiting_next q e ticket t same on = ⊎_elim
    (λ stood. let more = one_more q e t same stood.2.3 in omega (arith, more))
    (λ waits. let log = same_log q t same waits.1 in omega (arith, log))
    on.3

-- what a call answered with is below the next number after it, which isn't below the one before it
pub makes_next : (lane : LaneSeen) (q : SequencerSeen) (r : Round) (t : SequencerSeen) → t.view.shape ≡ q.view.shape → Makes lane q r t → (next q ≤ next t) × (after_number r ≤ next t)
makes_next lane q (round.Try e (Ok (tried.Accepted n))) t same on = let more = one_more q (e.emitter, e.word) t same on.2 in let is = on.1 in (omega (arith, more), omega (arith, more, is))
makes_next lane q (round.Try e (Ok tried.Dropped)) t same on = unnumbered q t (moved_next q t on.1.0)
makes_next lane q (round.Try e (Ok tried.Full)) t same on = unnumbered q t (full_next q t on.1)
makes_next lane q (round.Try e (Err refusal)) t same on = unnumbered q t (same_state q t on.2)
makes_next lane q (round.TryAll emitter words (Ok n)) t same on = unnumbered q t (some_more q (entries emitter (take n words)) t same on.accepted)
makes_next lane q (round.TryAll emitter words (Err refusal)) t same on = unnumbered q t (same_state q t on.1.2)
makes_next lane q (round.Start e (Ok (begun.Accepted n))) t same on = let more = one_more q (e.emitter, e.word) t same on.2 in let is = on.1 in (omega (arith, more), omega (arith, more, is))
makes_next lane q (round.Start e (Ok begun.Dropped)) t same on = unnumbered q t (moved_next q t on.1.0)
makes_next lane q (round.Start e (Ok (begun.Waiting ticket))) t same on = unnumbered q t (waiting_next q (e.emitter, e.word) ticket t same on)
makes_next lane q (round.Start e (Err refusal)) t same on = unnumbered q t (refused_next q refusal t on)
makes_next lane q (round.Poll ticket (emit.Done n)) t same on = (loaded_next (given_back on.0 q) t on.5, accepted_below t (on.1).emitter n on.4)
makes_next lane q (round.Poll ticket emit.Waiting) t same on = unnumbered q t (loaded_next q t on.0)
makes_next lane q (round.Poll ticket emit.Gone) t same on = unnumbered q t (same_state q t on.0)
makes_next lane q (round.StrayPoll ticket emitter last n) t same on = unnumbered q t (loaded_next (given_back on.0.0 q) t on.0.5)
makes_next lane q (round.StrayWithdraw ticket emitter last n) t same on = unnumbered q t (subst (λ z. next q ≤ next z) (sym on.0.5) (omega arith))
makes_next lane q (round.Withdraw ticket withdrawn.Removed) t same on = unnumbered q t (subst (λ z. next q ≤ next z) (sym on.3) (omega arith))
makes_next lane q (round.Withdraw ticket (withdrawn.Left n)) t same on = (subst (λ z. next q ≤ next z) (sym on.5) (omega arith), accepted_below t (on.1).emitter n on.4)
makes_next lane q (round.Withdraw ticket withdrawn.Gone) t same on = unnumbered q t (same_state q t on.0)
makes_next lane q (round.Subscribe (Ok number)) t same on = unnumbered q t (let log = same_log q t same on.1.1.same_log in omega (arith, log))
makes_next lane q (round.Subscribe (Err refusal)) t same on = unnumbered q t (shut_next q refusal t on)
makes_next lane q (round.Next number) t same on = unnumbered q t (same_state q t on)
makes_next lane q (round.Pending number) t same on = unnumbered q t (same_state q t on)
makes_next lane q (round.Cancel number) t same on = unnumbered q t (subst (λ z. next q ≤ next z) (sym on.4) (loaded_next q on.0 on.2))
makes_next lane q round.Reset t same on = unnumbered q t (subst (λ z. next q ≤ next z) (sym on) (omega arith))
makes_next lane q (round.Cache (Ok words)) t same on = unnumbered q t (same_state q t on.0)
makes_next lane q (round.Cache (Err refusal)) t same on = unnumbered q t (same_state q t on.0)
makes_next lane q (round.Count count) t same on = unnumbered q t (loaded_next q t on.0)
makes_next lane q (round.Hold count) t same on = unnumbered q t (loaded_next q t on.0)

pub rests_shape : (q t : SequencerSeen) → Finishes q t → t.view.shape ≡ q.view.shape
rests_shape q t rests = rests.2.1 ∙ ⊎_elim (λ is. ap (λ (z : SequencerSeen). z.view.shape) is) (λ (scan : Scanned q rests.0). ap (λ (z : SequencerSeen). z.view.shape) scan.5 ∙ scan.2.1) rests.1

pub does_next : (s : SharedSeen) (r : Round) (t : SharedSeen) → Does s r t → (next s.sequencer ≤ next t.sequencer) × (after_number r ≤ next t.sequencer)
does_next s r t does =
    let after = does.2 in
    let m = after.0 in
    let n = after.5.0 in
    let rests = after.5.2 in
    let shape : n.view.shape ≡ m.view.shape = sym (rests_shape n t.sequencer rests) ∙ does.1.1 ∙ sym after.2.1 in
    let first = settled_next after.1 s.sequencer m after.2 after.3 in
    let call = makes_next s.name.lane m r n shape after.5.1 in
    let last = rests_next n t.sequencer rests in
    let one = call.0 in
    let two = call.1 in
    (omega (arith, first, one, last), omega (arith, two, last))

-- ---- over a whole history

module _ {S : Type 0} where
  abbrev AllBelow : ℕ → List (ℕ × Round × S) → Type 0
  AllBelow n [] = ⊤
  AllBelow n (e ∷ log) = (after_number e.1 ≤ n) × AllBelow n log

  all_more : (n m : ℕ) (log : List (ℕ × Round × S)) → n ≤ m → AllBelow n log → AllBelow m log
  all_more n m [] le all = all
  all_more n m (e ∷ log) le all = (let first = all.0 in omega (arith, first, le), all_more n m log le all.1)

  all_snoc : (n : ℕ) (log : List (ℕ × Round × S)) (e : ℕ × Round × S) → AllBelow n log → after_number e.1 ≤ n → AllBelow n (log ++ e ∷ [])
  all_snoc n [] e all last = (last, all)
  all_snoc n (x ∷ log) e all last = (all.0, all_snoc n log e all.1 last)

  own_below : (n pass : ℕ) (log : List (ℕ × Round × S)) → AllBelow n log → Below n (own_of pass log)
  own_below n pass [] all = all
  own_below n pass (e ∷ log) all = by (e.0 == pass) (own_below n pass log all.1)
    where
      by : (b : Bool) → Below n (own_of pass log) → Below n (cond b (e.1 ∷ own_of pass log) (own_of pass log))
      by true rest = (all.0, rest)
      by false rest = rest

module _ {S : Type 0} (value : S → SharedSeen) where
  abbrev pub Left : S → List (ℕ × Round × S) → S → Type 0
  Left = After (λ (s : S). IsNew (value s)) (λ (s : S) (r : Round) (t : S). Does (value s) r (value t))

  -- the flow stays the one that was made
  pub same_name : (made : S) (log : List (ℕ × Round × S)) (s : S) → Left made log s → (value s).name ≡ (value made).name
  same_name _ _ _ (new s fresh) = refl
  same_name _ _ _ (more made log s pass e t before does) = does.0 ∙ same_name made log s before

  all_below : (made : S) (log : List (ℕ × Round × S)) (s : S) → Left made log s → AllBelow (next (value s).sequencer) log
  all_below _ _ _ (new s fresh) = tt
  all_below _ _ _ (more made log s pass e t before does) =
      let goes = does_next (value s) e (value t) does in
      all_snoc (next (value t).sequencer) log (pass, e, t) (all_more (next (value s).sequencer) (next (value t).sequencer) log goes.0 (all_below made log s before)) goes.1

  -- what an owner's rounds answered with is below the next number
  pub rounds_below : (made : S) (log : List (ℕ × Round × S)) (s : S) (pass : ℕ) → Left made log s → Below (next (value s).sequencer) (own_of pass log)
  rounds_below made log s pass left = own_below (next (value s).sequencer) pass log (all_below made log s left)
