-- What a receipt holds, by what the sequencer answered.
use Rattle.std.proofs.Common.{◌≡◌, ℕ, zero, suc, ◌+◌, ◌-◌, ◌≤◌, map, List, [], ◌∷◌, ◌++◌, length, take, IfSome, Result, Ok, Err, refl, sym, ap, subst, ◌∙◌, arith, length-append, ⊎_elim}
use mathlib.Core.Option.{some, some-injective}
use lib.ListN.{get_elem?}
use Rattle.std.proofs.lemmas.List.{take_all}
use Rattle.flow_terms.specs.declared.refusal.Refusal.{Refusal}
use Rattle.flow_terms.specs.declared.ids.Ticket.{Ticket}
use Rattle.flow_terms.specs.declared.answers.Tried.{Tried}
use Rattle.flow_terms.specs.declared.answers.Tried.TheVariants as tried
use Rattle.flow_terms.specs.declared.answers.Begun.{Begun}
use Rattle.flow_terms.specs.declared.answers.Begun.TheVariants as begun
use Rattle.flow_terms.specs.declared.answers.Emit.{Emit}
use Rattle.flow_terms.specs.declared.answers.Emit.TheVariants as emit
use Rattle.flow_terms.specs.declared.answers.Withdrawn.{Withdrawn}
use Rattle.flow_terms.specs.declared.answers.Withdrawn.TheVariants as withdrawn
use Rattle.shared_lane.specs.Law.{Entry}
use Rattle.shared_lane.specs.Views.{LaneSeen, ReceiptSeen, SequencerSeen}
use Rattle.shared_lane.specs.Sequencers.{IsSequencerOf, AcceptedOn, AfterScan, entry_of, next, seen}
use Rattle.shared_lane.specs.Places.{IsAccepted}
use Rattle.shared_lane.specs.Polls.{HasTicket, IsOutFor, PolledOn, WithdrawnFrom}
use Rattle.shared_lane.specs.declared.tickets.Standing.{Standing}
use Rattle.shared_lane.proofs.Outstanding.{one_with}
use Rattle.shared_rounds.specs.declared.round.Emission.{Emission}
use Rattle.shared_rounds.specs.declared.round.Round.TheVariants as round
use Rattle.shared_rounds.specs.Tries.{IfBegun, IfTried, ticket_of}
use Rattle.shared_rounds.specs.Rounds.{IsLastAccepted, IsReceiptOfOne, IsReceiptFor, HasSeenUpTo, Makes, AcceptsFor, entry, number_done, number_left}

at_last : {X : Type 0} (xs : List X) (x : X) → get_elem? (xs ++ x ∷ []) (length xs) ≡ some x
at_last [] x = refl
at_last (y ∷ ys) x = at_last ys x

-- an emission that was accepted just now is the last
pub last_accepted : (m t : SequencerSeen) (e : Emission) (n : ℕ) → t.view.shape ≡ m.view.shape → AcceptedOn m (entry e) n t → IsLastAccepted t e n
last_accepted m t e n same on = (seen m, on.2, on.1 ∙ ap (λ z. z.first + length (seen m)) (sym same))

pub is_accepted : (q : SequencerSeen) (e : Emission) (n : ℕ) → IsLastAccepted q e n → IsAccepted q e.emitter n
is_accepted q e n last = (length last.0, e.word, last.2, ap (λ (l : List Entry). get_elem? l (length last.0)) last.1 ∙ at_last last.0 (entry e))

-- what was seen up to an accepted emission ends in it
pub ends_at : (log : List Entry) (i : ℕ) (e : Entry) → get_elem? log i ≡ some e → take (suc i) log ≡ take i log ++ e ∷ []
ends_at [] i e at = cc
ends_at (x ∷ xs) zero e at = ap (λ (y : Entry). y ∷ []) (some-injective x e at)
ends_at (x ∷ xs) (suc i) e at = ap (λ (l : List Entry). x ∷ l) (ends_at xs i e at)

pub length_before : (log : List Entry) (i : ℕ) (e : Entry) → get_elem? log i ≡ some e → length (take i log) ≡ i
length_before [] i e at = cc
length_before (x ∷ xs) zero e at = refl
length_before (x ∷ xs) (suc i) e at = ap suc (length_before xs i e at)

-- the emitter that a ticket is out for is the one of the emission that stands with it
pub one_of : (q : SequencerSeen) (ticket e i : ℕ) (s : Standing) → IsOutFor q ticket e → HasTicket q ticket i s → s.emitter ≡ e
one_of q ticket e i s out has = ⊎_elim
    (λ waits. absurd (waits.4 i s has.0 has.1))
    (λ stands. ap (λ (z : Standing). z.emitter) (one_with q.standing ticket i stands.0 s stands.1 has.0 has.1 has.2 stands.2.0 stands.2.1 stands.2.2) ∙ stands.3)
    out

-- an own emission that was found finished, or had been accepted when it was given up
pub done_accepted : (q t : SequencerSeen) (ticket emitter : ℕ) (answer : Emit) → PolledOn q ticket answer t → IsOutFor q ticket emitter → IfSome (number_done answer) (λ n. IsAccepted t emitter n)
done_accepted q t ticket emitter (emit.Done n) done out = subst (λ e. IsAccepted t e n) (one_of q ticket emitter done.0 done.1 out done.2) done.4
done_accepted q t ticket emitter emit.Waiting done out = tt
done_accepted q t ticket emitter emit.Gone done out = tt

pub left_accepted : (q t : SequencerSeen) (ticket emitter : ℕ) (answer : Withdrawn ℕ) → WithdrawnFrom q ticket answer t → IsOutFor q ticket emitter → IfSome (number_left answer) (λ n. IsAccepted t emitter n)
left_accepted q t ticket emitter (withdrawn.Left n) left out = subst (λ e. IsAccepted t e n) (one_of q ticket emitter left.0 left.1 out left.2) left.4
left_accepted q t ticket emitter withdrawn.Removed left out = tt
left_accepted q t ticket emitter withdrawn.Gone left out = tt

-- a receipt for an accepted emission ends in it
pub of_one : (lane : LaneSeen) (q : SequencerSeen) (r : ReceiptSeen) (e n : ℕ) → IsSequencerOf lane q → IsAccepted q e n → r.table ≡ lane.table → r.emitter ≡ e → r.number ≡ n → r.seen ≡ take (n + 1 - q.view.shape.first) (seen q) → IsReceiptOfOne lane e r
of_one lane q r e n of accepted table emitter number seen_is =
    let i : ℕ = accepted.0 in
    let w : ℕ = accepted.1 in
    let at : n ≡ q.view.shape.first + i = accepted.2 in
    let first : q.view.shape.first ≡ lane.shape.first = ap (λ z. z.first) of.1 in
    let count : n + 1 - q.view.shape.first ≡ suc i = omega (arith, at) in
    let before : length (take i (seen q)) ≡ i = length_before (seen q) i (e, w) accepted.3 in
    (table, emitter, (take i (seen q), w, seen_is ∙ ap (λ k. take k (seen q)) count ∙ ends_at (seen q) i (e, w) accepted.3, omega (arith, number, at, first, before)))

-- a receipt for the last emission ends in it
pub for_last : (lane : LaneSeen) (q : SequencerSeen) (r : ReceiptSeen) (e : Emission) (n : ℕ) → IsLastAccepted q e n
    → IsReceiptOfOne lane e.emitter r → HasSeenUpTo q r → r.number ≡ n → IsReceiptFor lane e r
for_last lane q r e n last one upto number =
    let count : length (seen q) ≡ length last.0 + 1 = ap length last.1 ∙ length-append last.0 (entry e ∷ []) in
    let whole : take (n + 1 - q.view.shape.first) (seen q) ≡ seen q = take_all (n + 1 - q.view.shape.first) (seen q) (omega (arith, last.2, count)) in
    let all : r.seen ≡ last.0 ++ entry e ∷ [] = upto ∙ ap (λ k. take (k + 1 - q.view.shape.first) (seen q)) number ∙ whole ∙ last.1 in
    let counts : length (one.2.0 ++ (e.emitter, one.2.1) ∷ []) ≡ length (last.0 ++ entry e ∷ []) = ap length (sym one.2.2 ∙ all) in
    let a = length-append one.2.0 ((e.emitter, one.2.1) ∷ []) in
    let b = length-append last.0 (entry e ∷ []) in
    let before : length one.2.0 ≡ length last.0 = omega arith in
    (one.0, one.1, (last.0, all, one.2.3 ∙ ap (λ k. lane.shape.first + k) before))

-- its number is none of those that were accepted before the call
pub is_later : (q t : SequencerSeen) (e : Entry) (n : ℕ) → AfterScan q (λ m. AcceptedOn m e n t) → next q ≤ n
is_later q t e n after =
    let m : SequencerSeen = after.0 in
    let first : m.view.shape.first ≡ q.view.shape.first = ap (λ z. z.first) after.2.1 in
    let longer : length (seen m) ≡ length (seen q) + length (map entry_of (take after.1 q.waiting)) = ap length after.3.accepted ∙ length-append (seen q) _ in
    omega (arith, after.5.1, first, longer)

module _ (lane : LaneSeen) (q s : SequencerSeen) (e : Emission) where
  -- so of what a try accepted
  pub tried_last : (answer : Result (Tried ℕ) Refusal) → s.view.shape ≡ q.view.shape → AfterScan q (λ m. Makes lane m (round.Try e answer) s) → IfTried answer (IsLastAccepted s e)
  tried_last (Ok (tried.Accepted n)) same after = last_accepted after.0 s e n (same ∙ sym after.2.1) after.5
  tried_last (Ok tried.Dropped) same after = tt
  tried_last (Ok tried.Full) same after = tt
  tried_last (Err refusal) same after = tt

  pub tried_later : (answer : Result (Tried ℕ) Refusal) → AfterScan q (λ m. Makes lane m (round.Try e answer) s) → IfTried answer (λ n. next q ≤ n)
  tried_later (Ok (tried.Accepted n)) after = is_later q s (entry e) n after
  tried_later (Ok tried.Dropped) after = tt
  tried_later (Ok tried.Full) after = tt
  tried_later (Err refusal) after = tt

  -- and of what a start accepted, after which the cursors aren't looked at once more
  pub begun_last : (t : SequencerSeen) (answer : Result (Begun ℕ Ticket) Refusal) → s.view.shape ≡ q.view.shape → AfterScan q (λ m. Makes lane m (round.Start e answer) s)
      → AcceptsFor (ticket_of answer) s t → IfBegun answer (IsLastAccepted t e)
  begun_last t (Ok (begun.Accepted n)) same after watched = subst (λ (z : SequencerSeen). IsLastAccepted z e n) (sym watched) (last_accepted after.0 s e n (same ∙ sym after.2.1) after.5)
  begun_last t (Ok begun.Dropped) same after watched = tt
  begun_last t (Ok (begun.Waiting ticket)) same after watched = tt
  begun_last t (Err refusal) same after watched = tt

  pub begun_later : (answer : Result (Begun ℕ Ticket) Refusal) → AfterScan q (λ m. Makes lane m (round.Start e answer) s) → IfBegun answer (λ n. next q ≤ n)
  begun_later (Ok (begun.Accepted n)) after = is_later q s (entry e) n after
  begun_later (Ok begun.Dropped) after = tt
  begun_later (Ok (begun.Waiting ticket)) after = tt
  begun_later (Err refusal) after = tt
