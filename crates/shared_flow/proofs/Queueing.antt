-- What a history of rounds comes to is what the sequencer has: those that wait, and those that it accepted.
use Rattle.std.proofs.Common.{◌≡◌, ◌≢◌, ◌⊎◌, ℕ, ◌+◌, List, [], ◌∷◌, ◌++◌, take, false, Ok, Err, refl, sym, ap, ◌∙◌, subst, ⊎_elim, inl, inr}
use Rattle.std.proofs.lemmas.List.{append-nil}
use Rattle.flow_terms.specs.declared.answers.Tried.TheVariants as tried
use Rattle.flow_terms.specs.declared.answers.Begun.TheVariants as begun
use Rattle.flow_terms.specs.declared.answers.Emit.TheVariants as emit
use Rattle.flow_terms.specs.declared.answers.Withdrawn.TheVariants as withdrawn
use Rattle.flow_terms.specs.declared.refusal.Refusal.{Refusal}
use Rattle.flow_terms.specs.declared.refusal.Refusal.TheVariants as refusals
use Rattle.round_lock.specs.History.After.{new, more}
use Rattle.shared_lane.specs.Law.{Entry}
use Rattle.shared_lane.specs.Blocks.{entries, AcceptedTogether, AcceptedInTurn, IsTurnedAway, TriedAllOn}
use Rattle.shared_lane.specs.Views.{LaneSeen, SequencerSeen}
use Rattle.shared_lane.specs.Sequencers.{OnlyLoaded, LoadedOrMoved, FoundNoRoom, Passed, TriedOn, waited, AcceptedWaiting, RefusedStart, seen}
use Rattle.shared_lane.specs.Places.{NotAdmitted}
use Rattle.shared_lane.specs.declared.tickets.Waiting.{Waiting}
use Rattle.shared_rounds.specs.declared.round.Emission.{Emission}
use Rattle.shared_rounds.specs.declared.round.Round.{Round}
use Rattle.shared_rounds.specs.declared.round.Round.TheVariants as round
use Rattle.shared_rounds.specs.Entering.{IsLeftBy}
use Rattle.shared_rounds.specs.Names.{SharedSeen}
use Rattle.shared_rounds.specs.Reach.{Rounds}
use Rattle.flow_terms.specs.declared.ids.Ticket.{Ticket}
use Rattle.shared_flow.specs.Queue.{Progress, progress_of, with_accepted, with_ticket, waits_in, IsAcceptedNow, AreAcceptedNow, Goes, Proceeds, ComesTo}
use Rattle.shared_flow.specs.Queue.ComesTo.{begins, goes_on}
use Rattle.shared_rounds.specs.Rounds.{Makes, Finishes, Scanned, Does, entry}
use Rattle.shared_rounds.proofs.Trying.{tried_waiting, tried_first}

abbrev progress : List Waiting → List Entry → ℕ → Progress
progress ws es k = record { waiting = ws; accepted = es; ticket = k }

same : (q t : SequencerSeen) → t.waiting ≡ q.waiting → seen t ≡ seen q → t.ticket ≡ q.ticket → progress_of t ≡ progress_of q
same q t ws es k = λ i. progress (ws i) (es i) (k i)

with_accepted_none : (p : Progress) → with_accepted 0 p ≡ p
with_accepted_none p = λ i. progress p.waiting (append-nil p.accepted i) p.ticket

settled_is : (k : ℕ) (q m : SequencerSeen) → AcceptedWaiting k q m → progress_of m ≡ with_accepted k (progress_of q)
settled_is k q m settled = λ i. progress (settled.waiting_is i) (settled.accepted i) (settled.ticket i)

loaded_is : (q t : SequencerSeen) → OnlyLoaded q t → progress_of t ≡ progress_of q
loaded_is q t only = same q t (ap (λ (z : SequencerSeen). z.waiting) only.0) only.2 (ap (λ (z : SequencerSeen). z.ticket) only.0)

moved_is : (q t : SequencerSeen) → LoadedOrMoved q t → progress_of t ≡ progress_of q
moved_is q t only = same q t (ap (λ (z : SequencerSeen). z.waiting) only.0) only.2 (ap (λ (z : SequencerSeen). z.ticket) only.0)

state_is : (q t : SequencerSeen) → t ≡ q → progress_of t ≡ progress_of q
state_is q t is = ap progress_of is

rests_is : (q t : SequencerSeen) → Finishes q t → (l : ℕ) × (progress_of t ≡ with_accepted l (progress_of q))
rests_is q t rests = ⊎_elim
    (λ is. (0, loaded_is rests.0 t rests.2 ∙ state_is q rests.0 is ∙ sym (with_accepted_none (progress_of q))))
    (λ (scan : Scanned q rests.0). (scan.1, loaded_is rests.0 t rests.2 ∙ ap progress_of scan.5 ∙ settled_is scan.1 q scan.0 scan.3))
    rests.1

full_is : (q t : SequencerSeen) → ((q.waiting ≢ []) × (t ≡ q)) ⊎ (LoadedOrMoved q t × Passed q.capacity q false t) → progress_of t ≡ progress_of q
full_is q t on = ⊎_elim (λ stays. state_is q t stays.1) (λ moved. moved_is q t moved.0) on

refused_is : (q : SequencerSeen) (refusal : Refusal) (t : SequencerSeen) → RefusedStart q refusal t → progress_of t ≡ progress_of q
refused_is q refusals.Spent t on = state_is q t on.1
refused_is q refusals.EmitsFull t on = full_is q t on.3
refused_is q _ t on = absurd on

shut_is : (q : SequencerSeen) (refusal : Refusal) (t : SequencerSeen) → NotAdmitted q refusal t → progress_of t ≡ progress_of q
shut_is q refusals.Spent t on = state_is q t on.1
shut_is q refusals.SubscribersFull t on = loaded_is q t on.2
shut_is q _ t on = absurd on

accepted_now : (q t : SequencerSeen) (e : Emission) → q.waiting ≡ [] → t.waiting ≡ q.waiting → seen t ≡ seen q ++ entry e ∷ [] → t.ticket ≡ q.ticket → IsAcceptedNow e (progress_of q) (progress_of t)
accepted_now q t e none ws es k = (none, λ i. progress (ws i) (es i) (k i))

-- the same with the next ticket
stood_now : (q t : SequencerSeen) (e : Emission) → q.waiting ≡ [] → t.waiting ≡ q.waiting → seen t ≡ seen q ++ entry e ∷ [] → t.ticket ≡ q.ticket + 1 → IsAcceptedNow e (with_ticket (progress_of q)) (progress_of t)
stood_now q t e none ws es k = (none, λ i. progress (ws i) (es i) (k i))

-- emissions without a ticket leave the next one's number
together_ticket : (q t : SequencerSeen) (es : List Entry) → AcceptedTogether q es t → t.ticket ≡ q.ticket
together_ticket q t es on = ap (λ (z : SequencerSeen). z.ticket) on.1.3 ∙ ap (λ (z : SequencerSeen). z.ticket) on.1.1.0

in_turn_ticket : (q t : SequencerSeen) (blocks : List (List Entry)) → AcceptedInTurn q blocks t → t.ticket ≡ q.ticket
in_turn_ticket q t [] is = ap (λ (z : SequencerSeen). z.ticket) is
in_turn_ticket q t (es ∷ blocks) in_turn = in_turn_ticket in_turn.0 t blocks in_turn.3 ∙ together_ticket q in_turn.0 es in_turn.2

full_ticket : (q t : SequencerSeen) → FoundNoRoom q t → t.ticket ≡ q.ticket
full_ticket q t found = ⊎_elim (λ stays. ap (λ (z : SequencerSeen). z.ticket) stays.1) (λ moved. ap (λ (z : SequencerSeen). z.ticket) moved.0.0) found

turned_ticket : (q t : SequencerSeen) → IsTurnedAway q t → t.ticket ≡ q.ticket
turned_ticket q t turned = let any : Entry = (0, 0) in ⊎_elim
    (λ spent. ap (λ (z : SequencerSeen). z.ticket) spent.2)
    (λ each. ⊎_elim (λ (full : TriedOn q any tried.Full t). full_ticket q t full.1) (λ (dropped : TriedOn q any tried.Dropped t). ap (λ (z : SequencerSeen). z.ticket) dropped.1.0.0) (each any))
    turned

tried_ticket : (q t : SequencerSeen) (emitter : ℕ) (words : List ℕ) (n : ℕ) → TriedAllOn q emitter words n t → t.ticket ≡ q.ticket
tried_ticket q t emitter words n on = let blocks = on.in_turn in
    ⊎_elim (λ whole. ap (λ (z : SequencerSeen). z.ticket) whole.1) (λ cut. turned_ticket blocks.1 t cut.1) blocks.4 ∙ in_turn_ticket q blocks.1 blocks.0 blocks.3

all_now : (q t : SequencerSeen) (emitter : ℕ) (words : List ℕ) (n : ℕ) → TriedAllOn q emitter words n t → AreAcceptedNow (entries emitter (take n words)) (progress_of q) (progress_of t)
all_now q t emitter words n on = let ws = tried_waiting q t emitter words n on in let k = tried_ticket q t emitter words n on in (tried_first q t emitter words n on, λ i. progress (ws i) (on.accepted i) (k i))

queued : (q t : SequencerSeen) (e : Emission) → t ≡ record (waited (entry e) q) { view = t.view } → seen t ≡ seen q → progress_of t ≡ waits_in e (progress_of q)
queued q t e waits log =
    let ws = ap (λ (z : SequencerSeen). z.waiting) waits in
    let k = ap (λ (z : SequencerSeen). z.ticket) waits in
    λ i. progress (ws i) (log i) (k i)

-- what a call does to the queue
goes : (lane : LaneSeen) (q : SequencerSeen) (r : Round) (t : SequencerSeen) → Makes lane q r t → Goes r (progress_of q) (progress_of t)
goes lane q (round.Try e (Ok (tried.Accepted n))) t on = accepted_now q t e on.0 on.4.0 on.2 on.4.2
goes lane q (round.Try e (Ok tried.Dropped)) t on = moved_is q t on.1.0
goes lane q (round.Try e (Ok tried.Full)) t on = full_is q t on.1
goes lane q (round.Try e (Err refusal)) t on = state_is q t on.2
goes lane q (round.TryAll emitter words (Ok n)) t on = all_now q t emitter words n on
goes lane q (round.TryAll emitter words (Err refusal)) t on = state_is q t on.1.2
goes lane q (round.Start e (Ok (begun.Accepted n))) t on = accepted_now q t e on.0 on.4.0 on.2 on.4.2
goes lane q (round.Start e (Ok begun.Dropped)) t on = moved_is q t on.1.0
goes lane q (round.Start e (Ok (begun.Waiting ticket))) t on = (
  on.1,
  ⊎_elim
      (λ stood. inl (stood_now q t e stood.0 stood.2.1 stood.2.3 stood.2.0))
      (λ waits. inr (queued q t e waits.0 waits.1))
      on.3,
)
goes lane q (round.Start e (Err refusal)) t on = refused_is q refusal t on
goes lane q (round.Poll ticket (emit.Done n)) t on = same q t (ap (λ (z : SequencerSeen). z.waiting) on.5.0) on.5.2 (ap (λ (z : SequencerSeen). z.ticket) on.5.0)
goes lane q (round.Poll ticket emit.Waiting) t on = loaded_is q t on.0
goes lane q (round.Poll ticket emit.Gone) t on = state_is q t on.0
goes lane q (round.StrayPoll ticket emitter last n) t on = same q t (ap (λ (z : SequencerSeen). z.waiting) on.0.5.0) on.0.5.2 (ap (λ (z : SequencerSeen). z.ticket) on.0.5.0)
goes lane q (round.StrayWithdraw ticket emitter last n) t on = same q t (ap (λ (z : SequencerSeen). z.waiting) on.0.5) (ap (λ (z : SequencerSeen). seen z) on.0.5) (ap (λ (z : SequencerSeen). z.ticket) on.0.5)
goes lane q (round.Withdraw ticket withdrawn.Removed) t on = (on.0, on.1, on.2.0, on.2.1, ap progress_of on.3)
goes lane q (round.Withdraw ticket (withdrawn.Left n)) t on = same q t (ap (λ (z : SequencerSeen). z.waiting) on.5) (ap (λ (z : SequencerSeen). seen z) on.5) (ap (λ (z : SequencerSeen). z.ticket) on.5)
goes lane q (round.Withdraw ticket withdrawn.Gone) t on = state_is q t on.0
goes lane q (round.Subscribe (Ok number)) t on = same q t (ap (λ (z : SequencerSeen). z.waiting) on.1.1.counted) on.1.1.same_log (ap (λ (z : SequencerSeen). z.ticket) on.1.1.counted)
goes lane q (round.Subscribe (Err refusal)) t on = shut_is q refusal t on
goes lane q (round.Next number) t on = state_is q t on
goes lane q (round.Pending number) t on = state_is q t on
goes lane q (round.Cancel number) t on = same on.0 t (ap (λ (z : SequencerSeen). z.waiting) on.4) (ap (λ (z : SequencerSeen). seen z) on.4) (ap (λ (z : SequencerSeen). z.ticket) on.4) ∙ loaded_is q on.0 on.2
goes lane q round.Reset t on = same q t (ap (λ (z : SequencerSeen). z.waiting) on) (ap (λ (z : SequencerSeen). seen z) on) (ap (λ (z : SequencerSeen). z.ticket) on)
goes lane q (round.Cache (Ok words)) t on = state_is q t on.0
goes lane q (round.Cache (Err refusal)) t on = state_is q t on.0
goes lane q (round.Count count) t on = loaded_is q t on.0
goes lane q (round.Hold count) t on = loaded_is q t on.0

pub proceeds : (s : SharedSeen) (r : Round) (t : SharedSeen) → Does s r t → Proceeds r (progress_of s.sequencer) (progress_of t.sequencer)
proceeds s r t does =
    let after = does.2 in
    let m = after.0 in
    let n = after.5.0 in
    let rest = rests_is n t.sequencer after.5.2 in
    (after.1, progress_of n, rest.0, subst (λ p. Goes r p (progress_of n)) (settled_is after.1 s.sequencer m after.3) (goes s.name.lane m r n after.5.1), rest.1)

pub comes_to : (made : SharedSeen) (log : Rounds) (s : SharedSeen) → IsLeftBy made log s → ComesTo log (progress_of s.sequencer)
comes_to _ _ _ (new s fresh) = subst (ComesTo []) (λ i. progress (sym fresh.1.7 i) (sym fresh.1.0 i) s.sequencer.ticket) (begins s.sequencer.ticket)
comes_to _ _ _ (more made log s pass e t before does) = goes_on log (progress_of s.sequencer) pass e t (progress_of t.sequencer) (comes_to made log s before) (proceeds s e t does)
