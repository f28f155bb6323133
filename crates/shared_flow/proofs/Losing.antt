-- What a round loses.
use Rattle.std.proofs.Common.{◌≡◌, ◌≢◌, ◌⊎◌, ⊎_elim, inl, inr, ℕ, ◌+◌, ◌<◌, ◌≤◌, Bool, true, false, true≢false, cond, eqb, List, [], ◌∷◌, ◌++◌, length, take, Ok, Err, refl, sym, ap, ◌∙◌, subst, arith, get_or, set, get_or-set_same, get_or-set_other, length-append, append_assoc, lt_of_not-le}
use mathlib.Core.Logic.{dite}
use native.Mathlib.Decide.{ℕ_discrete, dec_le}
use Rattle.std.proofs.lemmas.List.{append-nil, set_past}
use Rattle.flow_terms.specs.declared.policy.Policy.{Policy}
use Rattle.flow_terms.specs.declared.policy.Policy.TheVariants.{Suspend, DropOldest, DropLatest}
use Rattle.flow_terms.specs.declared.refusal.Refusal.{Refusal}
use Rattle.flow_terms.specs.declared.refusal.Refusal.TheVariants as refusals
use Rattle.flow_terms.specs.declared.answers.Tried.TheVariants as tried
use Rattle.flow_terms.specs.declared.answers.Begun.TheVariants as begun
use Rattle.flow_terms.specs.declared.answers.Emit.TheVariants as emit
use Rattle.flow_terms.specs.declared.answers.Withdrawn.TheVariants as withdrawn
use Rattle.flow_terms.specs.declared.ids.Ticket.{Ticket}
use Rattle.shared_lane.specs.declared.view.Known.{Known}
use Rattle.shared_lane.specs.declared.view.Sequencing.{Sequencing}
use Rattle.shared_lane.specs.declared.view.Shape.{Shape}
use Rattle.shared_lane.specs.declared.view.View.{View}
use Rattle.shared_lane.specs.Law.{Entry, closed, shut_place}
use Rattle.shared_lane.specs.Steps.{known_of, known_at, known_over}
use Rattle.shared_lane.specs.Views.{LaneSeen, SequencerSeen}
use Rattle.shared_lane.specs.Surveys.{WholePass, Cleared, lost_at, LosesNone}
use Rattle.shared_lane.specs.Sequencers.{ByCursors, FoundNoRoom, PassedBy, AcceptedOn, TriedOn, BegunOn, RefusedStart, next, seen}
use Rattle.shared_lane.specs.Blocks.{AcceptedTogether, AcceptedInTurn, IsTurnedAway, PassedFor, TriedAllOn}
use Rattle.shared_lane.specs.Places.{lost_by, LosesNothing, NotAdmitted}
use Rattle.shared_lane.proofs.Passes.{same_lost}
use Rattle.shared_lane.proofs.WholePasses.{found_loses_none}
use Rattle.shared_rounds.specs.declared.round.Round.{Round}
use Rattle.shared_rounds.specs.declared.round.Round.TheVariants as round
use Rattle.shared_rounds.specs.Names.{SharedSeen}
use Rattle.shared_rounds.specs.Rounds.{Makes, Finishes, Scanned}
use Rattle.shared_rounds.proofs.Numbers.{settled_next, makes_next, rests_next, rests_shape}
use Rattle.shared_flow.specs.Losses.{StandBehind, LosesBy, OpensOne, Loses, OnlyAcceptancesLose}

-- ---- numbers that stand behind emissions

from_below : (cells low mid high : ℕ) (ns : List ℕ) → low ≤ mid → StandBehind cells mid high ns → StandBehind cells low high ns
from_below cells low mid high [] le behind = tt
from_below cells low mid high (n ∷ ns) le behind = (let at : mid ≤ n + cells = behind.0 in omega (arith, at, le), behind.1, behind.2)

stand_then : (cells low mid high : ℕ) (xs ys : List ℕ) → low ≤ mid → mid ≤ high → StandBehind cells low mid xs → StandBehind cells mid high ys → StandBehind cells low high (xs ++ ys)
stand_then cells low mid high [] ys le up a b = from_below cells low mid high ys le b
stand_then cells low mid high (n ∷ xs) ys le up a b = let near : n + cells < mid = a.1 in (a.0, (let h : n + cells < high = omega (arith, near, up) in h), stand_then cells (n + cells + 1) mid high xs ys (omega (arith, near)) up a.2 b)

-- ---- one after another

none_by : (policy : Policy) (q t : SequencerSeen) → LosesNothing q t → LosesBy policy q t
none_by Suspend q t nothing = nothing
none_by DropOldest q t nothing = λ p. ([], nothing p ∙ sym (append-nil (lost_by q p)), tt)
none_by DropLatest q t nothing = nothing

loses_then : (policy : Policy) (q m t : SequencerSeen) → m.view.shape ≡ q.view.shape → next q ≤ next m → next m ≤ next t → LosesBy policy q m → LosesBy policy m t → LosesBy policy q t
loses_then Suspend q m t same le up a b = λ p. b p ∙ a p
loses_then DropLatest q m t same le up a b = λ p. b p ∙ a p
loses_then DropOldest q m t same le up a b = λ p. let x = a p in let y = b p in (
  x.0 ++ y.0,
  y.1 ∙ (ap (λ (l : List ℕ). l ++ y.0) x.1 ∙ append_assoc (lost_by q p) x.0 y.0),
  stand_then q.view.shape.cells (next q) (next m) (next t) x.0 y.0 le up x.2 (subst (λ (key : Shape). StandBehind key.cells (next m) (next t) y.0) same y.2),
)

-- ---- a round over the cursors

-- a place lost nothing by it, or the value at which its cursor was found, which stood as far behind as there are cells
cleared_one : (tail cells high n : ℕ) (k k' : Known) → tail < high → Cleared tail cells n k k' → (ns : List ℕ) × (k'.lost ≡ k.lost ++ ns) × StandBehind cells tail high ns
cleared_one tail cells high n k k' above cleared = dite (ℕ_discrete n closed) (λ shut. still (inl shut)) (λ ne. dite (dec_le (n + cells) tail)
    (λ far. let pushed = cleared.pushed ne far in let whole : n + cells ≡ tail = pushed.0 in ⊎_elim
    (λ past. (n ∷ [], ap (λ (z : Known). z.lost) past ∙ ap (λ (l : List ℕ). l ++ n ∷ []) (same_lost n k), (let a : tail ≤ n + cells = omega (arith, whole) in a, (let b : n + cells < high = omega (arith, whole, above) in b), tt)))
    (λ moved. ([], ap (λ (z : Known). z.lost) moved.3 ∙ (same_lost moved.0 (known_at n k) ∙ (same_lost n k ∙ sym (append-nil k.lost))), tt))
    pushed.1)
    (λ near. still (inr (lt_of_not-le near))))
  where
    still : (n ≡ closed) ⊎ (tail < n + cells) → (ns : List ℕ) × (k'.lost ≡ k.lost ++ ns) × StandBehind cells tail high ns
    still why = ([], ap (λ (z : Known). z.lost) (cleared.kept why) ∙ (same_lost n k ∙ sym (append-nil k.lost)), tt)

cleared_all : (tail cells high : ℕ) (v w : View) (ns : List ℕ) → tail < high → WholePass (Cleared tail cells) v ns w → (p : ℕ) → (xs : List ℕ) × (lost_at w p ≡ lost_at v p ++ xs) × StandBehind cells tail high xs
cleared_all tail cells high v w ns above round p = dite (dec_le (length ns) p)
    (λ far. ([], ap (λ (k : Known). k.lost) (round.rest p far) ∙ sym (append-nil (lost_at v p)), tt))
    (λ near. cleared_one tail cells high (get_or ns p 0) (known_of v.sequencing p) (known_of w.sequencing p) above (round.each p (lt_of_not-le near)))

-- an acceptance, by one round
passed_loses : (policy : Policy) (lag : ℕ) (q m t : SequencerSeen) (room : Bool) → PassedBy policy lag q room m.view → t.view.sequencing ≡ m.view.sequencing → next q < next t → LosesBy policy q t
passed_loses Suspend lag q m t room r same more = λ p. ap (λ (z : Sequencing). (known_of z p).lost) same ∙ found_loses_none q.view m.view r.0 r.2 p
passed_loses DropLatest lag q m t room r same more = λ p. ap (λ (z : Sequencing). (known_of z p).lost) same ∙ found_loses_none q.view m.view r.0 r.2 p
passed_loses DropOldest lag q m t room r same more = λ p. let one = cleared_all (next q) q.view.shape.cells (next t) q.view m.view r.1.0 more r.1.2 p in
    (one.0, ap (λ (z : Sequencing). (known_of z p).lost) same ∙ one.1, one.2)

-- the same of a block
block_loses : (policy : Policy) (k : ℕ) (q m t : SequencerSeen) → PassedFor policy k q m.view → t.view.sequencing ≡ m.view.sequencing → next q < next t → LosesBy policy q t
block_loses Suspend k q m t r same more = λ p. ap (λ (z : Sequencing). (known_of z p).lost) same ∙ found_loses_none q.view m.view r.0 r.2 p
block_loses DropLatest k q m t r same more = λ p. ap (λ (z : Sequencing). (known_of z p).lost) same ∙ found_loses_none q.view m.view r.0 r.2 p
block_loses DropOldest k q m t r same more = λ p. let one = cleared_all (next q) q.view.shape.cells (next t) q.view m.view r.0 more r.2 p in
    (one.0, ap (λ (z : Sequencing). (known_of z p).lost) same ∙ one.1, one.2)

-- a round that found no room lost nothing: under `DropOldest` there is room always
no_room : (policy : Policy) (lag : ℕ) (q : SequencerSeen) (v : View) → PassedBy policy lag q false v → LosesNone q.view v
no_room Suspend lag q v r = found_loses_none q.view v r.0 r.2
no_room DropLatest lag q v r = found_loses_none q.view v r.0 r.2
no_room DropOldest lag q v r = absurd (true≢false (sym r.0))

-- where emissions wait none is lost
suspended : (policy : Policy) (lag : ℕ) (q : SequencerSeen) (room : Bool) (v : View) → policy ≡ Suspend → PassedBy policy lag q room v → LosesNone q.view v
suspended Suspend lag q room v is r = found_loses_none q.view v r.0 r.2
suspended DropLatest lag q room v is r = found_loses_none q.view v r.0 r.2
suspended DropOldest lag q room v is r = let no : ⊥ = cc (is) in absurd no

-- ---- what a call does

same_state : (q t : SequencerSeen) → t ≡ q → LosesNothing q t
same_state q t is p = ap (λ (z : SequencerSeen). lost_by z p) is

grown : (q t : SequencerSeen) (es : List Entry) → t.view.shape ≡ q.view.shape → seen t ≡ seen q ++ es → next t ≡ next q + length es
grown q t es same is = let first : t.view.shape.first ≡ q.view.shape.first = ap (λ (z : Shape). z.first) same in let count = ap length is ∙ length-append (seen q) es in omega (arith, first, count)

accepted_loses : (q t : SequencerSeen) (e : Entry) (n : ℕ) → t.view.shape ≡ q.view.shape → AcceptedOn q e n t → LosesBy q.policy q t
accepted_loses q t e n shape on = let m : SequencerSeen = on.6.0 in let more = grown q t (e ∷ []) shape on.2 in
    passed_loses q.policy q.capacity q m t true on.6.1.1 (ap (λ (z : SequencerSeen). z.view.sequencing) on.6.2) (omega (arith, more))

together_shape : (q t : SequencerSeen) (es : List Entry) → AcceptedTogether q es t → t.view.shape ≡ q.view.shape
together_shape q t es on = ap (λ (z : SequencerSeen). z.view.shape) on.1.3 ∙ on.1.1.1

together_seen : (q t : SequencerSeen) (es : List Entry) → AcceptedTogether q es t → seen t ≡ seen q ++ es
together_seen q t es on = ap seen on.1.3 ∙ ap (λ (l : List Entry). l ++ es) on.1.1.2

turn_shape : (q t : SequencerSeen) (blocks : List (List Entry)) → AcceptedInTurn q blocks t → t.view.shape ≡ q.view.shape
turn_shape q t [] is = ap (λ (z : SequencerSeen). z.view.shape) is
turn_shape q t (es ∷ blocks) on = turn_shape on.0 t blocks on.3 ∙ together_shape q on.0 es on.2

turn_next : (q t : SequencerSeen) (blocks : List (List Entry)) → AcceptedInTurn q blocks t → next q ≤ next t
turn_next q t [] is = subst (λ (z : SequencerSeen). next q ≤ next z) (sym is) (omega arith)
turn_next q t (es ∷ blocks) on = let one = grown q on.0 es (together_shape q on.0 es on.2) (together_seen q on.0 es on.2) in let rest = turn_next on.0 t blocks on.3 in omega (arith, one, rest)

turn_policy : (q t : SequencerSeen) (es : List Entry) → AcceptedTogether q es t → t.policy ≡ q.policy
turn_policy q t es on = ap (λ (z : SequencerSeen). z.policy) on.1.3 ∙ ap (λ (z : SequencerSeen). z.policy) on.1.1.0

turn_loses : (policy : Policy) (q t : SequencerSeen) (blocks : List (List Entry)) → q.policy ≡ policy → AcceptedInTurn q blocks t → LosesBy policy q t
turn_loses policy q t [] is on = none_by policy q t (same_state q t on)
turn_loses policy q t (es ∷ blocks) is on =
    let n : SequencerSeen = on.0 in
    let m : SequencerSeen = on.2.1.0 in
    let shape = together_shape q n es on.2 in
    let one = grown q n es shape (together_seen q n es on.2) in
    let some = on.1 in
    let first = block_loses policy (length es) q m n (subst (λ (z : Policy). PassedFor z (length es) q m.view) is on.2.1.2) (ap (λ (z : SequencerSeen). z.view.sequencing) on.2.1.3) (omega (arith, one, some)) in
    loses_then policy q n t shape (omega (arith, one)) (turn_next n t blocks on.3) first (turn_loses policy n t blocks (turn_policy q n es on.2 ∙ is) on.3)

full_loses : (q t : SequencerSeen) → FoundNoRoom q t → LosesNothing q t
full_loses q t found = ⊎_elim (λ stays. same_state q t stays.1) (λ moved. no_room q.policy q.capacity q t.view moved.1) found

away_loses : (q t : SequencerSeen) → IsTurnedAway q t → LosesNothing q t
away_loses q t away = let any : Entry = (0, 0) in ⊎_elim
    (λ spent. same_state q t spent.2)
    (λ each. ⊎_elim (λ (full : TriedOn q any tried.Full t). full_loses q t full.1) (λ (dropped : TriedOn q any tried.Dropped t). no_room q.policy q.capacity q t.view dropped.1.1) (each any))
    away

away_seen : (q t : SequencerSeen) → t.view.shape ≡ q.view.shape → IsTurnedAway q t → next q ≤ next t
away_seen q t shape away = let any : Entry = (0, 0) in ⊎_elim
    (λ spent. subst (λ (z : SequencerSeen). next q ≤ next z) (sym spent.2) (omega arith))
    (λ each. ⊎_elim
    (λ (full : TriedOn q any tried.Full t). ⊎_elim (λ stays. subst (λ (z : SequencerSeen). next q ≤ next z) (sym stays.1) (omega arith)) (λ moved. still moved.0.2) full.1)
    (λ (dropped : TriedOn q any tried.Dropped t). still dropped.1.0.2)
    (each any))
    away
  where
    still : seen t ≡ seen q → next q ≤ next t
    still is = let log = grown q t [] shape (is ∙ sym (append-nil (seen q))) in omega (arith, log)

tried_loses : (q t : SequencerSeen) (emitter : ℕ) (words : List ℕ) (n : ℕ) → t.view.shape ≡ q.view.shape → TriedAllOn q emitter words n t → LosesBy q.policy q t
tried_loses q t emitter words n shape on =
    let turn = on.in_turn in
    let m : SequencerSeen = turn.1 in
    let first = turn_loses q.policy q m turn.0 refl turn.3 in
    let there = turn_shape q m turn.0 turn.3 in
    ⊎_elim
    (λ whole. subst (λ (z : SequencerSeen). LosesBy q.policy q z) (sym whole.1) first)
    (λ cut. loses_then q.policy q m t there (turn_next q m turn.0 turn.3) (away_seen m t (shape ∙ sym there) cut.1) first (none_by q.policy m t (away_loses m t cut.1)))
    turn.4

refused_loses : (q : SequencerSeen) (refusal : Refusal) (t : SequencerSeen) → RefusedStart q refusal t → LosesNothing q t
refused_loses q refusals.Spent t on = same_state q t on.1
refused_loses q refusals.EmitsFull t on = full_loses q t on.3
refused_loses q _ t on = absurd on

shut_loses : (q : SequencerSeen) (refusal : Refusal) (t : SequencerSeen) → NotAdmitted q refusal t → LosesNothing q t
shut_loses q refusals.Spent t on = same_state q t on.1
shut_loses q refusals.SubscribersFull t on = on.2.4
shut_loses q _ t on = absurd on

twice_loses : (q m u : SequencerSeen) (free : Bool) → q.policy ≡ Suspend → ByCursors q.capacity q false m → ByCursors 1 m free u → LosesNothing q u
twice_loses q m u free policy first second p = suspended m.policy 1 m free u.view (ap (λ (z : SequencerSeen). z.policy) first.0.0 ∙ policy) second.1 p ∙ no_room q.policy q.capacity q m.view first.1 p

waits_loses : (q : SequencerSeen) (e : Entry) (ticket : Ticket) (t : SequencerSeen) → BegunOn q e (begun.Waiting ticket) t → LosesNothing q t
waits_loses q e ticket t on = ⊎_elim
    (λ stood. let u : SequencerSeen = stood.3.0 in λ p. ap (λ (z : SequencerSeen). lost_by z p) stood.3.2 ∙ twice_loses q stood.3.1.1.0 u true on.0 stood.3.1.1.1 stood.3.1.1.2 p)
    (λ waits. ⊎_elim
    (λ behind. λ p. ap (λ (z : SequencerSeen). lost_by z p) behind.1)
    (λ way. let m : SequencerSeen = way.0 in λ p. ap (λ (z : SequencerSeen). lost_by z p) way.2 ∙ ⊎_elim
    (λ room. no_room q.policy q.capacity q m.view room.1.1 p)
    (λ twice. twice_loses q twice.1.0 m false on.0 twice.1.1 twice.1.2 p)
    way.1)
    waits.2)
    on.3

over_lost : (opening : ℕ) (k : Known) → (known_over opening k).lost ≡ k.lost
over_lost opening k = by (eqb k.opening opening)
  where
    by : (b : Bool) → (cond b (record k { is_open = false }) k).lost ≡ k.lost
    by true = refl
    by false = refl

-- a reader's end leaves what its place lost
told_loses : (places : List Known) (i opening j : ℕ) → (get_or (set places i (known_over opening (get_or places i shut_place))) j shut_place).lost ≡ (get_or places j shut_place).lost
told_loses places i opening j = let k : Known = known_over opening (get_or places i shut_place) in dite (ℕ_discrete j i)
    (λ is. dite (dec_le (length places) i)
    (λ far. ap (λ (l : List Known). (get_or l j shut_place).lost) (set_past places i k far))
    (λ near. ap (λ (z : ℕ). (get_or (set places i k) z shut_place).lost) is ∙ (ap (λ (z : Known). z.lost) (get_or-set_same places i k shut_place (lt_of_not-le near))
    ∙ (over_lost opening (get_or places i shut_place) ∙ ap (λ (z : ℕ). (get_or places z shut_place).lost) (sym is)))))
    (λ ne. ap (λ (z : Known). z.lost) (get_or-set_other places i j k shut_place ne))

makes_loses : (lane : LaneSeen) (q : SequencerSeen) (r : Round) (t : SequencerSeen) → t.view.shape ≡ q.view.shape → Makes lane q r t → Loses r q t
makes_loses lane q (round.Try e (Ok (tried.Accepted n))) t same on = accepted_loses q t (e.emitter, e.word) n same on
makes_loses lane q (round.Try e (Ok tried.Dropped)) t same on = no_room q.policy q.capacity q t.view on.1.1
makes_loses lane q (round.Try e (Ok tried.Full)) t same on = full_loses q t on.1
makes_loses lane q (round.Try e (Err refusal)) t same on = same_state q t on.2
makes_loses lane q (round.TryAll emitter words (Ok n)) t same on = tried_loses q t emitter words n same on
makes_loses lane q (round.TryAll emitter words (Err refusal)) t same on = same_state q t on.1.2
makes_loses lane q (round.Start e (Ok (begun.Accepted n))) t same on = accepted_loses q t (e.emitter, e.word) n same on
makes_loses lane q (round.Start e (Ok begun.Dropped)) t same on = no_room q.policy q.capacity q t.view on.1.1
makes_loses lane q (round.Start e (Ok (begun.Waiting ticket))) t same on = waits_loses q (e.emitter, e.word) ticket t on
makes_loses lane q (round.Start e (Err refusal)) t same on = refused_loses q refusal t on
makes_loses lane q (round.Poll ticket (emit.Done n)) t same on = on.5.4
makes_loses lane q (round.Poll ticket emit.Waiting) t same on = on.0.4
makes_loses lane q (round.Poll ticket emit.Gone) t same on = same_state q t on.0
makes_loses lane q (round.StrayPoll ticket emitter last n) t same on = on.0.5.4
makes_loses lane q (round.StrayWithdraw ticket emitter last n) t same on = λ p. ap (λ (z : SequencerSeen). lost_by z p) on.0.5
makes_loses lane q (round.Withdraw ticket withdrawn.Removed) t same on = λ p. ap (λ (z : SequencerSeen). lost_by z p) on.3
makes_loses lane q (round.Withdraw ticket (withdrawn.Left n)) t same on = λ p. ap (λ (z : SequencerSeen). lost_by z p) on.5
makes_loses lane q (round.Withdraw ticket withdrawn.Gone) t same on = same_state q t on.0
makes_loses lane q (round.Subscribe (Ok number)) t same on = let r = on.1.0 in (r.place, on.1.1.none_lost, on.1.1.keeps)
makes_loses lane q (round.Subscribe (Err refusal)) t same on = shut_loses q refusal t on
makes_loses lane q (round.Next number) t same on = same_state q t on
makes_loses lane q (round.Pending number) t same on = same_state q t on
makes_loses lane q (round.Cancel number) t same on = λ p. ap (λ (z : SequencerSeen). lost_by z p) on.4 ∙ told_loses (on.0).view.sequencing.places (on.1).place (on.1).opening p ∙ on.2.4 p
makes_loses lane q round.Reset t same on = λ p. ap (λ (z : SequencerSeen). lost_by z p) on
makes_loses lane q (round.Cache (Ok words)) t same on = same_state q t on.0
makes_loses lane q (round.Cache (Err refusal)) t same on = same_state q t on.0
makes_loses lane q (round.Count count) t same on = on.0.4
makes_loses lane q (round.Hold count) t same on = on.0.4

-- ---- and what a round does beside it

-- what comes before a call, and what comes after it, loses nothing
record Around (q m n t : SequencerSeen) : Type 0 where
  pub before : LosesNothing q m
  pub after : LosesNothing n t
  pub shape : m.view.shape ≡ q.view.shape
  pub shape_on : n.view.shape ≡ m.view.shape
  pub policy : m.policy ≡ q.policy
  pub up : next q ≤ next m
  pub up_on : next m ≤ next n
  pub up_last : next n ≤ next t

around_nothing : (q m n t : SequencerSeen) → Around q m n t → LosesNothing m n → LosesNothing q t
around_nothing q m n t a one p = a.after p ∙ (one p ∙ a.before p)

around_accepted : (q m n t : SequencerSeen) → Around q m n t → LosesBy m.policy m n → LosesBy q.policy q t
around_accepted q m n t a one =
    let called = subst (λ (z : Policy). LosesBy z m n) a.policy one in
    let first = loses_then q.policy q m n a.shape a.up a.up_on (none_by q.policy q m a.before) called in
    loses_then q.policy q n t (a.shape_on ∙ a.shape) (let low = a.up in let on = a.up_on in omega (arith, low, on)) a.up_last first (none_by q.policy n t a.after)

around_open : (q m n t : SequencerSeen) → Around q m n t → OpensOne m n → OpensOne q t
around_open q m n t a one = (one.0, a.after one.0 ∙ one.1, λ p ne. a.after p ∙ (one.2 p ne ∙ a.before p))

around : (r : Round) (q m n t : SequencerSeen) → Around q m n t → Loses r m n → Loses r q t
around (round.Try e (Ok (tried.Accepted k))) q m n t a one = around_accepted q m n t a one
around (round.Try e (Ok tried.Dropped)) q m n t a one = around_nothing q m n t a one
around (round.Try e (Ok tried.Full)) q m n t a one = around_nothing q m n t a one
around (round.Try e (Err refusal)) q m n t a one = around_nothing q m n t a one
around (round.TryAll emitter words (Ok k)) q m n t a one = around_accepted q m n t a one
around (round.TryAll emitter words (Err refusal)) q m n t a one = around_nothing q m n t a one
around (round.Start e (Ok (begun.Accepted k))) q m n t a one = around_accepted q m n t a one
around (round.Start e (Ok begun.Dropped)) q m n t a one = around_nothing q m n t a one
around (round.Start e (Ok (begun.Waiting ticket))) q m n t a one = around_nothing q m n t a one
around (round.Start e (Err refusal)) q m n t a one = around_nothing q m n t a one
around (round.Poll ticket answer) q m n t a one = around_nothing q m n t a one
around (round.StrayPoll ticket emitter last k) q m n t a one = around_nothing q m n t a one
around (round.Withdraw ticket answer) q m n t a one = around_nothing q m n t a one
around (round.StrayWithdraw ticket emitter last k) q m n t a one = around_nothing q m n t a one
around (round.Subscribe (Ok number)) q m n t a one = around_open q m n t a one
around (round.Subscribe (Err refusal)) q m n t a one = around_nothing q m n t a one
around (round.Next number) q m n t a one = around_nothing q m n t a one
around (round.Pending number) q m n t a one = around_nothing q m n t a one
around (round.Cancel number) q m n t a one = around_nothing q m n t a one
around round.Reset q m n t a one = around_nothing q m n t a one
around (round.Cache answer) q m n t a one = around_nothing q m n t a one
around (round.Count count) q m n t a one = around_nothing q m n t a one
around (round.Hold count) q m n t a one = around_nothing q m n t a one

rests_lose : (q t : SequencerSeen) → Finishes q t → LosesNothing q t
rests_lose q t rests p = rests.2.4 p ∙ ⊎_elim (λ is. ap (λ (z : SequencerSeen). lost_by z p) is) (λ (scan : Scanned q rests.0). ap (λ (z : SequencerSeen). lost_by z p) scan.5 ∙ scan.3.none_lost p) rests.1

pub only_acceptances_lose : OnlyAcceptancesLose
only_acceptances_lose s t r does =
    let scan = does.2 in
    let q : SequencerSeen = s.sequencer in
    let m : SequencerSeen = scan.0 in
    let n : SequencerSeen = scan.5.0 in
    let rests = scan.5.2 in
    let shape : n.view.shape ≡ m.view.shape = sym (rests_shape n t.sequencer rests) ∙ does.1.1 ∙ sym scan.2.1 in
    around r q m n t.sequencer (record {
      before = scan.3.none_lost;
      after = rests_lose n t.sequencer rests;
      shape = scan.2.1;
      shape_on = shape;
      policy = scan.2.2;
      up = settled_next scan.1 q m scan.2 scan.3;
      up_on = (makes_next s.name.lane m r n shape scan.5.1).0;
      up_last = rests_next n t.sequencer rests;
    }) (makes_loses s.name.lane m r n shape scan.5.1)
