-- A call, and its round, put together from their parts.
use Rattle.std.proofs.Common.{rules, ◌≡◌, ◌≢◌, ◌⊎◌, ⊎_elim, ◌<◌, ◌≤◌, Bool, false, Result, Ok, Err, IfOk, IfErr, IfSome, IfNone, OnOk, OnErr, refl, sym, subst, ◌∙◌, inl, inr, ap, ℕ, Option, Some, None}
use Rattle.std.proofs.lemmas.Option.{same_Some}
use Rattle.flow_terms.specs.declared.answers.Begun.{Begun}
use Rattle.flow_terms.specs.declared.answers.Begun.TheVariants as begun
use Rattle.flow_terms.specs.declared.answers.Emit.{Emit}
use Rattle.flow_terms.specs.declared.answers.Emit.TheVariants as emit
use Rattle.flow_terms.specs.declared.answers.Withdrawn.{Withdrawn}
use Rattle.flow_terms.specs.declared.answers.Withdrawn.TheVariants as withdrawn
use Rattle.flow_terms.specs.declared.ids.Ticket.{Ticket}
use Rattle.flow_terms.specs.declared.refusal.Refusal.{Refusal}
use Rattle.flow_terms.specs.declared.refusal.Refusal.TheVariants.{Spent, SubscribersFull}
use Rattle.shared_lane.specs.declared.reader.Taken.{Taken}
use Rattle.shared_lane.specs.declared.reader.Taken.TheVariants.{Value, Nothing, Overtaken}
use Rattle.shared_lane.specs.Polls.{IsOutFor, IsNotOut, PolledOn, WithdrawnFrom}
use Rattle.shared_lane.specs.Views.{LaneSeen, ReceiptSeen, SequencerSeen}
use Rattle.shared_lane.specs.Sequencers.{IsSameSequencer, OnlyLoaded, AfterScan, next}
use Rattle.shared_lane.specs.Places.{NotAdmitted}
use Rattle.shared_lane.proofs.Sameness.{loaded_twice}
use Rattle.shared_rounds.specs.declared.round.Emission.{Emission}
use Rattle.shared_rounds.specs.declared.round.Round.{Round}
use Rattle.shared_rounds.specs.declared.round.Round.TheVariants as round
use Rattle.shared_rounds.specs.Entering.{IsCalled, Left, LeftAs}
use Rattle.shared_rounds.specs.Names.{SharedSeen}
use Rattle.shared_rounds.specs.Tries.{ticket_of}
use Rattle.shared_rounds.proofs.Numbers.{same_log}
use Rattle.shared_rounds.specs.Reach.{Reach}
use Rattle.shared_rounds.specs.Rounds.{Makes, Scanned, Comes, Does, Frees, FreesAfter, HasFreed, RaisedFor, AcceptsFor, IsStray, IsNotAfter, IsReceiptAfter, look_round, number_done, number_left, poll_round, withdraw_round}
use Rattle.shared_rounds.specs.Sleeping.{Parks, NobodySleeps, OnlyThese}
use Rattle.shared_rounds.specs.Waking.{Helps, FallsAsleep, SleepOn, IsTied, IsUnfinished, WakesEmissions, ended_by}

module _ {A E : Type 0} where
  pub if_ok : (result : Result A E) (P Q : A → Type 0) → ((a : A) → P a → Q a) → IfOk result P → IfOk result Q
  if_ok (Ok a) P Q goes p = goes a p
  if_ok (Err e) P Q goes p = p

  pub if_err : (result : Result A E) (P Q : E → Type 0) → ((e : E) → P e → Q e) → IfErr result P → IfErr result Q
  if_err (Ok a) P Q goes p = p
  if_err (Err e) P Q goes p = goes e p

module _ {A E : Type 0} where
  pub on_ok : (result : Result A E) (P : Type 0) → P → OnOk result P
  on_ok (Ok a) P p = p
  on_ok (Err e) P p = tt

  pub on_err : (result : Result A E) (P : Type 0) → P → OnErr result P
  on_err (Ok a) P p = tt
  on_err (Err e) P p = p

pub same_through : (q m t : SequencerSeen) → IsSameSequencer q m → IsSameSequencer m t → IsSameSequencer q t
same_through q m t a b = (b.0 ∙ a.0, b.1 ∙ a.1, b.2 ∙ a.2, b.3 ∙ a.3, b.4 ∙ a.4, b.5 ∙ a.5)

-- a call that was made after what waited was accepted
pub comes : (s t : SharedSeen) (r : Round) → t.name ≡ s.name → IsSameSequencer s.sequencer t.sequencer → AfterScan s.sequencer (λ x. Makes s.name.lane x r t.sequencer) → Frees r t.sequencer t → Comes s r t
comes s t r named same made frees = (named, same, (made.0, made.1, made.2, made.3, made.4, (t.sequencer, made.5, (t.sequencer, inl refl, (refl, refl, refl, λ _. refl, λ _. refl)), frees)))

-- the same, where what waits may have been accept once more
pub comes_again : (s m t : SharedSeen) (r : Round) → m.name ≡ s.name → IsSameSequencer s.sequencer m.sequencer → AfterScan s.sequencer (λ x. Makes s.name.lane x r m.sequencer)
    → t.name ≡ m.name → IsSameSequencer m.sequencer t.sequencer → (t.sequencer ≡ m.sequencer) ⊎ Scanned m.sequencer t.sequencer → Frees r m.sequencer t → Comes s r t
comes_again s m t r named same made still kept again frees = (
  still ∙ named,
  same_through s.sequencer m.sequencer t.sequencer same kept,
  (made.0, made.1, made.2, made.3, made.4, (m.sequencer, made.5, (t.sequencer, again, (refl, refl, refl, λ _. refl, λ _. refl)), frees)),
)

-- looks at the cursors after what was accept once more
frees_on : (r : Round) (q : SequencerSeen) (m t : SharedSeen) → Frees r q m → OnlyLoaded m.sequencer t.sequencer → t.raised ≡ m.raised → Frees r q t
frees_on (round.Cancel number) q m t frees only raised = (frees.0, frees.1, loaded_twice frees.0 m.sequencer t.sequencer frees.2 only)
frees_on (round.Start e (Ok (begun.Waiting ticket))) q m t frees only raised = (frees.0, frees.1, loaded_twice frees.0 m.sequencer t.sequencer frees.2 only, raised ∙ frees.3)
frees_on _ q m t frees only raised = tt

-- where an emission has to wait the flag was raised, and then what waits was accepted once more
pub watched_frees : (e : Emission) (b : Result (Begun ℕ Ticket) Refusal) (q : SequencerSeen) (t : SharedSeen) → AcceptsFor (ticket_of b) q t.sequencer → RaisedFor (ticket_of b) q t.raised → Frees (round.Start e b) q t
watched_frees e (Ok (begun.Waiting ticket)) q t watched raised = (t.sequencer, watched, (refl, refl, refl, λ _. refl, λ _. refl), raised)
watched_frees e (Ok (begun.Accepted n)) q t watched raised = tt
watched_frees e (Ok begun.Dropped) q t watched raised = tt
watched_frees e (Err refusal) q t watched raised = tt

pub watched_rests : (b : Result (Begun ℕ Ticket) Refusal) (q t : SequencerSeen) → AcceptsFor (ticket_of b) q t → (t ≡ q) ⊎ Scanned q t
watched_rests (Ok (begun.Waiting ticket)) q t watched = inr watched
watched_rests (Ok (begun.Accepted n)) q t watched = inl watched
watched_rests (Ok begun.Dropped) q t watched = inl watched
watched_rests (Err refusal) q t watched = inl watched

-- neither a poll nor a withdrawal accepts what waits once more
pub polled_frees : (ticket : Ticket) (id : ℕ) (last : Option ℕ) (answer : Emit) (receipt : Option ReceiptSeen) (q : SequencerSeen) (t : SharedSeen) → Frees (poll_round ticket id last answer receipt) q t
polled_frees ticket id last (emit.Done n) (Some r) q t = tt
polled_frees ticket id last (emit.Done n) None q t = tt
polled_frees ticket id last emit.Waiting receipt q t = tt
polled_frees ticket id last emit.Gone receipt q t = tt

pub withdrawn_frees : (ticket : Ticket) (id : ℕ) (last : Option ℕ) (answer : Withdrawn ℕ) (receipt : Option ReceiptSeen) (q : SequencerSeen) (t : SharedSeen) → Frees (withdraw_round ticket id last answer receipt) q t
withdrawn_frees ticket id last (withdrawn.Left n) (Some r) q t = tt
withdrawn_frees ticket id last (withdrawn.Left n) None q t = tt
withdrawn_frees ticket id last withdrawn.Removed receipt q t = tt
withdrawn_frees ticket id last withdrawn.Gone receipt q t = tt

-- who has made a call helps others, and may look at the cursors for that: then it is a round
pub does_on : (s x t : SharedSeen) (r : Round) → Comes s r x → FallsAsleep s r x → Helps (next s.sequencer) (ended_by r) x t → Does s r t
does_on s x t r came lies helps =
    let made = came.2 in
    let rests = made.5.2 in (
      helps.named ∙ came.0,
      same_through s.sequencer x.sequencer t.sequencer came.1 helps.same,
      (made.0, made.1, made.2, made.3, made.4, (made.5.0, made.5.1, (rests.0, rests.1, loaded_twice rests.0 x.sequencer t.sequencer rests.2 helps.only), frees_on r made.5.0 x t made.5.3 helps.only helps.raised)),
      record { called = x; asleep = lies; helps = helps },
    )

-- the flag stays tied where nothing but views of the cursors changed
pub still_tied : (a b : SharedSeen) → IsTied a → OnlyLoaded a.sequencer b.sequencer → b.flag ≡ a.flag → IsTied b
still_tied a b tied only flag = λ unfinished. flag ∙ tied (subst IsUnfinished only.0 unfinished)

-- the subscriptions were woken, and then the emissions
pub helped_on : (before : ℕ) (ended : Option ℕ) (s a b : SharedSeen) → a ≡ record s { subscriptions = a.subscriptions; flag = a.flag } → (before < next s.sequencer → NobodySleeps a.subscriptions)
    → (next s.sequencer ≤ before → OnlyThese (λ n. ended ≢ Some n) s.subscriptions a.subscriptions) → b.name ≡ a.name → IsSameSequencer a.sequencer b.sequencer
    → OnlyLoaded a.sequencer b.sequencer → b.subscriptions ≡ a.subscriptions → WakesEmissions a b → IsTied b → b.raised ≡ a.raised → Helps before ended s b
helped_on before ended s a b is accepted none named same only subs woken tied raised =
    let there : a.sequencer ≡ s.sequencer = ap (λ (z : SharedSeen). z.sequencer) is in
    let loaded = subst (λ (q : SequencerSeen). OnlyLoaded q b.sequencer) there only in
    let number : next b.sequencer ≡ next s.sequencer = same_log s.sequencer b.sequencer loaded.1 loaded.2 in
    record {
      named = named ∙ ap (λ (z : SharedSeen). z.name) is;
      same = subst (λ (q : SequencerSeen). IsSameSequencer q b.sequencer) there same;
      only = loaded;
      subscriptions = record {
        accepted = λ more. subst NobodySleeps (sym subs) (accepted (subst (λ n. before < n) number more));
        none_accepted = λ few. subst (OnlyThese (λ n. ended ≢ Some n) s.subscriptions) (sym subs) (none (subst (λ n. n ≤ before) number few));
      };
      emissions = subst (λ (z : SharedSeen). WakesEmissions z b) is woken;
      tied = tied;
      raised = raised ∙ ap (λ (z : SharedSeen). z.raised) is;
    }

-- why a receipt is missing for a ticket that stood for an accepted emission
stray : (q : SequencerSeen) (ticket emitter : ℕ) (last : Option ℕ) (n : ℕ) (is_own : Bool) → (is_own ≡ false → IsNotOut q ticket ⊎ ((x : ℕ) × (x ≢ emitter) × IsOutFor q ticket x))
    → (is_own ≡ false) ⊎ IsNotAfter last n → IsStray q ticket emitter last n
stray q ticket emitter last n is_own other none = ⊎_elim
    (λ not. ⊎_elim (λ out. inl out) (λ foreign. inr (inl foreign)) (other not))
    (λ few. inr (inr few))
    none

-- a poll of a ticket, with a receipt for an own emission that is finished
pub polled_makes : (lane : LaneSeen) (q t : SequencerSeen) (ticket : Ticket) (emitter : ℕ) (last : Option ℕ) (answer : Emit) (receipt : Option ReceiptSeen) (is_own : Bool) → PolledOn q ticket.0 answer t
    → (is_own ≡ false → IsNotOut q ticket.0 ⊎ ((x : ℕ) × (x ≢ emitter) × IsOutFor q ticket.0 x)) → IfNone receipt (IfSome (number_done answer) (λ n. (is_own ≡ false) ⊎ IsNotAfter last n))
    → Makes lane q (poll_round ticket emitter last answer receipt) t
polled_makes lane q t ticket emitter last (emit.Done n) (Some r) is_own polled other none = polled
polled_makes lane q t ticket emitter last (emit.Done n) None is_own polled other none = (polled, stray q ticket.0 emitter last n is_own other none)
polled_makes lane q t ticket emitter last emit.Waiting receipt is_own polled other none = polled
polled_makes lane q t ticket emitter last emit.Gone receipt is_own polled other none = polled

-- a withdrawal, in the same way
pub withdrawn_makes : (lane : LaneSeen) (q t : SequencerSeen) (ticket : Ticket) (emitter : ℕ) (last : Option ℕ) (answer : Withdrawn ℕ) (receipt : Option ReceiptSeen) (is_own : Bool) → WithdrawnFrom q ticket.0 answer t
    → (is_own ≡ false → IsNotOut q ticket.0 ⊎ ((x : ℕ) × (x ≢ emitter) × IsOutFor q ticket.0 x)) → IfNone receipt (IfSome (number_left answer) (λ n. (is_own ≡ false) ⊎ IsNotAfter last n))
    → Makes lane q (withdraw_round ticket emitter last answer receipt) t
withdrawn_makes lane q t ticket emitter last (withdrawn.Left n) (Some r) is_own gave other none = gave
withdrawn_makes lane q t ticket emitter last (withdrawn.Left n) None is_own gave other none = (gave, stray q ticket.0 emitter last n is_own other none)
withdrawn_makes lane q t ticket emitter last withdrawn.Removed receipt is_own gave other none = gave
withdrawn_makes lane q t ticket emitter last withdrawn.Gone receipt is_own gave other none = gave

-- the receipt of a poll is for the number that it found
pub done_receipt : (lane : LaneSeen) (emitter : ℕ) (last : Option ℕ) (answer : Emit) (receipt : Option ReceiptSeen) → IfSome receipt (λ r. (number_done answer ≡ Some r.number) × IsReceiptAfter lane emitter last r)
    → IfSome receipt (λ r. (answer ≡ emit.Done r.number) × IsReceiptAfter lane emitter last r)
done_receipt lane emitter last answer None it = tt
done_receipt lane emitter last (emit.Done n) (Some r) it = (ap (λ k. emit.Done k) (same_Some _ _ it.0), it.1)
done_receipt lane emitter last emit.Waiting (Some r) it = let no : ⊥ = cc (it.0) in absurd no
done_receipt lane emitter last emit.Gone (Some r) it = let no : ⊥ = cc (it.0) in absurd no

pub left_receipt : (lane : LaneSeen) (emitter : ℕ) (last : Option ℕ) (answer : Withdrawn ℕ) (receipt : Option ReceiptSeen) → IfSome receipt (λ r. (number_left answer ≡ Some r.number) × IsReceiptAfter lane emitter last r)
    → IfSome receipt (λ r. (answer ≡ withdrawn.Left r.number) × IsReceiptAfter lane emitter last r)
left_receipt lane emitter last answer None it = tt
left_receipt lane emitter last (withdrawn.Left n) (Some r) it = (ap (λ k. withdrawn.Left k) (same_Some _ _ it.0), it.1)
left_receipt lane emitter last withdrawn.Removed (Some r) it = let no : ⊥ = cc (it.0) in absurd no
left_receipt lane emitter last withdrawn.Gone (Some r) it = let no : ⊥ = cc (it.0) in absurd no

-- those were helped whom a round helps
pub helped_by : (before : ℕ) (s x t : SharedSeen) (r : Round) (ended : Option ℕ) → before ≡ next s.sequencer → ended ≡ ended_by r → Helps before ended x t → Helps (next s.sequencer) (ended_by r) x t
helped_by before s x t r ended since is helps = subst (λ e. Helps (next s.sequencer) e x t) is (subst (λ n. Helps n ended x t) since helps)

-- a round that was left is the one that was picked
pub as_picked : (picked : Option Round) (x : Round) (called : SharedSeen) (r s : Reach) → picked ≡ Some x → Left x called r s → LeftAs picked called r s
as_picked picked x called r s is left y other = subst (λ (z : Round). Left z called r s) (same_Some x y (sym is ∙ other)) left

-- a look under the lock changes nothing of the sequencer, whatever it finds
pub look_makes : (lane : LaneSeen) (q : SequencerSeen) (number : ℕ) (found : Taken ℕ) → Makes lane q (look_round number found) q
look_makes lane q number (Value word) = refl
look_makes lane q number Nothing = refl
look_makes lane q number Overtaken = refl

pub look_frees : (q : SequencerSeen) (t : SharedSeen) (number : ℕ) (found : Taken ℕ) → Frees (look_round number found) q t
look_frees q t number (Value word) = tt
look_frees q t number Nothing = tt
look_frees q t number Overtaken = tt

-- what waits was accepted before a look and after it, which is asked where that gave a value
pub look_freed : (found : Taken ℕ) (s t : SharedSeen) → HasFreed s t → FreesAfter found s t
look_freed (Value word) s t freed = freed
look_freed Nothing s t freed = tt
look_freed Overtaken s t freed = tt

pub none_freed : (found : Taken ℕ) (s t : SharedSeen) → ((word : ℕ) → found ≡ Value word → ⊥) → FreesAfter found s t
none_freed (Value word) s t none = absurd (none word refl)
none_freed Nothing s t none = tt
none_freed Overtaken s t none = tt

-- a poll of a subscription without a value, where nobody fell asleep
pub none_asleep : (s t : SharedSeen) (number : ℕ) → SleepOn s t → FallsAsleep s (round.Pending number) t
none_asleep s t number same = (subst (Parks number s.subscriptions) (sym same.0) (λ key. inl refl), same.1)

-- a subscription that took nothing fell asleep
pub fell_asleep : (s x t : SharedSeen) (number : ℕ) → Comes s (round.Pending number) x → SleepOn s x → t ≡ record x { subscriptions = t.subscriptions }
    → Parks number x.subscriptions t.subscriptions → Comes s (round.Pending number) t × FallsAsleep s (round.Pending number) t
fell_asleep s x t number came asleep same lies = (
  subst (Comes s (round.Pending number)) (sym same) came,
  (subst (λ l. Parks number l t.subscriptions) asleep.0 lies, ap (λ (z : SharedSeen). z.emissions) same ∙ asleep.1),
)

-- an emission fell asleep that waits, and no other
pub fell_asleep_for : (s x t : SharedSeen) (ticket : Ticket) (id : ℕ) (last : Option ℕ) (answer : Emit) → Comes s (poll_round ticket id last answer None) x → SleepOn s x
    → t ≡ record x { emissions = t.emissions } → (answer ≡ emit.Waiting → Parks ticket.0 x.emissions t.emissions) → (answer ≢ emit.Waiting → t ≡ x)
    → Comes s (poll_round ticket id last answer None) t × FallsAsleep s (poll_round ticket id last answer None) t
fell_asleep_for s x t ticket id last (emit.Done n) came asleep same lies others =
    let is = sym (others (λ e. cc)) in (subst (Comes s (round.StrayPoll ticket id last n)) is came, subst (SleepOn s) is asleep)
fell_asleep_for s x t ticket id last emit.Gone came asleep same lies others =
    let is = sym (others (λ e. cc)) in (subst (Comes s (round.Poll ticket emit.Gone)) is came, subst (SleepOn s) is asleep)
fell_asleep_for s x t ticket id last emit.Waiting came asleep same lies others = (
  subst (Comes s (round.Poll ticket emit.Waiting)) (sym same) came,
  (ap (λ (z : SharedSeen). z.subscriptions) same ∙ asleep.0, subst (λ l. Parks ticket.0 l t.emissions) asleep.1 (lies refl)),
)

-- a withdrawal, where nobody fell asleep
pub withdrawn_asleep : (s t : SharedSeen) (ticket : Ticket) (id : ℕ) (last : Option ℕ) (answer : Withdrawn ℕ) (receipt : Option ReceiptSeen) → SleepOn s t → FallsAsleep s (withdraw_round ticket id last answer receipt) t
withdrawn_asleep s t ticket id last (withdrawn.Left n) (Some r) same = same
withdrawn_asleep s t ticket id last (withdrawn.Left n) None same = same
withdrawn_asleep s t ticket id last withdrawn.Removed r same = same
withdrawn_asleep s t ticket id last withdrawn.Gone r same = same

-- an owner that has the lock has made a call
pub is_called : (q : Reach) (found s called : SharedSeen) (before : ℕ) (r : Round) → q.held ≡ Some found → before ≡ next found.sequencer → s ≡ found
    → Comes s r called → FallsAsleep s r called → IsCalled q before r called
is_called q found s called before r held number same came lies = (
  found,
  held,
  subst (λ (x : SharedSeen). Comes x r called) same came,
  subst (λ (x : SharedSeen). FallsAsleep x r called) same lies,
  number,
)

-- why a reader is not admitted
pub only_refusals : (q : SequencerSeen) (e : Refusal) (t : SequencerSeen) → NotAdmitted q e t → (e ≡ Spent) ⊎ (e ≡ SubscribersFull)
only_refusals q e t not = search rules
