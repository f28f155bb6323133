-- What an emitter emitted, after each of its calls.
use Rattle.std.proofs.Common.{◌≡◌, ◌⊎◌, ⊎_elim, ℕ, ◌+◌, Bool, cond, List, [], ◌∷◌, ◌++◌, length, map, take, Option, Some, None, Result, Ok, Err, refl, sym, ap, subst, ◌∙◌, arith, append_assoc}
use Rattle.std.specs.List.{count_by}
use Rattle.std.proofs.lemmas.List.{append-nil, length-take-le, map-append}
use Rattle.std.proofs.lemmas.List.Elements.{All-append, All-cons, All-nil}
use Rattle.std.proofs.lemmas.List.Sums.{fold-append, sum_by-append}
use Rattle.futures.specs.declared.task.Poll.{Poll}
use Rattle.flow_terms.specs.declared.refusal.Refusal.{Refusal}
use Rattle.flow_terms.specs.declared.refusal.Refusal.TheVariants.{NoMemory}
use Rattle.flow_terms.specs.declared.answers.Tried.{Tried}
use Rattle.flow_terms.specs.declared.answers.Tried.TheVariants as tried
use Rattle.flow_terms.specs.declared.answers.Begun.{Begun}
use Rattle.flow_terms.specs.declared.answers.Begun.TheVariants as begun
use Rattle.flow_terms.specs.declared.answers.Emit.{Emit}
use Rattle.flow_terms.specs.declared.answers.Emit.TheVariants as emit
use Rattle.flow_terms.specs.declared.answers.Withdrawn.{Withdrawn}
use Rattle.flow_terms.specs.declared.answers.Withdrawn.TheVariants as given_up
use Rattle.flow_terms.specs.declared.ids.Ticket.{Ticket}
use Rattle.shared_lane.specs.Views.{ReceiptSeen, SequencerSeen}
use Rattle.shared_lane.specs.Sequencers.{RefusedStart}
use Rattle.shared_rounds.specs.declared.round.Emission.{Emission}
use Rattle.shared_rounds.specs.declared.round.Round.{Round}
use Rattle.shared_rounds.specs.declared.round.Round.TheVariants as round
use Rattle.shared_rounds.specs.Entering.{Made}
use Rattle.shared_rounds.specs.Reach.{Party}
use Rattle.shared_rounds.specs.Rounds.{numbers_tried, numbers_begun, poll_round, withdraw_round}
use Rattle.shared_rounds.specs.Tries.{without_ticket}
use Rattle.shared_flow.specs.declared.emitter.blocks.CutShort.{CutShort}
use Rattle.shared_flow.specs.Blocks.{TriedAll, EmitsOn, none_yet, tried_more, one_more, one_dropped, IsCutShort, IsRefused}
use Rattle.shared_flow.specs.Emitters as emitters
use Rattle.shared_flow.specs.Emitters.{Emits, EndsAs, WasStarted, Waits, WasFinished, WasLeft, WasWithdrawn, begun_with, emission_by, not_yet, once_more}
use Rattle.shared_flow.specs.Parties.{Emitting, without_receipt}
use Rattle.shared_flow.specs.Emitted.{Outcome, Emissions, accepted, accepted_in_block, dropped, refused, in_flight, withdrawn}
use Rattle.shared_flow.specs.Emitted.{outcome_of_try, outcome_of_start, outcome_of_emit, outcomes_of_block, settled, after_cancel, tried_as, begun_as, after_round, emitted_in, emitted, WasEmitted, was_accepted, AreEmitted, GrewBy, GrewUpTo}
use Rattle.shared_flow.proofs.Emits.{tried_few}

-- one round more
pub after_one : (before after : List Round) (r : Round) → after ≡ before ++ r ∷ [] → emitted_in after ≡ after_round (emitted_in before) r
after_one before after r grew = ap emitted_in grew ∙ fold-append after_round [] before (r ∷ [])

after_made : (e f : Emitting) (r : Round) → f.party.rounds ≡ e.party.rounds ++ r ∷ [] → emitted f ≡ after_round (emitted e) r
after_made e f r grew = after_one e.party.rounds f.party.rounds r grew

-- the last one is settled
pub settled_last : (xs : Emissions) (word : ℕ) (outcome : Outcome) → settled outcome (xs ++ (word, in_flight) ∷ []) ≡ xs ++ (word, outcome) ∷ []
settled_last [] word outcome = refl
settled_last (x ∷ []) word outcome = refl
settled_last (x ∷ y ∷ xs) word outcome = ap (λ (l : Emissions). x ∷ l) (settled_last (y ∷ xs) word outcome)

-- the answer of a round tells what its caller was told
tried_same : (answer : Result (Tried ReceiptSeen) Refusal) → tried_as (numbers_tried answer) ≡ outcome_of_try answer
tried_same (Ok (tried.Accepted receipt)) = refl
tried_same (Ok tried.Dropped) = refl
tried_same (Ok tried.Full) = refl
tried_same (Err refusal) = refl

begun_same : (answer : Result (Begun ReceiptSeen Ticket) Refusal) → begun_as (numbers_begun answer) ≡ outcome_of_start (without_ticket answer)
begun_same (Ok (begun.Accepted receipt)) = refl
begun_same (Ok begun.Dropped) = refl
begun_same (Ok (begun.Waiting ticket)) = refl
begun_same (Err refusal) = refl

-- a poll that has no receipt changes nothing
poll_without : (xs : Emissions) (ticket : Ticket) (id : ℕ) (last : Option ℕ) (answer : Emit) → after_round xs (poll_round ticket id last answer None) ≡ xs
poll_without xs ticket id last (emit.Done n) = refl
poll_without xs ticket id last emit.Waiting = refl
poll_without xs ticket id last emit.Gone = refl

-- a withdrawal that has no receipt, as its caller is told of it
pub withdrawn_without : (xs : Emissions) (ticket : Ticket) (id : ℕ) (last : Option ℕ) (answer : Withdrawn ℕ)
    → after_round xs (withdraw_round ticket id last answer None) ≡ after_cancel (without_receipt answer) xs
withdrawn_without xs ticket id last (given_up.Left n) = refl
withdrawn_without xs ticket id last given_up.Removed = refl
withdrawn_without xs ticket id last given_up.Gone = refl

-- its rounds grew by one
pub grown : (e : Emitting) (before after : List Round) (r s : Round) → before ≡ e.party.rounds → after ≡ before ++ r ∷ [] → r ≡ s → emitted_in after ≡ after_round (emitted e) s
grown e before after r s same grew is = after_one before after r grew ∙ ap (λ (rounds : List Round). after_round (emitted_in rounds) r) same ∙ ap (after_round (emitted e)) is

-- by a try
pub has_tried : (e : Emitting) (before after : List Round) (emission : Emission) (word : ℕ) (numbers : Result (Tried ℕ) Refusal) (answer : Result (Tried ReceiptSeen) Refusal)
    → before ≡ e.party.rounds → after ≡ before ++ round.Try emission numbers ∷ [] → emission.word ≡ word → numbers ≡ numbers_tried answer → emitted_in after ≡ emitted e ++ (word, outcome_of_try answer) ∷ []
has_tried e before after emission word numbers answer same grew worded numbered =
    grown e before after (round.Try emission numbers) (round.Try emission (numbers_tried answer)) same grew (ap (round.Try emission) numbered)
    ∙ ap (λ w. emitted e ++ (w, tried_as (numbers_tried answer)) ∷ []) worded
    ∙ ap (λ o. emitted e ++ (word, o) ∷ []) (tried_same answer)

-- by a start
pub has_begun : (e : Emitting) (before after : List Round) (emission : Emission) (word : ℕ) (numbers : Result (Begun ℕ Ticket) Refusal) (begins : Result (Begun ReceiptSeen Ticket) Refusal)
    (answer : Result (Begun ReceiptSeen (Unit {0})) Refusal) → before ≡ e.party.rounds → after ≡ before ++ round.Start emission numbers ∷ [] → emission.word ≡ word → numbers ≡ numbers_begun begins
    → answer ≡ without_ticket begins → emitted_in after ≡ emitted e ++ (word, outcome_of_start answer) ∷ []
has_begun e before after emission word numbers begins answer same grew worded numbered told =
    grown e before after (round.Start emission numbers) (round.Start emission (numbers_begun begins)) same grew (ap (round.Start emission) numbered)
    ∙ ap (λ w. emitted e ++ (w, begun_as (numbers_begun begins)) ∷ []) worded
    ∙ ap (λ o. emitted e ++ (word, o) ∷ []) (begun_same begins ∙ ap outcome_of_start (sym told))

-- by a poll that has no receipt, and by a withdrawal that has none
pub has_pending : (e : Emitting) (before after : List Round) (r : Round) (ticket : Ticket) (id : ℕ) (last : Option ℕ) (answer : Emit)
    → before ≡ e.party.rounds → after ≡ before ++ r ∷ [] → r ≡ poll_round ticket id last answer None → emitted_in after ≡ emitted e
has_pending e before after r ticket id last answer same grew is =
    grown e before after r (poll_round ticket id last answer None) same grew is ∙ poll_without (emitted e) ticket id last answer

pub has_let_go : (e : Emitting) (before after : List Round) (r : Round) (ticket : Ticket) (id : ℕ) (last : Option ℕ) (answer : Withdrawn ℕ) (told : Withdrawn ReceiptSeen)
    → before ≡ e.party.rounds → after ≡ before ++ r ∷ [] → r ≡ withdraw_round ticket id last answer None → told ≡ without_receipt answer → emitted_in after ≡ after_cancel told (emitted e)
has_let_go e before after r ticket id last answer told same grew is tells =
    grown e before after r (withdraw_round ticket id last answer None) same grew is ∙ withdrawn_without (emitted e) ticket id last answer ∙ ap (λ w. after_cancel w (emitted e)) (sym tells)

-- after a start
pub has_started : (e f : Emitting) (emission : Emission) (answer : Result (Begun ReceiptSeen (Unit {0})) Refusal) → WasStarted e emission answer f → emitted f ≡ emitted e ++ (emission.word, outcome_of_start answer) ∷ []
has_started e f emission answer started =
    after_made e f (round.Start emission (numbers_begun started.0)) (ap (λ (x : Emitting). x.party.rounds) started.2)
    ∙ ap (λ o. emitted e ++ (emission.word, o) ∷ []) (begun_same started.0 ∙ ap outcome_of_start (sym started.1))

-- polls that have no receipt change nothing
pub has_waited : (e f : Emitting) → Waits e f → emitted f ≡ emitted e
has_waited e f waits =
    after_made e f (poll_round waits.0 e.id e.last waits.1 None) (ap (λ (x : Emitting). x.party.rounds) waits.3)
    ∙ poll_without (emitted e) waits.0 e.id e.last waits.1

pub has_waited_on : (e f : Emitting) → emitters.Waited e f → emitted f ≡ emitted e
has_waited_on e f (not_yet e0) = refl
has_waited_on e f (once_more e0 f0 g0 before waits) = has_waited f0 g0 waits ∙ has_waited_on e0 f0 before

-- a poll that has one
pub has_finished : (e f : Emitting) (receipt : ReceiptSeen) → WasFinished e receipt f → emitted f ≡ settled (accepted receipt.number) (emitted e)
has_finished e f receipt done = after_made e f (round.Poll done.0 (emit.Done receipt.number)) (ap (λ (x : Emitting). x.party.rounds) done.2)

-- an emission that was given up, which had been accepted, or had not
pub has_left : (e f : Emitting) (receipt : ReceiptSeen) → WasLeft e receipt f → emitted f ≡ settled (accepted receipt.number) (emitted e)
has_left e f receipt left = after_made e f (round.Withdraw left.0 (given_up.Left receipt.number)) (ap (λ (x : Emitting). x.party.rounds) left.2)

pub has_withdrawn : (e f : Emitting) → WasWithdrawn e f → emitted f ≡ settled withdrawn (emitted e)
has_withdrawn e f gone = after_made e f (round.Withdraw gone.0 given_up.Removed) (ap (λ (x : Emitting). x.party.rounds) gone.2)

-- no start is refused for want of memory
refused_start : (q t : SequencerSeen) (refusal : Refusal) → RefusedStart q refusal t → refused refusal ≡ outcome_of_emit (Err refusal)
refused_start q t NoMemory given = absurd given
refused_start q t refusal given = refl

refused_begun : (begins : Result (Begun ReceiptSeen Ticket) Refusal) (e : Emission) (p q : Party) (refusal : Refusal) → Err refusal ≡ without_ticket begins → Made (round.Start e (numbers_begun begins)) p q
    → refused refusal ≡ outcome_of_emit (Err refusal)
refused_begun (Ok (begun.Accepted receipt)) e p q refusal is made = let no : ⊥ = cc is in absurd no
refused_begun (Ok begun.Dropped) e p q refusal is made = let no : ⊥ = cc is in absurd no
refused_begun (Ok (begun.Waiting ticket)) e p q refusal is made = let no : ⊥ = cc is in absurd no
refused_begun (Err other) e p q refusal is made =
    let same : other ≡ refusal = cc is in
    subst (λ r. refused r ≡ outcome_of_emit (Err r)) same (refused_start made.does.2.0 made.does.2.5.0 other made.does.2.5.1)

-- what an emission that was waited for came to
ended_as : (e f : Emitting) (answer : Result (Option ReceiptSeen) Refusal) → EndsAs e answer f → emitted f ≡ settled (outcome_of_emit answer) (emitted e)
ended_as e f (Ok (Some receipt)) ends = ⊎_elim
    (λ polled. has_finished polled.0 f receipt polled.2 ∙ ap (settled (accepted receipt.number)) (has_waited_on e polled.0 polled.1))
    (has_left e f receipt) ends
ended_as e f (Ok None) ends = absurd ends
ended_as e f (Err refusal) ends = subst (λ r. emitted f ≡ settled (outcome_of_emit (Err r)) (emitted e)) (sym ends.0) (has_withdrawn e f ends.1)

ended_at_once : (e f : Emitting) (emission : Emission) (answer : Result (Option ReceiptSeen) Refusal) → WasStarted e emission (begun_with answer) f → outcome_of_start (begun_with answer) ≡ outcome_of_emit answer
ended_at_once e f emission (Ok (Some receipt)) started = refl
ended_at_once e f emission (Ok None) started = refl
ended_at_once e f emission (Err refusal) started = refused_begun started.0 emission e.party f.party refusal started.1 started.3

pub has_emitted : (e f : Emitting) (emission : Emission) (answer : Result (Option ReceiptSeen) Refusal) → Emits e emission answer f → emitted f ≡ emitted e ++ (emission.word, outcome_of_emit answer) ∷ []
has_emitted e f emission answer emits = ⊎_elim
    (λ started. has_started e f emission (begun_with answer) started ∙ ap (λ o. emitted e ++ (emission.word, o) ∷ []) (ended_at_once e f emission answer started))
    (λ waited. ended_as waited.0 f answer waited.2
    ∙ ap (settled (outcome_of_emit answer)) (has_started e waited.0 emission (Ok (begun.Waiting tt)) waited.1)
    ∙ settled_last (emitted e) emission.word (outcome_of_emit answer)) emits

-- a round that tried a block
pub has_tried_all : (e f : Emitting) (words : List ℕ) (answer : Result ℕ Refusal) → TriedAll e words answer f → emitted f ≡ emitted e ++ outcomes_of_block words answer
has_tried_all e f words answer tries = after_made e f (round.TryAll e.id words answer) (ap (λ (x : Emitting). x.party.rounds) tries.0)

-- words that were emitted, and others after them
count_by-append : {X : Type 0} (p : X → Bool) (xs ys : List X) → count_by p (xs ++ ys) ≡ count_by p xs + count_by p ys
count_by-append p xs ys = sum_by-append (λ x. cond (p x) 1 0) xs ys

are_none : AreEmitted [] 0 []
are_none = record { words_are = refl; each = All-nil (λ (x : ℕ × Outcome). WasEmitted x.1); count = refl }

are_then : (words others : List ℕ) (n k : ℕ) (xs ys : Emissions) → AreEmitted words n xs → AreEmitted others k ys → AreEmitted (words ++ others) (n + k) (xs ++ ys)
are_then words others n k xs ys first more = record {
  words_are = map-append (λ (x : ℕ × Outcome). x.0) xs ys ∙ ap (λ (l : List ℕ). l ++ map (λ (x : ℕ × Outcome). x.0) ys) first.words_are ∙ ap (λ (l : List ℕ). words ++ l) more.words_are;
  each = All-append (λ (x : ℕ × Outcome). WasEmitted x.1) xs ys first.each more.each;
  count = let sum = count_by-append (λ (x : ℕ × Outcome). was_accepted x.1) xs ys in let one = first.count in let two = more.count in omega arith;
}

-- one word
is_one : (word n : ℕ) (outcome : Outcome) → WasEmitted outcome → count_by (λ (x : ℕ × Outcome). was_accepted x.1) ((word, outcome) ∷ []) ≡ n → AreEmitted (word ∷ []) n ((word, outcome) ∷ [])
is_one word n outcome was count = record {
  words_are = refl;
  each = All-cons (λ (x : ℕ × Outcome). WasEmitted x.1) (word, outcome) [] was (All-nil (λ (x : ℕ × Outcome). WasEmitted x.1));
  count = count;
}

-- a block
are_block : (words : List ℕ) → AreEmitted words (length words) (map (λ word. (word, accepted_in_block)) words)
are_block [] = are_none
are_block (word ∷ words) = subst (λ n. AreEmitted (word ∷ words) n (map (λ word. (word, accepted_in_block)) (word ∷ words))) (let sum : 1 + length words ≡ length (word ∷ words) = omega arith in sum)
    (are_then (word ∷ []) words 1 (length words) ((word, accepted_in_block) ∷ []) (map (λ word. (word, accepted_in_block)) words) (is_one word 1 accepted_in_block tt refl) (are_block words))

-- the list grew, and then grew by more
grew_none : (xs : Emissions) → GrewBy xs [] 0 xs
grew_none xs = ([], are_none, sym (append-nil xs))

grew_then : (words others : List ℕ) (n k : ℕ) (xs ys zs more : Emissions) → GrewBy xs words n ys → AreEmitted others k more → zs ≡ ys ++ more → GrewBy xs (words ++ others) (n + k) zs
grew_then words others n k xs ys zs more grew are is =
    (grew.0 ++ more, are_then words others n k grew.0 more grew.1 are, is ∙ ap (λ (l : Emissions). l ++ more) grew.2 ∙ append_assoc xs grew.0 more)

-- words that were emitted, part after part
pub has_on : (e f : Emitting) (words : List ℕ) (n : ℕ) → EmitsOn e words n f → GrewBy (emitted e) words n (emitted f)
has_on e f words n (none_yet e0) = grew_none (emitted e0)
has_on e f words n (tried_more e0 f0 g0 ws more n0 k before tries) =
    let few = tried_few f0 g0 more k tries in
    grew_then ws (take k more) n0 k (emitted e0) (emitted f0) (emitted g0) (map (λ word. (word, accepted_in_block)) (take k more)) (has_on e0 f0 ws n0 before)
    (subst (λ m. AreEmitted (take k more) m (map (λ word. (word, accepted_in_block)) (take k more))) (length-take-le k more few) (are_block (take k more)))
    (has_tried_all f0 g0 more (Ok k) tries)
has_on e f words n (one_more e0 f0 g0 ws word n0 receipt before emits) =
    grew_then ws (word ∷ []) n0 1 (emitted e0) (emitted f0) (emitted g0) ((word, accepted receipt.number) ∷ []) (has_on e0 f0 ws n0 before)
    (is_one word 1 (accepted receipt.number) tt refl) (has_emitted f0 g0 (emission_by f0 word) (Ok (Some receipt)) emits)
has_on e f words n (one_dropped e0 f0 g0 ws word n0 before emits) =
    subst (λ m. GrewBy (emitted e0) (ws ++ word ∷ []) m (emitted g0)) (let sum : n0 + 0 ≡ n0 = omega arith in sum)
    (grew_then ws (word ∷ []) n0 0 (emitted e0) (emitted f0) (emitted g0) ((word, dropped) ∷ []) (has_on e0 f0 ws n0 before)
    (is_one word 0 dropped tt refl) (has_emitted f0 g0 (emission_by f0 word) (Ok None) emits))

-- and cut short
has_refused : (e f : Emitting) (word : ℕ) (later : List ℕ) (refusal : Refusal) → IsRefused e word later refusal f → emitted f ≡ emitted e ++ (word, outcome_of_emit (Err refusal)) ∷ []
has_refused e f word later refusal is = ⊎_elim
    (λ tries. has_tried_all e f (word ∷ later) (Err refusal) tries ∙ ap (λ o. emitted e ++ (word, o) ∷ []) (subst (λ r. refused r ≡ outcome_of_emit (Err r)) (sym tries.1.does.2.5.1.1.0) refl))
    (has_emitted e f (emission_by e word) (Err refusal)) is

pub has_cut : (e f : Emitting) (words : List ℕ) (cut : CutShort) → IsCutShort e words cut f → GrewUpTo (emitted e) words cut (emitted f)
has_cut e f words cut short = record {
  before = short.before;
  word = short.word;
  later = short.later;
  then = emitted short.then;
  words_are = short.words_are;
  stopped_at = short.emitted;
  grew = has_on e short.then short.before cut.accepted short.accepted;
  ended = has_refused short.then f short.word short.later cut.refusal short.refused;
}
