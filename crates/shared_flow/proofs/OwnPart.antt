-- What an emitter emitted is its part of each list of rounds in which nobody else emits by its id.
use Rattle.std.proofs.Common.{◌≡◌, ◌⊎◌, ⊎_elim, ◌==◌, ℕ, Bool, true, false, cond, List, [], ◌∷◌, ◌++◌, map, take, Option, None, Ok, Err, refl, sym, ap, subst, ◌∙◌, append_assoc, eq-eqb}
use Rattle.std.proofs.lemmas.List.{append-nil}
use Rattle.std.specs.List.{AllByRecursion, fold}
use Rattle.flow_terms.specs.declared.answers.Tried.TheVariants as tried
use Rattle.flow_terms.specs.declared.answers.Begun.TheVariants as begun
use Rattle.flow_terms.specs.declared.answers.Emit.TheVariants as emit
use Rattle.flow_terms.specs.declared.answers.Emit.{Emit}
use Rattle.flow_terms.specs.declared.answers.Withdrawn.{Withdrawn}
use Rattle.flow_terms.specs.declared.answers.Withdrawn.TheVariants as given_up
use Rattle.flow_terms.specs.declared.ids.Ticket.{Ticket}
use Rattle.round_lock.specs.History.{own_of}
use Rattle.shared_lane.specs.Blocks.{entries}
use Rattle.shared_rounds.specs.declared.round.Round.{Round}
use Rattle.shared_rounds.specs.declared.round.Round.TheVariants as round
use Rattle.shared_rounds.specs.Reach.{Rounds}
use Rattle.shared_rounds.specs.Rounds.{entry, poll_round, withdraw_round}
use Rattle.shared_flow.specs.Queue.{one_by, words_by, taken_up, emitted as emitted_by}
use Rattle.shared_flow.specs.Parties.{Emitting}
use Rattle.shared_flow.specs.Emitted.{Outcome, Emissions, accepted, accepted_in_block, dropped, full, refused, in_flight, withdrawn, settled, after_round, emitted, was_taken_up, taken_up_words, IsOf, IsOwn, AreItsPart}

-- ---- what the flow took up

pick : (b : Bool) (w : ℕ) (xs ys : List ℕ) → cond b (w ∷ xs) xs ++ ys ≡ cond b (w ∷ (xs ++ ys)) (xs ++ ys)
pick true w xs ys = refl
pick false w xs ys = refl

taken_up-append : (xs ys : Emissions) → taken_up_words (xs ++ ys) ≡ taken_up_words xs ++ taken_up_words ys
taken_up-append [] ys = refl
taken_up-append (x ∷ xs) ys =
    ap (λ (l : List ℕ). cond (was_taken_up x.1) (x.0 ∷ l) l) (taken_up-append xs ys) ∙ sym (pick (was_taken_up x.1) x.0 (taken_up_words xs) (taken_up_words ys))

-- one that was in flight stays one that was taken up
settled_one : (outcome : Outcome) → was_taken_up outcome ≡ true → (x : ℕ × Outcome) → taken_up_words (settled outcome (x ∷ [])) ≡ taken_up_words (x ∷ [])
settled_one outcome is (word, accepted n) = refl
settled_one outcome is (word, accepted_in_block) = refl
settled_one outcome is (word, dropped) = refl
settled_one outcome is (word, full) = refl
settled_one outcome is (word, refused refusal) = refl
settled_one outcome is (word, in_flight) = ap (λ (b : Bool). cond b (word ∷ []) []) is
settled_one outcome is (word, withdrawn) = refl

settled_taken : (outcome : Outcome) → was_taken_up outcome ≡ true → (xs : Emissions) → taken_up_words (settled outcome xs) ≡ taken_up_words xs
settled_taken outcome is [] = refl
settled_taken outcome is (x ∷ []) = settled_one outcome is x
settled_taken outcome is (x ∷ y ∷ more) = ap (λ (l : List ℕ). cond (was_taken_up x.1) (x.0 ∷ l) l) (settled_taken outcome is (y ∷ more))

-- the words of a block that were accepted
of_block : (words : List ℕ) → taken_up_words (map (λ (word : ℕ). (word, accepted_in_block)) words) ≡ words
of_block [] = refl
of_block (word ∷ words) = ap (λ (l : List ℕ). word ∷ l) (of_block words)

by_itself : (id : ℕ) (words : List ℕ) → words_by id (entries id words) ≡ words
by_itself id [] = refl
by_itself id (word ∷ words) = ap (λ (b : Bool). cond b (word ∷ []) [] ++ words_by id (entries id words)) (eq-eqb id id refl) ∙ ap (λ (l : List ℕ). word ∷ l) (by_itself id words)

one_word : (id emitter word : ℕ) → emitter ≡ id → word ∷ [] ≡ one_by id (emitter, word)
one_word id emitter word own = sym (ap (λ (b : Bool). cond b (word ∷ []) []) (eq-eqb emitter id own))

-- ---- by each round

-- one more emission
more_of : (xs : Emissions) (word : ℕ) (outcome : Outcome) (words : List ℕ) → taken_up_words ((word, outcome) ∷ []) ≡ words → taken_up_words (xs ++ (word, outcome) ∷ []) ≡ taken_up_words xs ++ words
more_of xs word outcome words is = taken_up-append xs ((word, outcome) ∷ []) ∙ ap (λ (l : List ℕ). taken_up_words xs ++ l) is

none_of : (xs ys : Emissions) → taken_up_words ys ≡ taken_up_words xs → taken_up_words ys ≡ taken_up_words xs ++ []
none_of xs ys is = is ∙ sym (append-nil (taken_up_words xs))

one_round : (id : ℕ) (xs : Emissions) (r : Round) → IsOwn id r → taken_up_words (after_round xs r) ≡ taken_up_words xs ++ taken_up id r
one_round id xs (round.Try e (Ok (tried.Accepted n))) own = more_of xs e.word (accepted n) (one_by id (entry e)) (one_word id e.emitter e.word own)
one_round id xs (round.Try e (Ok tried.Dropped)) own = more_of xs e.word dropped [] refl
one_round id xs (round.Try e (Ok tried.Full)) own = more_of xs e.word full [] refl
one_round id xs (round.Try e (Err refusal)) own = more_of xs e.word (refused refusal) [] refl
one_round id xs (round.TryAll emitter words (Ok n)) own =
    taken_up-append xs (map (λ (word : ℕ). (word, accepted_in_block)) (take n words))
    ∙ ap (λ (l : List ℕ). taken_up_words xs ++ l) (of_block (take n words) ∙ sym (by_itself id (take n words)) ∙ ap (λ (m : ℕ). words_by id (entries m (take n words))) (sym own))
one_round id xs (round.TryAll emitter [] (Err refusal)) own = taken_up-append xs []
one_round id xs (round.TryAll emitter (word ∷ words) (Err refusal)) own = more_of xs word (refused refusal) [] refl
one_round id xs (round.Start e (Ok (begun.Accepted n))) own = more_of xs e.word (accepted n) (one_by id (entry e)) (one_word id e.emitter e.word own)
one_round id xs (round.Start e (Ok begun.Dropped)) own = more_of xs e.word dropped [] refl
one_round id xs (round.Start e (Ok (begun.Waiting ticket))) own = more_of xs e.word in_flight (one_by id (entry e)) (one_word id e.emitter e.word own)
one_round id xs (round.Start e (Err refusal)) own = more_of xs e.word (refused refusal) [] refl
one_round id xs (round.Poll ticket (emit.Done n)) own = none_of xs (settled (accepted n) xs) (settled_taken (accepted n) refl xs)
one_round id xs (round.Poll ticket emit.Waiting) own = none_of xs xs refl
one_round id xs (round.Poll ticket emit.Gone) own = none_of xs xs refl
one_round id xs (round.StrayPoll ticket emitter last number) own = none_of xs xs refl
one_round id xs (round.Withdraw ticket (given_up.Left n)) own = none_of xs (settled (accepted n) xs) (settled_taken (accepted n) refl xs)
one_round id xs (round.Withdraw ticket given_up.Removed) own = none_of xs (settled withdrawn xs) (settled_taken withdrawn refl xs)
one_round id xs (round.Withdraw ticket given_up.Gone) own = none_of xs xs refl
one_round id xs (round.StrayWithdraw ticket emitter last number) own = none_of xs xs refl
one_round id xs (round.Subscribe answer) own = none_of xs xs refl
one_round id xs (round.Next number) own = none_of xs xs refl
one_round id xs (round.Pending number) own = none_of xs xs refl
one_round id xs (round.Cancel number) own = none_of xs xs refl
one_round id xs round.Reset own = none_of xs xs refl
one_round id xs (round.Cache answer) own = none_of xs xs refl
one_round id xs (round.Count count) own = none_of xs xs refl
one_round id xs (round.Hold count) own = none_of xs xs refl

-- the words that an emitter emitted by these rounds
abbrev words_of : ℕ → List Round → List ℕ
words_of id [] = []
words_of id (r ∷ rounds) = taken_up id r ++ words_of id rounds

from_these : (id : ℕ) (xs : Emissions) (rounds : List Round) → AllByRecursion (IsOwn id) rounds → taken_up_words (fold after_round xs rounds) ≡ taken_up_words xs ++ words_of id rounds
from_these id xs [] own = sym (append-nil (taken_up_words xs))
from_these id xs (r ∷ rounds) own =
    from_these id (after_round xs r) rounds own.1 ∙ ap (λ (l : List ℕ). l ++ words_of id rounds) (one_round id xs r own.0)
    ∙ append_assoc (taken_up_words xs) (taken_up id r) (words_of id rounds)

-- ---- of a list of rounds

without_own : (id : ℕ) (r : Round) (rest : List Round) (b : Bool) → taken_up id r ≡ [] → words_of id (cond b (r ∷ rest) rest) ≡ words_of id rest
without_own id r rest true nothing = ap (λ (l : List ℕ). l ++ words_of id rest) nothing
without_own id r rest false nothing = refl

by_its_own : (pass id : ℕ) (log : Rounds) → AllByRecursion (IsOf pass id) log → emitted_by id log ≡ words_of id (own_of pass log)
by_its_own pass id [] are = refl
by_its_own pass id (t ∷ log) are = ⊎_elim
    (λ (same : t.0 ≡ pass). ap (λ (l : List ℕ). taken_up id t.1 ++ l) (by_its_own pass id log are.1)
    ∙ sym (ap (λ b. words_of id (cond b (t.1 ∷ own_of pass log) (own_of pass log))) (eq-eqb t.0 pass same)))
    (λ (nothing : taken_up id t.1 ≡ []). ap (λ (l : List ℕ). l ++ emitted_by id log) nothing ∙ by_its_own pass id log are.1
    ∙ sym (without_own id t.1 (own_of pass log) (t.0 == pass) nothing))
    are.0

pub are_its_part : (e : Emitting) → AllByRecursion (IsOwn e.id) e.party.rounds → AreItsPart e
are_its_part e own log part are =
    by_its_own e.party.pass e.id log are ∙ ap (words_of e.id) (sym part) ∙ sym (from_these e.id [] e.party.rounds own)

-- one more round of its own
pub own_more : (id : ℕ) (rounds : List Round) (r : Round) → AllByRecursion (IsOwn id) rounds → IsOwn id r → AllByRecursion (IsOwn id) (rounds ++ r ∷ [])
own_more id [] r own this = (this, tt)
own_more id (x ∷ rounds) r own this = (own.0, own_more id rounds r own.1 this)

pub own_grown : (id : ℕ) (before after : List Round) (r : Round) → after ≡ before ++ r ∷ [] → AllByRecursion (IsOwn id) before → IsOwn id r → AllByRecursion (IsOwn id) after
own_grown id before after r grew own this = subst (AllByRecursion (IsOwn id)) (sym grew) (own_more id before r own this)

-- a poll and a withdrawal emit nothing
pub own_poll : (id : ℕ) (ticket : Ticket) (emitter : ℕ) (last : Option ℕ) (answer : Emit) → IsOwn id (poll_round ticket emitter last answer None)
own_poll id ticket emitter last (emit.Done n) = tt
own_poll id ticket emitter last emit.Waiting = tt
own_poll id ticket emitter last emit.Gone = tt

pub own_asked : (id : ℕ) (ticket : Ticket) (answer : Emit) → IsOwn id (round.Poll ticket answer)
own_asked id ticket answer = tt

pub own_withdraw : (id : ℕ) (ticket : Ticket) (emitter : ℕ) (last : Option ℕ) (answer : Withdrawn ℕ) → IsOwn id (withdraw_round ticket emitter last answer None)
own_withdraw id ticket emitter last (given_up.Left n) = tt
own_withdraw id ticket emitter last given_up.Removed = tt
own_withdraw id ticket emitter last given_up.Gone = tt
