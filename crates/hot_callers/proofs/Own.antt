-- Where one party alone emitted, and all that the flow took up of it was accepted, the accepted words are those that it has as accepted.
use Rattle.std.proofs.Common.{◌≡◌, ◌≢◌, ◌==◌, ℕ, suc, ◌+◌, ◌≤◌, Bool, true, false, cond, Ok, Err, List, [], ◌∷◌, ◌++◌, length, map, take, refl, sym, ap, ◌∙◌, subst, arith, length-append, ne_eqb, eqb-true}
use Rattle.std.proofs.lemmas.List.{append-nil, length-map}
use Rattle.std.specs.List.{fold}
use Rattle.flow_terms.specs.declared.answers.Tried.TheVariants as tried
use Rattle.flow_terms.specs.declared.answers.Begun.TheVariants as begun
use Rattle.flow_terms.specs.declared.answers.Emit.TheVariants as emit
use Rattle.flow_terms.specs.declared.answers.Withdrawn.TheVariants as given_up
use Rattle.round_lock.specs.History.{own_of}
use Rattle.shared_lane.specs.Law.{Entry}
use Rattle.shared_lane.specs.Blocks.{entries}
use Rattle.shared_lane.specs.Caches.{word_of}
use Rattle.shared_lane.specs.Sequencers.{entry_of, seen}
use Rattle.shared_rounds.specs.declared.round.Round.{Round}
use Rattle.shared_rounds.specs.declared.round.Round.TheVariants as round
use Rattle.shared_rounds.specs.Entering.{IsLeftBy}
use Rattle.shared_rounds.specs.Names.{SharedSeen}
use Rattle.shared_rounds.specs.Reach.{Rounds}
use Rattle.shared_flow.specs.Emitted.{AreItsPart, Emissions, Outcome, accepted, accepted_in_block, accepted_words, after_round, dropped, emitted, full, in_flight, refused, settled, taken_up_words, was_accepted, was_taken_up, withdrawn}
use Rattle.shared_flow.specs.Parties.{Emitting}
use Rattle.shared_flow.specs.Queue.{emitted as emitted_by_id, one_by, taken_up, words_by}
use Rattle.shared_flow.proofs.Histories.{one_flow}
use Rattle.hot_callers.proofs.Answered.{answers, answers_of, entries_length, own_answered}
use Rattle.hot_callers.proofs.Speaking.{AreBy, EmitNothing, accepted_within, emitted_by, emitted_more, nothing_of, of_two, words_of}
use Rattle.hot_callers.proofs.Sublists.{Within, alone, of_parts, within_then, within_whole}

-- ---- no more words are accepted than rounds answered

accepted_length : (xs ys : Emissions) → length (accepted_words (xs ++ ys)) ≡ length (accepted_words xs) + length (accepted_words ys)
accepted_length [] ys = omega arith
accepted_length (x ∷ xs) ys = by (was_accepted x.1) (accepted_length xs ys)
  where
    by : (b : Bool) → length (accepted_words (xs ++ ys)) ≡ length (accepted_words xs) + length (accepted_words ys)
        → length (cond b (x.0 ∷ accepted_words (xs ++ ys)) (accepted_words (xs ++ ys))) ≡ length (cond b (x.0 ∷ accepted_words xs) (accepted_words xs)) + length (accepted_words ys)
    by true rest = omega (arith, rest)
    by false rest = rest

-- a list grew by the length of another
longer : (b : Bool) (w k : ℕ) (xs ys : List ℕ) → length ys ≤ length xs + k → length (cond b (w ∷ ys) ys) ≤ length (cond b (w ∷ xs) xs) + k
longer true w k xs ys few = omega (arith, few)
longer false w k xs ys few = few

-- what was in flight ended so, by which no more than k were accepted
settled_few : (k : ℕ) (outcome : Outcome) → ((x : ℕ × Outcome) → length (accepted_words (settled outcome (x ∷ []))) ≤ length (accepted_words (x ∷ [])) + k)
    → (xs : Emissions) → length (accepted_words (settled outcome xs)) ≤ length (accepted_words xs) + k
settled_few k outcome one [] = omega arith
settled_few k outcome one (x ∷ []) = one x
settled_few k outcome one (x ∷ y ∷ more) =
    longer (was_accepted x.1) x.0 k (accepted_words (y ∷ more)) (accepted_words (settled outcome (y ∷ more))) (settled_few k outcome one (y ∷ more))

one_accepted : (n : ℕ) (x : ℕ × Outcome) → length (accepted_words (settled (accepted n) (x ∷ []))) ≤ length (accepted_words (x ∷ [])) + 1
one_accepted n (word, accepted k) = omega arith
one_accepted n (word, accepted_in_block) = omega arith
one_accepted n (word, dropped) = omega arith
one_accepted n (word, full) = omega arith
one_accepted n (word, refused refusal) = omega arith
one_accepted n (word, in_flight) = omega arith
one_accepted n (word, withdrawn) = omega arith

one_withdrawn : (x : ℕ × Outcome) → length (accepted_words (settled withdrawn (x ∷ []))) ≤ length (accepted_words (x ∷ [])) + 0
one_withdrawn (word, accepted k) = omega arith
one_withdrawn (word, accepted_in_block) = omega arith
one_withdrawn (word, dropped) = omega arith
one_withdrawn (word, full) = omega arith
one_withdrawn (word, refused refusal) = omega arith
one_withdrawn (word, in_flight) = omega arith
one_withdrawn (word, withdrawn) = omega arith

-- one more, which was accepted or wasn't
one_few : (k : ℕ) (xs ys : Emissions) → length (accepted_words ys) ≤ k → length (accepted_words (xs ++ ys)) ≤ length (accepted_words xs) + k
one_few k xs ys few = let all = accepted_length xs ys in omega (arith, all, few)

none_few : (xs ys : Emissions) → ys ≡ xs → length (accepted_words ys) ≤ length (accepted_words xs) + 0
none_few xs ys same = let is = ap (λ (l : Emissions). length (accepted_words l)) same in omega (arith, is)

block_few : (words : List ℕ) → length (accepted_words (map (λ (word : ℕ). (word, accepted_in_block)) words)) ≤ length words
block_few [] = omega arith
block_few (word ∷ words) = let rest = block_few words in omega (arith, rest)

round_few : (xs : Emissions) (r : Round) → length (accepted_words (after_round xs r)) ≤ length (accepted_words xs) + answers r
round_few xs (round.Try e (Ok (tried.Accepted n))) = one_few 1 xs ((e.word, accepted n) ∷ []) (omega arith)
round_few xs (round.Try e (Ok tried.Dropped)) = one_few 0 xs ((e.word, dropped) ∷ []) (omega arith)
round_few xs (round.Try e (Ok tried.Full)) = one_few 0 xs ((e.word, full) ∷ []) (omega arith)
round_few xs (round.Try e (Err refusal)) = one_few 0 xs ((e.word, refused refusal) ∷ []) (omega arith)
round_few xs (round.TryAll emitter words (Ok n)) = one_few (length (take n words)) xs (map (λ (word : ℕ). (word, accepted_in_block)) (take n words)) (block_few (take n words))
round_few xs (round.TryAll emitter [] (Err refusal)) = one_few 0 xs [] (omega arith)
round_few xs (round.TryAll emitter (word ∷ words) (Err refusal)) = one_few 0 xs ((word, refused refusal) ∷ []) (omega arith)
round_few xs (round.Start e (Ok (begun.Accepted n))) = one_few 1 xs ((e.word, accepted n) ∷ []) (omega arith)
round_few xs (round.Start e (Ok begun.Dropped)) = one_few 0 xs ((e.word, dropped) ∷ []) (omega arith)
round_few xs (round.Start e (Ok (begun.Waiting ticket))) = one_few 0 xs ((e.word, in_flight) ∷ []) (omega arith)
round_few xs (round.Start e (Err refusal)) = one_few 0 xs ((e.word, refused refusal) ∷ []) (omega arith)
round_few xs (round.Poll ticket (emit.Done n)) = settled_few 1 (accepted n) (one_accepted n) xs
round_few xs (round.Poll ticket emit.Waiting) = none_few xs xs refl
round_few xs (round.Poll ticket emit.Gone) = none_few xs xs refl
round_few xs (round.StrayPoll ticket emitter last number) = none_few xs xs refl
round_few xs (round.Withdraw ticket (given_up.Left n)) = settled_few 1 (accepted n) (one_accepted n) xs
round_few xs (round.Withdraw ticket given_up.Removed) = settled_few 0 withdrawn one_withdrawn xs
round_few xs (round.Withdraw ticket given_up.Gone) = none_few xs xs refl
round_few xs (round.StrayWithdraw ticket emitter last number) = none_few xs xs refl
round_few xs (round.Subscribe answer) = none_few xs xs refl
round_few xs (round.Next number) = none_few xs xs refl
round_few xs (round.Pending number) = none_few xs xs refl
round_few xs (round.Cancel number) = none_few xs xs refl
round_few xs round.Reset = none_few xs xs refl
round_few xs (round.Cache answer) = none_few xs xs refl
round_few xs (round.Count count) = none_few xs xs refl
round_few xs (round.Hold count) = none_few xs xs refl

rounds_few : (xs : Emissions) (rounds : List Round) → length (accepted_words (fold after_round xs rounds)) ≤ length (accepted_words xs) + answers_of rounds
rounds_few xs [] = omega arith
rounds_few xs (r ∷ rounds) =
    let first = round_few xs r in
    let rest = rounds_few (after_round xs r) rounds in omega (arith, first, rest)

-- ---- a party's rounds emit by its id alone, where all that they take up is emitted by it

-- how many words a round took up, by whatever id
abbrev takes : Round → ℕ
takes (round.Try e (Ok (tried.Accepted n))) = 1
takes (round.TryAll emitter words (Ok n)) = length (take n words)
takes (round.Start e (Ok (begun.Accepted n))) = 1
takes (round.Start e (Ok (begun.Waiting ticket))) = 1
takes _ = 0

abbrev takes_of : List Round → ℕ
takes_of [] = 0
takes_of (r ∷ rounds) = takes r + takes_of rounds

taken_length : (xs ys : Emissions) → length (taken_up_words (xs ++ ys)) ≡ length (taken_up_words xs) + length (taken_up_words ys)
taken_length [] ys = omega arith
taken_length (x ∷ xs) ys = by (was_taken_up x.1) (taken_length xs ys)
  where
    by : (b : Bool) → length (taken_up_words (xs ++ ys)) ≡ length (taken_up_words xs) + length (taken_up_words ys)
        → length (cond b (x.0 ∷ taken_up_words (xs ++ ys)) (taken_up_words (xs ++ ys))) ≡ length (cond b (x.0 ∷ taken_up_words xs) (taken_up_words xs)) + length (taken_up_words ys)
    by true rest = omega (arith, rest)
    by false rest = rest

no_shorter : (b : Bool) (w : ℕ) (xs ys : List ℕ) → length xs ≤ length ys → length (cond b (w ∷ xs) xs) ≤ length (cond b (w ∷ ys) ys)
no_shorter true w xs ys few = omega (arith, few)
no_shorter false w xs ys few = few

settled_stays : (outcome : Outcome) → ((x : ℕ × Outcome) → length (taken_up_words (x ∷ [])) ≤ length (taken_up_words (settled outcome (x ∷ []))))
    → (xs : Emissions) → length (taken_up_words xs) + 0 ≤ length (taken_up_words (settled outcome xs))
settled_stays outcome one [] = omega arith
settled_stays outcome one (x ∷ []) = let this = one x in omega (arith, this)
settled_stays outcome one (x ∷ y ∷ more) =
    let rest = settled_stays outcome one (y ∷ more) in
    let all = no_shorter (was_taken_up x.1) x.0 (taken_up_words (y ∷ more)) (taken_up_words (settled outcome (y ∷ more))) (omega (arith, rest)) in omega (arith, all)

accepted_stays : (n : ℕ) (x : ℕ × Outcome) → length (taken_up_words (x ∷ [])) ≤ length (taken_up_words (settled (accepted n) (x ∷ [])))
accepted_stays n (word, accepted k) = omega arith
accepted_stays n (word, accepted_in_block) = omega arith
accepted_stays n (word, dropped) = omega arith
accepted_stays n (word, full) = omega arith
accepted_stays n (word, refused refusal) = omega arith
accepted_stays n (word, in_flight) = omega arith
accepted_stays n (word, withdrawn) = omega arith

withdrawn_stays : (x : ℕ × Outcome) → length (taken_up_words (x ∷ [])) ≤ length (taken_up_words (settled withdrawn (x ∷ [])))
withdrawn_stays (word, accepted k) = omega arith
withdrawn_stays (word, accepted_in_block) = omega arith
withdrawn_stays (word, dropped) = omega arith
withdrawn_stays (word, full) = omega arith
withdrawn_stays (word, refused refusal) = omega arith
withdrawn_stays (word, in_flight) = omega arith
withdrawn_stays (word, withdrawn) = omega arith

more_taken : (k : ℕ) (xs ys : Emissions) → k ≤ length (taken_up_words ys) → length (taken_up_words xs) + k ≤ length (taken_up_words (xs ++ ys))
more_taken k xs ys few = let all = taken_length xs ys in omega (arith, all, few)

none_taken : (xs : Emissions) → length (taken_up_words xs) + 0 ≤ length (taken_up_words xs)
none_taken xs = omega arith

block_taken : (words : List ℕ) → length words ≤ length (taken_up_words (map (λ (word : ℕ). (word, accepted_in_block)) words))
block_taken [] = omega arith
block_taken (word ∷ words) = let rest = block_taken words in omega (arith, rest)

round_taken : (xs : Emissions) (r : Round) → length (taken_up_words xs) + takes r ≤ length (taken_up_words (after_round xs r))
round_taken xs (round.Try e (Ok (tried.Accepted n))) = more_taken 1 xs ((e.word, accepted n) ∷ []) (omega arith)
round_taken xs (round.Try e (Ok tried.Dropped)) = more_taken 0 xs ((e.word, dropped) ∷ []) (omega arith)
round_taken xs (round.Try e (Ok tried.Full)) = more_taken 0 xs ((e.word, full) ∷ []) (omega arith)
round_taken xs (round.Try e (Err refusal)) = more_taken 0 xs ((e.word, refused refusal) ∷ []) (omega arith)
round_taken xs (round.TryAll emitter words (Ok n)) = more_taken (length (take n words)) xs (map (λ (word : ℕ). (word, accepted_in_block)) (take n words)) (block_taken (take n words))
round_taken xs (round.TryAll emitter [] (Err refusal)) = more_taken 0 xs [] (omega arith)
round_taken xs (round.TryAll emitter (word ∷ words) (Err refusal)) = more_taken 0 xs ((word, refused refusal) ∷ []) (omega arith)
round_taken xs (round.Start e (Ok (begun.Accepted n))) = more_taken 1 xs ((e.word, accepted n) ∷ []) (omega arith)
round_taken xs (round.Start e (Ok begun.Dropped)) = more_taken 0 xs ((e.word, dropped) ∷ []) (omega arith)
round_taken xs (round.Start e (Ok (begun.Waiting ticket))) = more_taken 1 xs ((e.word, in_flight) ∷ []) (omega arith)
round_taken xs (round.Start e (Err refusal)) = more_taken 0 xs ((e.word, refused refusal) ∷ []) (omega arith)
round_taken xs (round.Poll ticket (emit.Done n)) = settled_stays (accepted n) (accepted_stays n) xs
round_taken xs (round.Poll ticket emit.Waiting) = none_taken xs
round_taken xs (round.Poll ticket emit.Gone) = none_taken xs
round_taken xs (round.StrayPoll ticket emitter last number) = none_taken xs
round_taken xs (round.Withdraw ticket (given_up.Left n)) = settled_stays (accepted n) (accepted_stays n) xs
round_taken xs (round.Withdraw ticket given_up.Removed) = settled_stays withdrawn withdrawn_stays xs
round_taken xs (round.Withdraw ticket given_up.Gone) = none_taken xs
round_taken xs (round.StrayWithdraw ticket emitter last number) = none_taken xs
round_taken xs (round.Subscribe answer) = none_taken xs
round_taken xs (round.Next number) = none_taken xs
round_taken xs (round.Pending number) = none_taken xs
round_taken xs (round.Cancel number) = none_taken xs
round_taken xs round.Reset = none_taken xs
round_taken xs (round.Cache answer) = none_taken xs
round_taken xs (round.Count count) = none_taken xs
round_taken xs (round.Hold count) = none_taken xs

rounds_taken : (xs : Emissions) (rounds : List Round) → length (taken_up_words xs) + takes_of rounds ≤ length (taken_up_words (fold after_round xs rounds))
rounds_taken xs [] = omega arith
rounds_taken xs (r ∷ rounds) =
    let first = round_taken xs r in
    let rest = rounds_taken (after_round xs r) rounds in omega (arith, first, rest)

-- of one emission
one_word : (id : ℕ) (x : Entry) → length (one_by id x) ≤ 1
one_word id x = by (x.0 == id)
  where
    by : (b : Bool) → length (cond b (x.1 ∷ []) []) ≤ 1
    by true = omega arith
    by false = omega arith

one_other : (id other : ℕ) (x : Entry) → id ≢ other → 1 ≤ length (one_by id x) → one_by other x ≡ []
one_other id other x apart all = by (x.0 == id) refl all
  where
    by : (b : Bool) → (x.0 == id) ≡ b → 1 ≤ length (cond b (x.1 ∷ []) []) → one_by other x ≡ []
    by true is all = ap (λ c. cond c (x.1 ∷ []) []) (ne_eqb x.0 other (λ same. apart (sym (eqb-true x.0 id is) ∙ same)))
    by false is all = let no : ⊥ = omega (arith, all) in absurd no

-- of a block
some_words : (id : ℕ) (xs : List Entry) → length (words_by id xs) ≤ length xs
some_words id [] = omega arith
some_words id (x ∷ xs) =
    let first = one_word id x in
    let rest = some_words id xs in
    let both = length-append (one_by id x) (words_by id xs) in omega (arith, first, rest, both)

no_others : (id other : ℕ) (xs : List Entry) → id ≢ other → length xs ≤ length (words_by id xs) → words_by other xs ≡ []
no_others id other [] apart all = refl
no_others id other (x ∷ xs) apart all =
    let first = one_word id x in
    let rest = some_words id xs in
    let both = length-append (one_by id x) (words_by id xs) in
    let none_first = one_other id other x apart (omega (arith, all, rest, both)) in
    let none_later = no_others id other xs apart (omega (arith, all, first, both)) in
    λ i. none_first i ++ none_later i

round_words : (id : ℕ) (r : Round) → length (taken_up id r) ≤ takes r
round_words id (round.Try e (Ok (tried.Accepted n))) = one_word id (e.emitter, e.word)
round_words id (round.TryAll emitter words (Ok n)) = subst (λ k. length (words_by id (entries emitter (take n words))) ≤ k) (entries_length emitter (take n words)) (some_words id (entries emitter (take n words)))
round_words id (round.Start e (Ok (begun.Accepted n))) = one_word id (e.emitter, e.word)
round_words id (round.Start e (Ok (begun.Waiting ticket))) = one_word id (e.emitter, e.word)
round_words id _ = omega arith

round_others : (id other : ℕ) (r : Round) → id ≢ other → takes r ≤ length (taken_up id r) → taken_up other r ≡ []
round_others id other (round.Try e (Ok (tried.Accepted n))) apart all = one_other id other (e.emitter, e.word) apart all
round_others id other (round.TryAll emitter words (Ok n)) apart all =
    no_others id other (entries emitter (take n words)) apart (subst (λ k. k ≤ length (words_by id (entries emitter (take n words)))) (sym (entries_length emitter (take n words))) all)
round_others id other (round.Start e (Ok (begun.Accepted n))) apart all = one_other id other (e.emitter, e.word) apart all
round_others id other (round.Start e (Ok (begun.Waiting ticket))) apart all = one_other id other (e.emitter, e.word) apart all
round_others id other _ apart all = refl

rounds_words : (id : ℕ) (rounds : List Round) → length (words_of id rounds) ≤ takes_of rounds
rounds_words id [] = omega arith
rounds_words id (r ∷ rounds) =
    let first = round_words id r in
    let rest = rounds_words id rounds in
    let both = length-append (taken_up id r) (words_of id rounds) in omega (arith, first, rest, both)

rounds_others : (id other : ℕ) (rounds : List Round) → id ≢ other → takes_of rounds ≤ length (words_of id rounds) → EmitNothing other rounds
rounds_others id other [] apart all = tt
rounds_others id other (r ∷ rounds) apart all =
    let first = round_words id r in
    let rest = rounds_words id rounds in
    let both = length-append (taken_up id r) (words_of id rounds) in
    (round_others id other r apart (omega (arith, all, rest, both)), rounds_others id other rounds apart (omega (arith, all, first, both)))

-- ---- what was accepted

-- The list has left the flow as it is now, by a last round that kept the lock; an emitter's rounds are its part of what comes before that, and
-- all that the flow took up of it was accepted; and nobody else emitted. Then the accepted words are those.
pub accepted_are_own : (e : Emitting) (made now : SharedSeen) (log : Rounds) (owner count : ℕ) → AreItsPart e → e.party.rounds ≡ own_of e.party.pass log
    → IsLeftBy made (log ++ (owner, round.Hold count, now) ∷ []) now → ((id : ℕ) → AreBy id e.party.pass log) → taken_up_words (emitted e) ≡ accepted_words (emitted e)
    → map word_of (seen now.sequencer) ≡ accepted_words (emitted e)
accepted_are_own e made now log owner count own part left are all_settled =
    let pass = e.party.pass in
    let id = e.id in
    let last : ℕ × Round × SharedSeen = (owner, round.Hold count, now) in
    let mine = own_of pass log in
    let entries_seen = seen now.sequencer in
    let words = accepted_words (emitted e) in
    let by_part : emitted_by_id id log ≡ taken_up_words (emitted e) = own log part (are id) in
    let of_own : words_of id mine ≡ taken_up_words (emitted e) = sym (emitted_by id pass log (are id)) ∙ by_part in
    let grew : takes_of mine ≤ length (taken_up_words (emitted e)) =
    subst (λ (l : List Round). takes_of l ≤ length (taken_up_words (emitted e))) part (let all = rounds_taken [] e.party.rounds in omega (arith, all)) in
    let all_taken : takes_of mine ≤ length (words_of id mine) = subst (λ (l : List ℕ). takes_of mine ≤ length l) (sym of_own) grew in
    let nobody : (x : ℕ) → id ≢ x → emitted_by_id x log ≡ [] =
    λ x apart. emitted_by x pass log (are x) ∙ nothing_of x mine (rounds_others id x mine apart all_taken) in
    let before_last : (x : ℕ) → emitted_by_id x (log ++ last ∷ []) ≡ emitted_by_id x log = λ x. emitted_more x log (last ∷ []) ∙ append-nil (emitted_by_id x log) in
    let flow = one_flow made now (log ++ last ∷ []) left in
    let waiting = map entry_of now.sequencer.waiting in
    let accepted_of : (x : ℕ) → Within (words_by x entries_seen) (emitted_by_id x log) = λ x. subst (Within (words_by x entries_seen)) (before_last x)
    (within_then (words_by x entries_seen) (words_by x (entries_seen ++ waiting)) (emitted_by_id x (log ++ last ∷ []))
    (accepted_within x entries_seen waiting) (of_parts (flow.each_in_its_own_order x))) in
    let none_of : (x : ℕ) → id ≢ x → words_by x entries_seen ≡ [] = λ x apart. subst (Within (words_by x entries_seen)) (nobody x apart) (accepted_of x) in
    let next_id : id ≢ suc id = omega arith in
    let all : map word_of entries_seen ≡ words_by id entries_seen = alone (of_two id (suc id) entries_seen next_id (λ x not_id not_next. none_of x not_id)) (none_of (suc id) next_id) in
    let within : Within (map word_of entries_seen) words =
    subst (λ (l : List ℕ). Within l words) (sym all) (subst (Within (words_by id entries_seen)) (by_part ∙ all_settled) (accepted_of id)) in
    let few : length words ≤ answers_of mine =
    subst (λ (l : List Round). length words ≤ answers_of l) part (let all = rounds_few [] e.party.rounds in omega (arith, all)) in
    let answered = own_answered pass made log last now left in
    let as_many = length-map entries_seen word_of in
    within_whole (map word_of entries_seen) words within (omega (arith, few, answered, as_many))
