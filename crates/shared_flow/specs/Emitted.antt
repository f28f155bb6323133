-- What a caller has of an emitter: the list of what it emitted, in order, each word with what became of it.
use Rattle.std.specs.Prelude.{◌≡◌, ◌⊎◌, cond, ℕ, Bool, true, false, List, [], ◌∷◌, ◌++◌, length, map, take, Option, Some, None, Result, Ok, Err, ⊤}
use Rattle.std.specs.List.{All, AllByRecursion, count_by, fold}
use Rattle.round_lock.specs.History.{own_of}
use Rattle.futures.specs.declared.task.Poll.{Poll}
use Rattle.futures.specs.declared.task.Poll.TheVariants.{Ready, Pending}
use Rattle.flow_terms.specs.declared.refusal.Refusal.{Refusal}
use Rattle.flow_terms.specs.declared.refusal.Refusal.TheVariants.{NoMemory}
use Rattle.flow_terms.specs.declared.answers.Tried.{Tried}
use Rattle.flow_terms.specs.declared.answers.Tried.TheVariants as tried
use Rattle.flow_terms.specs.declared.answers.Begun.{Begun}
use Rattle.flow_terms.specs.declared.answers.Begun.TheVariants as begun
use Rattle.flow_terms.specs.declared.answers.Emit.TheVariants as emit
use Rattle.flow_terms.specs.declared.answers.Withdrawn.{Withdrawn}
use Rattle.flow_terms.specs.declared.answers.Withdrawn.TheVariants as given_up
use Rattle.shared_lane.specs.Views.{ReceiptSeen}
use Rattle.shared_rounds.specs.declared.round.Round.{Round}
use Rattle.shared_rounds.specs.declared.round.Round.TheVariants as round
use Rattle.shared_flow.specs.declared.emitter.blocks.CutShort.{CutShort}
use Rattle.shared_flow.specs.Emitters.{WasLeft, WasGivenUp}
use Rattle.shared_flow.specs.Parties.{Emitting, IfLeft}
use Rattle.shared_flow.specs.Queue.{taken_up, emitted as emitted_by}
use Rattle.shared_rounds.specs.Names.{SharedSeen}
use Rattle.shared_rounds.specs.Reach.{Rounds}

-- What became of a word: it was accepted, with this number, or by a try of a block, which tells how many it accepted and no numbers;
-- the policy dropped it; a try found no room for it; it was refused; it is in flight; or it was withdrawn, and never accepted.
pub data Outcome : Type 0 where
  accepted : (number : ℕ) → Outcome
  accepted_in_block : Outcome
  dropped : Outcome
  full : Outcome
  refused : (refusal : Refusal) → Outcome
  in_flight : Outcome
  withdrawn : Outcome

-- words in order, each with what became of it
abbrev pub Emissions : Type 0
Emissions = List (ℕ × Outcome)

-- what became of a word, by the answer of a try, of a start, and of an emission that was waited for
abbrev pub outcome_of_try : Result (Tried ReceiptSeen) Refusal → Outcome
outcome_of_try (Ok (tried.Accepted receipt)) = accepted receipt.number
outcome_of_try (Ok tried.Dropped) = dropped
outcome_of_try (Ok tried.Full) = full
outcome_of_try (Err refusal) = refused refusal

abbrev pub outcome_of_start : {K : Type 0} → Result (Begun ReceiptSeen K) Refusal → Outcome
outcome_of_start (Ok (begun.Accepted receipt)) = accepted receipt.number
outcome_of_start (Ok begun.Dropped) = dropped
outcome_of_start (Ok (begun.Waiting ticket)) = in_flight
outcome_of_start (Err refusal) = refused refusal

abbrev pub outcome_of_emit : Result (Option ReceiptSeen) Refusal → Outcome
outcome_of_emit (Ok (Some receipt)) = accepted receipt.number
outcome_of_emit (Ok None) = dropped
outcome_of_emit (Err NoMemory) = withdrawn
outcome_of_emit (Err refusal) = refused refusal

-- the words of a block that a try accepted, the first ones; or the first of them, which was refused
abbrev pub outcomes_of_block : List ℕ → Result ℕ Refusal → Emissions
outcomes_of_block words (Ok n) = map (λ word. (word, accepted_in_block)) (take n words)
outcomes_of_block [] (Err refusal) = []
outcomes_of_block (word ∷ words) (Err refusal) = (word, refused refusal) ∷ []

-- this outcome, of what was in flight
abbrev pub if_in_flight : Outcome → Outcome → Outcome
if_in_flight outcome in_flight = outcome
if_in_flight outcome other = other

-- the last one, which was in flight, ended so
abbrev pub settled : Outcome → Emissions → Emissions
settled outcome [] = []
settled outcome (x ∷ []) = (x.0, if_in_flight outcome x.1) ∷ []
settled outcome (x ∷ y ∷ more) = x ∷ settled outcome (y ∷ more)

-- so it is by the answer of a poll, and of a cancellation
abbrev pub after_poll : Poll ReceiptSeen → Emissions → Emissions
after_poll (Ready receipt) xs = settled (accepted receipt.number) xs
after_poll Pending xs = xs

abbrev pub after_cancel : Withdrawn ReceiptSeen → Emissions → Emissions
after_cancel (given_up.Left receipt) xs = settled (accepted receipt.number) xs
after_cancel given_up.Removed xs = settled withdrawn xs
after_cancel given_up.Gone xs = xs

-- by the answers as a round keeps them, with the numbers of receipts
abbrev pub tried_as : Result (Tried ℕ) Refusal → Outcome
tried_as (Ok (tried.Accepted n)) = accepted n
tried_as (Ok tried.Dropped) = dropped
tried_as (Ok tried.Full) = full
tried_as (Err refusal) = refused refusal

abbrev pub begun_as : {K : Type 0} → Result (Begun ℕ K) Refusal → Outcome
begun_as (Ok (begun.Accepted n)) = accepted n
begun_as (Ok begun.Dropped) = dropped
begun_as (Ok (begun.Waiting ticket)) = in_flight
begun_as (Err refusal) = refused refusal

-- after one more of its rounds
abbrev pub after_round : Emissions → Round → Emissions
after_round xs (round.Try e answer) = xs ++ (e.word, tried_as answer) ∷ []
after_round xs (round.TryAll emitter words answer) = xs ++ outcomes_of_block words answer
after_round xs (round.Start e answer) = xs ++ (e.word, begun_as answer) ∷ []
after_round xs (round.Poll ticket (emit.Done n)) = settled (accepted n) xs
after_round xs (round.Withdraw ticket (given_up.Left n)) = settled (accepted n) xs
after_round xs (round.Withdraw ticket given_up.Removed) = settled withdrawn xs
after_round xs _ = xs

-- what came of some rounds, and what this emitter emitted, in order, each word with what became of it
abbrev pub emitted_in : List Round → Emissions
emitted_in rounds = fold after_round [] rounds

abbrev pub emitted : Emitting → Emissions
emitted e = emitted_in e.party.rounds

-- whether the flow took the word up: it was accepted, or is in flight, or was withdrawn while it waited
abbrev pub was_taken_up : Outcome → Bool
was_taken_up (accepted n) = true
was_taken_up accepted_in_block = true
was_taken_up dropped = false
was_taken_up full = false
was_taken_up (refused refusal) = false
was_taken_up in_flight = true
was_taken_up withdrawn = true

-- the words of these that it took up
abbrev pub taken_up_words : Emissions → List ℕ
taken_up_words [] = []
taken_up_words (x ∷ xs) = cond (was_taken_up x.1) (x.0 ∷ taken_up_words xs) (taken_up_words xs)

-- a round of a list is of this party, or none by which an emitter with this id emitted
abbrev pub IsOf : ℕ → ℕ → ℕ × Round × SharedSeen → Type 0
IsOf pass id t = (t.0 ≡ pass) ⊎ (taken_up id t.1 ≡ [])

-- In each list of rounds of which its own are its part, and in which nobody else emits by its id, the words emitted by this id are those of
-- its own that the flow took up, in order.
abbrev pub AreItsPart : Emitting → Type 0
AreItsPart e = (log : Rounds) → e.party.rounds ≡ own_of e.party.pass log → AllByRecursion (IsOf e.party.pass e.id) log
    → emitted_by e.id log ≡ taken_up_words (emitted e)

-- the round emits by this id, if it emits
abbrev pub IsOwn : ℕ → Round → Type 0
IsOwn id (round.Try emission answer) = emission.emitter ≡ id
IsOwn id (round.TryAll emitter words answer) = emitter ≡ id
IsOwn id (round.Start emission answer) = emission.emitter ≡ id
IsOwn id _ = ⊤

-- it was accepted or dropped
abbrev pub WasEmitted : Outcome → Type 0
WasEmitted (accepted n) = ⊤
WasEmitted accepted_in_block = ⊤
WasEmitted dropped = ⊤
WasEmitted _ = ⊥

abbrev pub was_accepted : Outcome → Bool
was_accepted (accepted n) = true
was_accepted accepted_in_block = true
was_accepted _ = false

-- the words of these that were accepted, in order
abbrev pub accepted_words : Emissions → List ℕ
accepted_words [] = []
accepted_words (x ∷ xs) = cond (was_accepted x.1) (x.0 ∷ accepted_words xs) (accepted_words xs)

-- These are the words, in order. Each was accepted or dropped, and so many of them were accepted.
pub record AreEmitted (words : List ℕ) (n : ℕ) (xs : Emissions) : Type 0 where
  pub words_are : map (λ (x : ℕ × Outcome). x.0) xs ≡ words
  pub each : All (λ (x : ℕ × Outcome). WasEmitted x.1) xs
  pub count : count_by (λ (x : ℕ × Outcome). was_accepted x.1) xs ≡ n

-- the list grew by these words
abbrev pub GrewBy : Emissions → List ℕ → ℕ → Emissions → Type 0
GrewBy old words n new = (more : Emissions) × AreEmitted words n more × (new ≡ old ++ more)

-- The list grew by the first of these words, and then by the next one, which was refused or, for want of memory, withdrawn.
pub record GrewUpTo (old : Emissions) (words : List ℕ) (cut : CutShort) (new : Emissions) : Type 0 where
  pub before : List ℕ
  pub word : ℕ
  pub later : List ℕ
  pub then : Emissions
  pub words_are : words ≡ before ++ word ∷ later
  pub stopped_at : length before ≡ cut.emitted
  pub grew : GrewBy old before cut.accepted then
  pub ended : new ≡ then ++ (word, outcome_of_emit (Err cut.refusal)) ∷ []

-- what a list of words comes to, by the answer: all were emitted, or those up to one
abbrev pub GrewByAll : Emissions → List ℕ → Result ℕ CutShort → Emissions → Type 0
GrewByAll old words (Ok n) new = GrewBy old words n new
GrewByAll old words (Err cut) new = GrewUpTo old words cut new

-- the emitter that is left, once what was in flight was given up, with this answer: nothing is in flight
abbrev pub IsLeftOf : Emitting → Withdrawn ReceiptSeen → Emitting → Type 0
IsLeftOf e answer f = (f.ticket ≡ None) × (e.ticket ≡ None → f ≡ e) × IfLeft answer (λ receipt. WasLeft e receipt f) × WasGivenUp e answer f
