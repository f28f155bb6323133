-- The numbers that an emitter is answered rise.
use Rattle.std.proofs.Common.{◌≡◌, ℕ, ◌+◌, ◌<◌, ◌≤◌, ⊎_elim, inl, inr, List, [], ◌∷◌, ◌++◌, Option, Some, None, Result, Ok, Err, IfErr, refl, arith}
use Rattle.flow_terms.specs.declared.answers.Begun.{Begun}
use Rattle.flow_terms.specs.declared.answers.Begun.TheVariants as begun
use Rattle.flow_terms.specs.declared.answers.Tried.{Tried}
use Rattle.flow_terms.specs.declared.answers.Tried.TheVariants as tried
use Rattle.flow_terms.specs.declared.ids.Ticket.{Ticket}
use Rattle.flow_terms.specs.declared.policy.Policy.{Policy}
use Rattle.flow_terms.specs.declared.refusal.Refusal.{Refusal}
use Rattle.shared_lane.specs.Views.{ReceiptSeen}
use Rattle.shared_rounds.specs.declared.round.Emission.{Emission}
use Rattle.shared_rounds.specs.declared.round.Round.{Round}
use Rattle.shared_rounds.specs.declared.round.Round.TheVariants as round
use Rattle.shared_rounds.specs.Rounds.{Below, IsAfter, after_number, numbers_tried, numbers_begun}
use Rattle.shared_rounds.specs.Tries.{IfTried, IfBegun, BegunUnder, ticket_of, last_of_try, last_of_start}
use Rattle.shared_flow.specs.Parties.{Answers, WasAnswered}

answers_keep : (n : ℕ) (rounds : List Round) (r : Round) → Answers n rounds → Answers n (rounds ++ r ∷ [])
answers_keep n [] r answers = absurd answers
answers_keep n (x ∷ rounds) r answers = ⊎_elim (λ here. inl here) (λ rest. inr (answers_keep n rounds r rest)) answers

answers_last : (n : ℕ) (rounds : List Round) (r : Round) → after_number r ≡ n + 1 → Answers n (rounds ++ r ∷ [])
answers_last n [] r is = inl is
answers_last n (x ∷ rounds) r is = inr (answers_last n rounds r is)

answers_below : (n k : ℕ) (rounds : List Round) → Below n rounds → Answers k rounds → k < n
answers_below n k [] below answers = absurd answers
answers_below n k (r ∷ rounds) below answers = ⊎_elim (λ is. let le = below.0 in omega (arith, is, le)) (λ rest. answers_below n k rounds below.1 rest) answers

-- a round without a number, and one with
pub answered_on : (last : Option ℕ) (rounds : List Round) (r : Round) → WasAnswered last rounds → WasAnswered last (rounds ++ r ∷ [])
answered_on None rounds r was = was
answered_on (Some n) rounds r was = answers_keep n rounds r was

pub answered_last : (n : ℕ) (rounds : List Round) (r : Round) → after_number r ≡ n + 1 → WasAnswered (Some n) (rounds ++ r ∷ [])
answered_last n rounds r is = answers_last n rounds r is

pub after_try : (last : Option ℕ) (rounds : List Round) (e : Emission) (answer : Result (Tried ℕ) Refusal) → WasAnswered last rounds → WasAnswered (last_of_try last answer) (rounds ++ round.Try e answer ∷ [])
after_try last rounds e (Ok (tried.Accepted n)) was = answers_last n rounds _ refl
after_try last rounds e (Ok tried.Dropped) was = answered_on last rounds _ was
after_try last rounds e (Ok tried.Full) was = answered_on last rounds _ was
after_try last rounds e (Err refusal) was = answered_on last rounds _ was

pub after_start : (last : Option ℕ) (rounds : List Round) (e : Emission) (answer : Result (Begun ℕ Ticket) Refusal) → WasAnswered last rounds → WasAnswered (last_of_start last answer) (rounds ++ round.Start e answer ∷ [])
after_start last rounds e (Ok (begun.Accepted n)) was = answers_last n rounds _ refl
after_start last rounds e (Ok begun.Dropped) was = answered_on last rounds _ was
after_start last rounds e (Ok (begun.Waiting ticket)) was = answered_on last rounds _ was
after_start last rounds e (Err refusal) was = answered_on last rounds _ was

-- a number at or past the next one is above the last
above : (last : Option ℕ) (rounds : List Round) (n k : ℕ) → Below n rounds → WasAnswered last rounds → n ≤ k → IsAfter last k
above None rounds n k below was le = tt
above (Some l) rounds n k below was le = let lower = answers_below n l rounds below was in omega (arith, lower, le)

-- what is so of the numbers that were answered is so of the receipts for them
pub try_rises : (tries : Result (Tried ReceiptSeen) Refusal) (last : Option ℕ) (n : ℕ) (rounds : List Round) → IfTried (numbers_tried tries) (λ k. n ≤ k) → Below n rounds → WasAnswered last rounds
    → IfTried tries (λ r. IsAfter last r.number)
try_rises (Ok (tried.Accepted r)) last n rounds later below was = above last rounds n r.number below was later
try_rises (Ok tried.Dropped) last n rounds later below was = tt
try_rises (Ok tried.Full) last n rounds later below was = tt
try_rises (Err refusal) last n rounds later below was = tt

pub start_rises : (begins : Result (Begun ReceiptSeen Ticket) Refusal) (last : Option ℕ) (n : ℕ) (rounds : List Round) → IfBegun (numbers_begun begins) (λ k. n ≤ k) → Below n rounds → WasAnswered last rounds
    → IfBegun begins (λ r. IsAfter last r.number)
start_rises (Ok (begun.Accepted r)) last n rounds later below was = above last rounds n r.number below was later
start_rises (Ok begun.Dropped) last n rounds later below was = tt
start_rises (Ok (begun.Waiting k)) last n rounds later below was = tt
start_rises (Err refusal) last n rounds later below was = tt

pub start_refused : (begins : Result (Begun ReceiptSeen Ticket) Refusal) (P : Refusal → Type 0) → IfErr (numbers_begun begins) P → IfErr begins P
start_refused (Ok (begun.Accepted r)) P refused = tt
start_refused (Ok begun.Dropped) P refused = tt
start_refused (Ok (begun.Waiting k)) P refused = tt
start_refused (Err refusal) P refused = refused

pub start_under : (begins : Result (Begun ReceiptSeen Ticket) Refusal) (policy : Policy) → BegunUnder policy (numbers_begun begins) → BegunUnder policy begins
start_under (Ok (begun.Accepted r)) policy under = tt
start_under (Ok begun.Dropped) policy under = under
start_under (Ok (begun.Waiting k)) policy under = under
start_under (Err refusal) policy under = tt

-- the ticket of a start is the same by either
pub ticket_by_number : (begins : Result (Begun ReceiptSeen Ticket) Refusal) → ticket_of (numbers_begun begins) ≡ ticket_of begins
ticket_by_number (Ok (begun.Accepted r)) = refl
ticket_by_number (Ok begun.Dropped) = refl
ticket_by_number (Ok (begun.Waiting k)) = refl
ticket_by_number (Err refusal) = refl
