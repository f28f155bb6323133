-- Which emissions a history of rounds accepted, and in which order: those that wait stand in a queue, whose first ones are accepted.
use Rattle.std.specs.Prelude.{◌≡◌, ◌⊎◌, ℕ, ◌+◌, Bool, false, ◌||◌, List, [], ◌∷◌, ◌++◌, ◌==◌, cond, map, take, drop, slice_get, Some, Ok}
use Rattle.std.specs.List.{remove}
use Rattle.shared_core.specs.Story.{Interleaves}
use Rattle.flow_terms.specs.declared.answers.Tried.TheVariants as tried
use Rattle.flow_terms.specs.declared.answers.Begun.TheVariants as begun
use Rattle.flow_terms.specs.declared.answers.Withdrawn.TheVariants as withdrawn
use Rattle.shared_lane.specs.Law.{Entry}
use Rattle.shared_lane.specs.Blocks.{entries}
use Rattle.shared_lane.specs.Sequencers.{entry_of, seen}
use Rattle.shared_lane.specs.Views.{SequencerSeen}
use Rattle.shared_lane.specs.declared.tickets.Waiting.{Waiting}
use Rattle.shared_rounds.specs.declared.round.Emission.{Emission}
use Rattle.shared_rounds.specs.declared.round.Round.{Round}
use Rattle.shared_rounds.specs.declared.round.Round.TheVariants as round
use Rattle.shared_rounds.specs.Names.{SharedSeen}
use Rattle.shared_rounds.specs.Reach.{Rounds}
use Rattle.shared_rounds.specs.Rounds.{entry}

-- the emissions that wait, those that were accepted, and the number of the next ticket
pub record Progress : Type 0 where
  pub waiting : List Waiting
  pub accepted : List Entry
  pub ticket : ℕ

abbrev pub progress_of : SequencerSeen → Progress
progress_of q = record { waiting = q.waiting; accepted = seen q; ticket = q.ticket }

-- the first k of those that wait are accepted
abbrev pub with_accepted : ℕ → Progress → Progress
with_accepted k p = record { waiting = drop k p.waiting; accepted = p.accepted ++ map entry_of (take k p.waiting); ticket = p.ticket }

-- an emission is accepted at once, where none waits
abbrev pub IsAcceptedNow : Emission → Progress → Progress → Type 0
IsAcceptedNow e p p' = (p.waiting ≡ []) × (p' ≡ record p { accepted = p.accepted ++ entry e ∷ [] })

-- so are these, one after another: none of them, or none waits
abbrev pub AreAcceptedNow : List Entry → Progress → Progress → Type 0
AreAcceptedNow es p p' = ((es ≡ []) ⊎ (p.waiting ≡ [])) × (p' ≡ record p { accepted = p.accepted ++ es })

-- the next ticket is given
abbrev pub with_ticket : Progress → Progress
with_ticket p = record p { ticket = p.ticket + 1 }

-- it waits behind all others, with the next ticket
abbrev pub waits_in : Emission → Progress → Progress
waits_in e p = record (with_ticket p) { waiting = p.waiting ++ record { ticket = p.ticket; emitter = e.emitter; word = e.word } ∷ [] }

-- one that waits with this ticket is withdrawn
abbrev pub IsWithdrawn : ℕ → Progress → Progress → Type 0
IsWithdrawn ticket p p' = (i : ℕ) × (w : Waiting) × (slice_get p.waiting i ≡ Some w) × (w.ticket ≡ ticket) × (p' ≡ record p { waiting = remove p.waiting i })

-- what a call does to the queue
abbrev pub Goes : Round → Progress → Progress → Type 0
Goes (round.Try e (Ok (tried.Accepted n))) p p' = IsAcceptedNow e p p'
Goes (round.TryAll emitter words (Ok n)) p p' = AreAcceptedNow (entries emitter (take n words)) p p'
Goes (round.Start e (Ok (begun.Accepted n))) p p' = IsAcceptedNow e p p'
-- a ticket is also out for an emission that is accepted, and isn't finished before all have received it
Goes (round.Start e (Ok (begun.Waiting ticket))) p p' = (ticket.0 ≡ p.ticket) × (IsAcceptedNow e (with_ticket p) p' ⊎ (p' ≡ waits_in e p))
Goes (round.Withdraw ticket withdrawn.Removed) p p' = IsWithdrawn ticket.0 p p'
Goes _ p p' = p' ≡ p

-- a round: some are accepted, the call is made, and some more may be
abbrev pub Proceeds : Round → Progress → Progress → Type 0
Proceeds r p p' = (k : ℕ) × (m : Progress) × (l : ℕ) × Goes r (with_accepted k p) m × (p' ≡ with_accepted l m)

-- what a history of rounds comes to, from a first ticket on
pub data ComesTo : Rounds → Progress → Type 0 where
  begins : (first : ℕ) → ComesTo [] (record { waiting = []; accepted = []; ticket = first })
  goes_on : (log : Rounds) (p : Progress) (pass : ℕ) (r : Round) (left : SharedSeen) (p' : Progress) → ComesTo log p → Proceeds r p p'
      → ComesTo (log ++ (pass, r, left) ∷ []) p'

-- the word of an emission, where it is this emitter's
abbrev pub one_by : ℕ → Entry → List ℕ
one_by e x = cond (x.0 == e) (x.1 ∷ []) []

-- the words of this emitter among these
abbrev pub words_by : ℕ → List Entry → List ℕ
words_by e [] = []
words_by e (x ∷ xs) = one_by e x ++ words_by e xs

-- the words that this emitter emitted by a call: accepted at once, or with a ticket
abbrev pub taken_up : ℕ → Round → List ℕ
taken_up e (round.Try m (Ok (tried.Accepted n))) = one_by e (entry m)
taken_up e (round.TryAll emitter words (Ok n)) = words_by e (entries emitter (take n words))
taken_up e (round.Start m (Ok (begun.Accepted n))) = one_by e (entry m)
taken_up e (round.Start m (Ok (begun.Waiting ticket))) = one_by e (entry m)
taken_up e _ = []

-- the words that this emitter emitted in a history, in its order
abbrev pub emitted : ℕ → Rounds → List ℕ
emitted e [] = []
emitted e (x ∷ log) = taken_up e x.1 ++ emitted e log

-- whether a round gives up the emission with this ticket: it answers that this waited, and waits no more
abbrev pub gives_up : ℕ → Round → Bool
gives_up ticket (round.Withdraw k withdrawn.Removed) = k.0 == ticket
gives_up ticket _ = false

-- whether some round of a history does
abbrev pub is_given_up : ℕ → Rounds → Bool
is_given_up ticket [] = false
is_given_up ticket (x ∷ log) = gives_up ticket x.1 || is_given_up ticket log

-- the word that this emitter emitted by a call, where this history gives it up
abbrev pub one_given_up : ℕ → Rounds → Round → List ℕ
one_given_up e log (round.Start m (Ok (begun.Waiting ticket))) = cond (is_given_up ticket.0 log) (one_by e (entry m)) []
one_given_up e log _ = []

-- the words that this emitter emitted in some rounds, and that a history gives up, in its order
abbrev pub given_up_of : ℕ → Rounds → Rounds → List ℕ
given_up_of e log [] = []
given_up_of e log (x ∷ rounds) = one_given_up e log x.1 ++ given_up_of e log rounds

abbrev pub given_up : ℕ → Rounds → List ℕ
given_up e log = given_up_of e log log

-- Those of an emitter's emissions that were accepted, and then those that wait, are what it emitted, in its own order, less
-- those that it gave up: those of its rounds whose tickets rounds answered with `Removed`, and no others
abbrev pub EachInItsOwnOrder : Rounds → Progress → Type 0
EachInItsOwnOrder log p = (e : ℕ) → Interleaves (words_by e (p.accepted ++ map entry_of p.waiting)) (given_up e log) (emitted e log)
