-- What a try and a start come to, by what the sequencer answered.
use Rattle.std.proofs.Common.{rules, ◌≡◌, ◌⊎◌, ℕ, Result, Ok, Err, IfOk, IfErr, sym, ◌∙◌}
use Rattle.std.proofs.lemmas.Result.{IfErr-weaker}
use Rattle.flow_terms.specs.declared.refusal.Refusal.{Refusal}
use Rattle.flow_terms.specs.declared.refusal.Refusal.TheVariants.{Spent, EmitsFull}
use Rattle.flow_terms.specs.declared.policy.Policy.{Policy}
use Rattle.flow_terms.specs.declared.answers.Tried.{Tried}
use Rattle.flow_terms.specs.declared.answers.Tried.TheVariants as tried
use Rattle.flow_terms.specs.declared.answers.Begun.{Begun}
use Rattle.flow_terms.specs.declared.answers.Begun.TheVariants as begun
use Rattle.flow_terms.specs.declared.ids.Ticket.{Ticket}
use Rattle.shared_lane.specs.Views.{LaneSeen, SequencerSeen}
use Rattle.shared_lane.specs.Sequencers.{AfterScan, HasNumber, HasTicketNumber, TriedOn, BegunOn, RefusedTry, RefusedStart}
use Rattle.shared_rounds.specs.declared.round.Emission.{Emission}
use Rattle.shared_rounds.specs.declared.round.Round.TheVariants as round
use Rattle.shared_rounds.specs.Tries.{TriedUnder, BegunUnder}
use Rattle.shared_rounds.specs.Rounds.{Makes, entry}

module _ (lane : LaneSeen) (q t : SequencerSeen) (e : Emission) where
  pub try_made : (answer : Result (Tried ℕ) Refusal) → IfErr answer (λ r. AfterScan q (λ m. RefusedTry m r t)) → IfOk answer (λ x. AfterScan q (λ m. HasNumber m × TriedOn m (entry e) x t))
      → AfterScan q (λ m. Makes lane m (round.Try e answer) t)
  try_made (Ok x) refused was = (was.0, was.1, was.2, was.3, was.4, was.5.1)
  try_made (Err r) refused was = refused

  pub start_made : (answer : Result (Begun ℕ Ticket) Refusal) → IfErr answer (λ r. AfterScan q (λ m. RefusedStart m r t)) → IfOk answer (λ x. AfterScan q (λ m. HasNumber m × HasTicketNumber m × BegunOn m (entry e) x t))
      → AfterScan q (λ m. Makes lane m (round.Start e answer) t)
  start_made (Ok x) refused was = (was.0, was.1, was.2, was.3, was.4, was.5.2)
  start_made (Err r) refused was = refused

  -- a try is dropped, or full, under one policy each
  pub tried_under : (p : Policy) (answer : Result (Tried ℕ) Refusal) → q.policy ≡ p → IfOk answer (λ x. AfterScan q (λ m. HasNumber m × TriedOn m (entry e) x t)) → TriedUnder p answer
  tried_under p (Ok (tried.Accepted n)) is was = tt
  tried_under p (Ok tried.Dropped) is was = sym is ∙ sym was.2.2 ∙ was.5.1.0
  tried_under p (Ok tried.Full) is was = sym is ∙ sym was.2.2 ∙ was.5.1.0
  tried_under p (Err r) is was = tt

  pub begun_under : (p : Policy) (answer : Result (Begun ℕ Ticket) Refusal) → q.policy ≡ p → IfOk answer (λ x. AfterScan q (λ m. HasNumber m × HasTicketNumber m × BegunOn m (entry e) x t)) → BegunUnder p answer
  begun_under p (Ok (begun.Accepted n)) is was = tt
  begun_under p (Ok begun.Dropped) is was = sym is ∙ sym was.2.2 ∙ was.5.2.0
  begun_under p (Ok (begun.Waiting k)) is was = sym is ∙ sym was.2.2 ∙ was.5.2.0
  begun_under p (Err r) is was = tt

start_refused : (m t : SequencerSeen) (r : Refusal) → RefusedStart m r t → (r ≡ Spent) ⊎ (r ≡ EmitsFull)
start_refused m t r was = search rules

module _ (q t : SequencerSeen) where
  pub try_refusals : {A : Type 0} (answer : Result A Refusal) → IfErr answer (λ r. AfterScan q (λ m. RefusedTry m r t)) → IfErr answer (λ r. r ≡ Spent)
  try_refusals answer refused = IfErr-weaker answer _ _ (λ r was. was.5.0) refused

  pub start_refusals : {A : Type 0} (answer : Result A Refusal) → IfErr answer (λ r. AfterScan q (λ m. RefusedStart m r t)) → IfErr answer (λ r. (r ≡ Spent) ⊎ (r ≡ EmitsFull))
  start_refusals answer refused = IfErr-weaker answer _ _ (λ r was. start_refused was.0 t r was.5) refused
