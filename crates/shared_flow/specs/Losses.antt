-- What a round loses: values that the sequencer moves the cursor of a place past.
use Rattle.std.specs.Prelude.{⊤, ◌≡◌, ◌≢◌, ℕ, ◌+◌, ◌<◌, ◌≤◌, List, [], ◌∷◌, ◌++◌, Ok}
use Rattle.flow_terms.specs.declared.policy.Policy.{Policy}
use Rattle.flow_terms.specs.declared.policy.Policy.TheVariants.{Suspend, DropOldest, DropLatest}
use Rattle.flow_terms.specs.declared.answers.Tried.TheVariants as tried
use Rattle.flow_terms.specs.declared.answers.Begun.TheVariants as begun
use Rattle.shared_lane.specs.Views.{SequencerSeen}
use Rattle.shared_lane.specs.Places.{lost_by, LosesNothing}
use Rattle.shared_lane.specs.Sequencers.{next}
use Rattle.shared_rounds.specs.declared.round.Round.{Round}
use Rattle.shared_rounds.specs.declared.round.Round.TheVariants as round
use Rattle.shared_rounds.specs.Names.{SharedSeen}
use Rattle.shared_rounds.specs.Rounds.{Does}

-- These numbers rise, and each stands as many behind an emission's as there are cells: one for each emission at most, of those from the
-- number `low` up to below `high`.
abbrev pub StandBehind : ℕ → ℕ → ℕ → List ℕ → Type 0
StandBehind cells low high [] = ⊤
StandBehind cells low high (n ∷ ns) = (low ≤ n + cells) × (n + cells < high) × StandBehind cells (n + cells + 1) high ns

-- Each place lost what it lost as emissions were accepted for which it had no room: for each of these one value at most, the oldest that
-- was pending there, where as many were pending as there are cells.
abbrev pub LosesOldest : SequencerSeen → SequencerSeen → Type 0
LosesOldest q t = (p : ℕ) → (ns : List ℕ) × (lost_by t p ≡ lost_by q p ++ ns) × StandBehind q.view.shape.cells (next q) (next t) ns

-- what acceptances lose
abbrev pub LosesBy : Policy → SequencerSeen → SequencerSeen → Type 0
LosesBy Suspend q t = LosesNothing q t
LosesBy DropOldest q t = LosesOldest q t
LosesBy DropLatest q t = LosesNothing q t

-- a place was opened, for which nothing is lost yet, and no other lost a value
abbrev pub OpensOne : SequencerSeen → SequencerSeen → Type 0
OpensOne q t = (place : ℕ) × (lost_by t place ≡ []) × ((p : ℕ) → p ≢ place → lost_by t p ≡ lost_by q p)

-- What a round loses: one that accepted emissions under `DropOldest` the oldest values, and any other nothing.
abbrev pub Loses : Round → SequencerSeen → SequencerSeen → Type 0
Loses (round.Try e (Ok (tried.Accepted n))) q t = LosesBy q.policy q t
Loses (round.TryAll emitter words (Ok n)) q t = LosesBy q.policy q t
Loses (round.Start e (Ok (begun.Accepted n))) q t = LosesBy q.policy q t
Loses (round.Subscribe (Ok number)) q t = OpensOne q t
Loses _ q t = LosesNothing q t

abbrev pub OnlyAcceptancesLose : Type 0
OnlyAcceptancesLose = (s t : SharedSeen) (r : Round) → Does s r t → Loses r s.sequencer t.sequencer
