-- What came of an emitter's tries, and what the policy of a flow drops.
use Rattle.std.proofs.Common.{◌≡◌, ◌≢◌, ℕ, false, Ok, Err, Result, List, [], ◌∷◌, ◌++◌, refl, sym, ap, ◌∙◌, subst, append_assoc}
use Rattle.std.proofs.lemmas.List.{append-nil}
use Rattle.std.proofs.lemmas.List.Sums.{fold-append}
use Rattle.std.proofs.lemmas.Option.{same_Some}
use Rattle.std.specs.List.{fold}
use Rattle.flow_terms.specs.declared.refusal.Refusal.{Refusal}
use Rattle.flow_terms.specs.declared.policy.Policy.{Policy}
use Rattle.flow_terms.specs.declared.policy.Policy.TheVariants.{Suspend, DropOldest, DropLatest}
use Rattle.flow_terms.specs.declared.answers.Tried.{Tried}
use Rattle.flow_terms.specs.declared.answers.Tried.TheVariants as tried
use Rattle.round_lock.specs.History.After.{new as first_one, more as one_more}
use Rattle.shared_core.specs.declared.config.Config.{Config}
use Rattle.shared_lane.specs.Caches.{drops_values}
use Rattle.shared_lane.specs.Sequencers.{shape_of}
use Rattle.shared_lane.specs.Views.{ReaderSeen}
use Rattle.shared_rounds.specs.declared.round.Round.{Round}
use Rattle.shared_rounds.specs.Entering.{IsLeftBy}
use Rattle.shared_rounds.specs.Names.{FlowName, IsMadeWith, IsNew, SharedSeen}
use Rattle.shared_rounds.specs.Reach.{Party, Rounds}
use Rattle.shared_flow.specs.Emitted.{Emissions, Outcome, after_round, emitted, emitted_in, tried_as}
use Rattle.shared_flow.specs.Looks.{WasAdmittedBy}
use Rattle.shared_flow.specs.Parties.{Emitting}
use Rattle.hot_callers.specs.Exchanges.{AreTries, TriesEach}
use Rattle.hot_callers.specs.Receiving.{IsSettled, WereTried}

-- ---- what came of tries

try_settled : (answer : Result (Tried ℕ) Refusal) → IsSettled (tried_as answer)
try_settled (Ok (tried.Accepted n)) = tt
try_settled (Ok tried.Dropped) = tt
try_settled (Ok tried.Full) = tt
try_settled (Err refusal) = tt

pub tries_come : (id : ℕ) (words : List ℕ) (rounds : List Round) (xs : Emissions) → AreTries id words rounds → WereTried xs words (fold after_round xs rounds)
tries_come id [] rounds xs tries = ([], ap (fold after_round xs) tries ∙ sym (append-nil xs), refl, tt)
tries_come id (word ∷ words) rounds xs tries =
    let first : ℕ × Outcome = (word, tried_as tries.0) in
    let more = tries_come id words tries.1 (xs ++ first ∷ []) tries.3 in (
      first ∷ more.0,
      ap (fold after_round xs) tries.2 ∙ more.1 ∙ append_assoc xs (first ∷ []) more.0,
      ap (λ (l : List ℕ). word ∷ l) more.2,
      (try_settled tries.0, more.3),
    )

-- an emitter's list grew by them
pub each_tried : (words : List ℕ) (e f : Emitting) → TriesEach words e f → WereTried (emitted e) words (emitted f)
each_tried words e f tries =
    let grew : emitted f ≡ fold after_round (emitted e) tries.0 = ap emitted_in tries.2 ∙ fold-append after_round [] e.party.rounds tries.0 in
    subst (WereTried (emitted e) words) (sym grew) (tries_come e.id words tries.0 (emitted e) tries.1)

-- ---- which policy drops

new_one : (made : SharedSeen) (log : Rounds) (now : SharedSeen) → IsLeftBy made log now → IsNew made
new_one made log now (first_one s new) = new
new_one made log now (one_more first before s pass r t after does) = new_one first before s after

pub shape_is : (config : Config) (p q : Party) (number : ℕ) (r : ReaderSeen) → IsMadeWith config p.flow → WasAdmittedBy number r p q → r.shape ≡ shape_of config
shape_is config p q number r with admission =
    let made = admission.made.saw.made in
    let found_is : admission.made.found.name ≡ with.0 = same_Some _ _ (sym admission.flow_is ∙ with.1) in
    let made_is : made.name ≡ with.0 = same_Some _ _ (sym admission.made.saw.flow_is ∙ with.1) in
    let guarded = (new_one made admission.made.before admission.made.found admission.made.saw.after).0 in
    let was = admission.admitted.5.1 in
    was.of_lane.1 ∙ ap (λ (name : FlowName). name.lane.shape) (found_is ∙ sym made_is) ∙ sym guarded.0.1 ∙ guarded.1.4
    ∙ ap shape_of (ap (λ (name : FlowName). name.config) made_is ∙ with.2)

pub keeps_all : (policy : Policy) → policy ≢ DropOldest → drops_values policy ≡ false
keeps_all Suspend not = refl
keeps_all DropOldest not = absurd (not refl)
keeps_all DropLatest not = refl
