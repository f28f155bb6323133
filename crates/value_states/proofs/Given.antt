-- What a watcher was given.
use Rattle.std.proofs.Common.{◌≡◌, ℕ, ◌+◌, ◌<◌, ◌≤◌, Option, Some, None, List, [], ◌∷◌, ◌++◌, length, refl, sym, ap, ◌∙◌, subst, arith, append_assoc, append-nil, length-append}
use Rattle.std.specs.Prelude.{Bool, true, false}
use Rattle.std.specs.List.{All}
use Rattle.std.proofs.lemmas.List.Elements.{All-nil, All-push, All-same, All-weaker}
use Rattle.std.proofs.lemmas.List.Quantifiers.{all_pairs_push}
use Rattle.round_lock.specs.Locking.{Locking}
use Rattle.value_states.specs.declared.round.Round.{Round}
use Rattle.value_states.specs.declared.round.Round.TheVariants as round
use Rattle.value_states.specs.declared.versioned.Versioned.{Versioned}
use Rattle.value_states.specs.History.{history_after, IsLast}
use Rattle.value_states.specs.Calls.{history, Holds, holding, giving}
use Rattle.value_states.specs.Watching.{given_in, version_by, IsLatest, IsNewer, IsPicked, Keeps, LatestIs, Gives, Misses, Takes}
use Rattle.value_states.proofs.Calling.{gave}
use Rattle.value_states.proofs.Histories.{history_prefix, history_stays}

-- a version that isn't above the one that was given last
abbrev pub IsKnown : Option ℕ → ℕ → Type 0
IsKnown None version = ⊥
IsKnown (Some latest) version = version ≤ latest

not_less : (latest version : ℕ) → ¬ (latest < version) → version ≤ latest
not_less latest version above = omega arith

-- a version that isn't newer
pub known_of : (latest : Option ℕ) (version : ℕ) (b : Bool) → (IsNewer latest version → b ≡ true) → b ≡ false → IsKnown latest version
known_of None version b must is = let yes = must tt in cc
known_of (Some latest) version b must is = not_less latest version (λ less. let yes = must less in cc)

given_more : (calls : List Round) (r : Round) → given_in (calls ++ r ∷ []) ≡ given_in calls ++ version_by r
given_more [] r = append-nil (version_by r)
given_more (s ∷ calls) r = ap (λ (l : List ℕ). version_by s ++ l) (given_more calls r) ∙ sym (append_assoc (version_by s) (given_in calls) (version_by r))

-- a call that gives nothing
given_stays : (calls : List Round) (r : Round) → version_by r ≡ [] → given_in (calls ++ r ∷ []) ≡ given_in calls
given_stays calls r none = given_more calls r ∙ ap (λ (l : List ℕ). given_in calls ++ l) none ∙ append-nil (given_in calls)

-- a version above the last one is above all
pub above_all : (latest : Option ℕ) (versions : List ℕ) (count version : ℕ) → LatestIs latest versions count → IsNewer latest version → All (λ given. given < version) versions
above_all None versions count version is newer = All-same (λ given. given < version) versions [] is (All-nil (λ given. given < version))
above_all (Some latest) versions count version is newer = All-weaker (λ given. given ≤ latest) (λ given. given < version) (λ given le. omega arith) versions is.1

-- one that isn't is the last one, where there are no versions beyond it
pub is_latest : (latest : Option ℕ) (versions : List ℕ) (count version : ℕ) → LatestIs latest versions count → IsKnown latest version → count ≤ version + 1 → IsLatest versions version
is_latest None versions count version is known few = absurd known
is_latest (Some latest) versions count version is known few =
    let below = is.2 in
    let same : latest ≡ version = omega arith in
    subst (IsLatest versions) same is.0

latest_on : (latest : Option ℕ) (versions : List ℕ) (count more : ℕ) → LatestIs latest versions count → count ≤ more → LatestIs latest versions more
latest_on None versions count more is le = is
latest_on (Some latest) versions count more is le = let below = is.2 in (is.0, is.1, omega arith)

latest_more : (versions : List ℕ) (version count : ℕ) → All (λ given. given < version) versions → version < count → LatestIs (Some version) (versions ++ version ∷ []) count
latest_more versions version count newer below = (
  (versions, refl),
  All-push (λ given. given ≤ version) versions version (All-weaker (λ given. given < version) (λ given. given ≤ version) (λ given less. omega arith) versions newer) (omega arith),
  below,
)

module _ {T : Type 0} where
  picked_on : (versions : List ℕ) (history longer : List T) → IsPicked versions history → length history ≤ length longer → IsPicked versions longer
  picked_on versions history longer picked le = record {
    rising = picked.rising;
    within = All-weaker (λ version. version < length history) (λ version. version < length longer) (λ version less. omega arith) versions picked.within;
  }

  picked_more : (versions : List ℕ) (version : ℕ) (history : List T) → IsPicked versions history → All (λ given. given < version) versions → version < length history → IsPicked (versions ++ version ∷ []) history
  picked_more versions version history picked newer below = record {
    rising = all_pairs_push (λ earlier later. earlier < later) versions version picked.rising newer;
    within = All-push (λ given. given < length history) versions version picked.within below;
  }

  -- the last value's place is in the history, and is the last of it
  last_counts : (history : List T) (state : Versioned T) → IsLast history state → length history ≡ state.version + 1
  last_counts history state last = let count = ap length last.last ∙ length-append last.earlier (state.value ∷ []) in let place = last.version in omega arith

  -- who made no call was given nothing
  pub keeps_none : (owner : Locking (Versioned T) Round) → owner.log.own ≡ [] → Keeps owner None
  keeps_none owner none =
      let P : List ℕ → Type 0 = λ versions. IsPicked versions (history owner) × (versions ≡ []) in
      let empty : IsPicked [] (history owner) = record { rising = λ i j d less below. absurd (omega arith); within = All-nil (λ version. version < length (history owner)) } in
      let all = subst P (sym (ap given_in none)) (empty, refl) in
      record { picked = all.0; latest_is = all.1 }

  -- who takes the lock keeps what it knew
  pub keeps_taken : (before taken : Locking (Versioned T) Round) (state : Versioned T) (latest : Option ℕ) → Keeps before latest → Holds before state taken → Keeps taken latest
  keeps_taken before taken state latest keeps has =
      let le : length (history before) ≤ length (history_after before.log.made taken.log.seen) = history_prefix before.log.made taken.log.seen before.log.seen has.finds.seen in
      let held : Keeps (holding state taken.log.seen before) latest = record {
        picked = picked_on (given_in before.log.own) (history before) (history_after before.log.made taken.log.seen) keeps.picked le;
        latest_is = latest_on latest (given_in before.log.own) (length (history before)) (length (history_after before.log.made taken.log.seen)) keeps.latest_is le;
      } in
      subst (λ (o : Locking (Versioned T) Round). Keeps o latest) (sym has.only) held

  -- and so does who gives it up after a read
  pub keeps_read : (taken after : Locking (Versioned T) Round) (state : Versioned T) (latest : Option ℕ) → Keeps taken latest → after ≡ giving round.Read state taken → Keeps after latest
  keeps_read taken after state latest keeps given =
      let same_given = given_stays taken.log.own round.Read refl in
      let same_history = history_stays taken.log.made taken.log.seen (taken.pass, round.Read, state) refl in
      let P : List ℕ → List T → Type 0 = λ versions values. IsPicked versions values × LatestIs latest versions (length values) in
      let all : P (given_in (taken.log.own ++ round.Read ∷ [])) (history_after taken.log.made (taken.log.seen ++ (taken.pass, round.Read, state) ∷ [])) =
      subst (λ versions. P versions (history_after taken.log.made (taken.log.seen ++ (taken.pass, round.Read, state) ∷ []))) (sym same_given)
      (subst (P (given_in taken.log.own)) (sym same_history) (keeps.picked, keeps.latest_is)) in
      let left : Keeps (giving round.Read state taken) latest = record { picked = all.0; latest_is = all.1 } in
      subst (λ (o : Locking (Versioned T) Round). Keeps o latest) (sym given) left

  -- who gave the value has given its version last
  pub keeps_given : (taken after : Locking (Versioned T) Round) (state : Versioned T) (latest : Option ℕ) → Keeps taken latest → All (λ given. given < state.version) (given_in taken.log.own) → IsLast (history taken) state → after ≡ giving (round.Give state.version) state taken → Keeps after (Some state.version)
  keeps_given taken after state latest keeps newer last given =
      let more = given_more taken.log.own (round.Give state.version) in
      let same_history = history_stays taken.log.made taken.log.seen (taken.pass, round.Give state.version, state) refl in
      let count = last_counts (history taken) state last in
      let below : state.version < length (history taken) = omega arith in
      let P : List ℕ → List T → Type 0 = λ versions values. IsPicked versions values × LatestIs (Some state.version) versions (length values) in
      let all : P (given_in (taken.log.own ++ round.Give state.version ∷ [])) (history_after taken.log.made (taken.log.seen ++ (taken.pass, round.Give state.version, state) ∷ [])) =
      subst (λ versions. P versions (history_after taken.log.made (taken.log.seen ++ (taken.pass, round.Give state.version, state) ∷ []))) (sym more)
      (subst (P (given_in taken.log.own ++ state.version ∷ [])) (sym same_history) (
        picked_more (given_in taken.log.own) state.version (history taken) keeps.picked newer below,
        latest_more (given_in taken.log.own) state.version (length (history taken)) newer below,
      )) in
      let left : Keeps (giving (round.Give state.version) state taken) (Some state.version) = record { picked = all.0; latest_is = all.1 } in
      subst (λ (o : Locking (Versioned T) Round). Keeps o (Some state.version)) (sym given) left

  pub keeps_gave : (before : Locking (Versioned T) Round) (state : Versioned T) (taken after : Locking (Versioned T) Round) (latest : Option ℕ) → Keeps taken latest → Takes before state taken → after ≡ giving (round.Give state.version) state taken → Keeps after (Some state.version)
  keeps_gave before state taken after latest keeps takes given =
      let own : taken.log.own ≡ before.log.own = ap (λ (o : Locking (Versioned T) Round). o.log.own) takes.holds.only in
      let made : taken.log.made ≡ before.log.made = ap (λ (o : Locking (Versioned T) Round). o.log.made) takes.holds.only in
      keeps_given taken after state latest keeps
      (subst (λ (calls : List Round). All (λ given. given < state.version) (given_in calls)) (sym own) takes.newer)
      (subst (λ (first : Option (Versioned T)). IsLast (history_after first taken.log.seen) state) (sym made) takes.holds.finds.last)
      given

  -- who has taken the lock for a value gave it
  pub gives : (before : Locking (Versioned T) Round) (state : Versioned T) (taken after : Locking (Versioned T) Round) (latest : Option ℕ) → Takes before state taken → after ≡ giving (round.Give state.version) state taken → Keeps after latest → Gives before state.value after
  gives before state taken after latest takes given keeps =
      let only = gave before state taken after state (round.Give state.version) takes.holds given in record {
        calls = taken.log.seen;
        version = state.version;
        finds = takes.holds.finds;
        newer = takes.newer;
        only = only;
        same_history = ap history only ∙ history_stays before.log.made taken.log.seen (before.pass, round.Give state.version, state) refl;
        picked = keeps.picked;
      }

  -- what was found is new to the watcher
  pub takes : (before taken : Locking (Versioned T) Round) (state : Versioned T) (latest : Option ℕ) → Keeps before latest → Holds before state taken → IsNewer latest state.version → Takes before state taken
  takes before taken state latest keeps has newer = record {
    holds = has;
    newer = above_all latest (given_in before.log.own) (length (history before)) state.version keeps.latest_is newer;
  }

  -- what was found is what the watcher was given last
  pub misses : (before : Locking (Versioned T) Round) (state : Versioned T) (taken after : Locking (Versioned T) Round) (latest : Option ℕ) → Keeps before latest → Holds before state taken → IsKnown latest state.version → after ≡ giving round.Read state taken → Misses before after
  misses before state taken after latest keeps has known given =
      let only = gave before state taken after state round.Read has given in
      let le : length (history before) ≤ length (history_after before.log.made taken.log.seen) = history_prefix before.log.made taken.log.seen before.log.seen has.finds.seen in
      let count = last_counts (history_after before.log.made taken.log.seen) state has.finds.last in record {
        calls = taken.log.seen;
        state = state;
        finds = has.finds;
        latest = is_latest latest (given_in before.log.own) (length (history before)) state.version keeps.latest_is known (omega arith);
        only = only;
        same_history = ap history only ∙ history_stays before.log.made taken.log.seen (before.pass, round.Read, state) refl;
      }
