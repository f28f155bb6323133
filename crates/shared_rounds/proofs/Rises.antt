-- Who sleeps, where one is parked and where some are woken.
use Rattle.std.proofs.Common.{◌≡◌, ◌≢◌, ◌⊎◌, ◌+◌, ◌↔◌, ℕ, zero, suc, Bool, true, false, List, [], ◌∷◌, Option, Some, None, refl, sym, ◌∙◌, ap, subst, inl, inr, if◌then◌else◌, slice_index_or, IsSome, ⊎_elim}
use Rattle.std.specs.Borrow.{MutBor}
use Rattle.std.proofs.lemmas.Bool.{cases_eq}
use Rattle.std.proofs.lemmas.Option.{none-some, same_Some}
use Rattle.futures.specs.declared.task.waker.Waker.{Waker}
use Rattle.slab.specs.Slab.{Slab, RetainsFrom, CalledAt, get, with_value}
use Rattle.slab.proofs.SlabLemmas.{Updates-with_value}
use Rattle.shared_lane.specs.Polls.{IsNotOut, IsOutFor}
use Rattle.shared_lane.specs.Views.{SequencerSeen}
use Rattle.shared_rounds.specs.declared.wait_list.Sleeper.{Sleeper}
use Rattle.shared_rounds.specs.Sleeping.{SleepsAt, HasNumber, OnlyThese, Parks, StayBut}

-- who sleeps under a key sleeps there still with another waker
pub sleeps_still : (sleeping : Slab Sleeper) (wait_key : Option ℕ) (number key : ℕ) (sleeper : Sleeper) (waker : Option Waker)
    → SleepsAt sleeping wait_key number → wait_key ≡ Some key → get sleeping key ≡ Some sleeper
    → SleepsAt (with_value sleeping key (record { number = sleeper.number; waker = waker })) wait_key number
sleeps_still sleeping wait_key number key sleeper waker at is read =
    let same : at.0 ≡ key = same_Some _ _ (sym at.2 ∙ is) in
    let found : at.1 ≡ sleeper = same_Some _ _ (sym at.3 ∙ ap (get sleeping) same ∙ read) in
    let after : Sleeper = record { number = sleeper.number; waker = waker } in
    (key, after, is, (Updates-with_value sleeping key after (subst IsSome (sym read) refl)).changed, ap (λ s. s.number) (sym found) ∙ at.4)

-- this key, or another
pub same_key : (wait_key : Option ℕ) (key : ℕ) → (wait_key ≡ Some key) ⊎ (wait_key ≢ Some key)
same_key None key = inr (λ is. none-some key is)
same_key (Some own) key = ⊎_elim (λ is. inl (ap Some is)) (λ other. inr (λ is. other (same_Some own key is))) (cases_eq own key)

-- and stays there
pub asleep_still : (old mid new : Slab Sleeper) (number : ℕ) (wait_key : Option ℕ) → Parks number old mid → SleepsAt mid wait_key number → SleepsAt new wait_key number → StayBut wait_key mid new → Parks number old new
asleep_still old mid new number wait_key lies was is others key =
    ⊎_elim
    (λ own. let same = same_Some _ _ (sym was.2 ∙ own) in let still = same_Some _ _ (sym is.2 ∙ own) in
    let before : HasNumber (get mid key) number = (was.1, ap (get mid) (sym same) ∙ was.3, was.4) in
    let after : HasNumber (get new key) number = (is.1, ap (get new) (sym still) ∙ is.3, is.4) in
    inr (after, ⊎_elim (λ there. inr (before.0, sym there ∙ before.1, before.2)) (λ lay. lay.1) (lies key)))
    (λ other. let stays = others key other in ⊎_elim (λ same. inl (stays ∙ same)) (λ lay. inr ((lay.0.0, stays ∙ lay.0.1, lay.0.2), lay.1)) (lies key))
    (same_key wait_key key)

-- all sleep on but the one that was ended
pub ended_only : (ended : Option ℕ) (number : ℕ) (old new : Slab Sleeper) → ended ≡ Some number → OnlyThese (λ n. n ≢ number) old new → OnlyThese (λ n. ended ≢ Some n) old new
ended_only ended number old new is only key sleeper = (
  λ now. let was = (only key sleeper).0 now in (was.0, λ same. was.1 (same_Some _ _ (sym same ∙ is))),
  λ was. (only key sleeper).1 (was.0, λ same. was.1 (is ∙ ap Some (sym same))),
)

-- a ticket that isn't out is out for nobody
pub not_out : (q : SequencerSeen) (ticket emitter : ℕ) → IsNotOut q ticket → IsOutFor q ticket emitter → ⊥
not_out q ticket emitter not (inl waits) = not.0 waits.0 waits.1 waits.2.0 waits.2.1
not_out q ticket emitter not (inr stands) = not.1 stands.0 stands.1 stands.2.0 stands.2.1

module _ (Keeps : ℕ → Type 0) where
  by_answer : (keep : Bool) (old new sleeper : Sleeper) → (keep ≡ true → new ≡ old) → (keep ≡ true → Keeps old.number) → (keep ≡ false → Keeps old.number → ⊥)
      → ((if keep then Some new else None) ≡ Some sleeper) ↔ ((Some old ≡ Some sleeper) × Keeps sleeper.number)
  by_answer true old new sleeper same stays goes = (
    λ now. let is : old ≡ sleeper = sym (same refl) ∙ same_Some _ _ now in (ap Some is, subst Keeps (ap (λ s. s.number) is) (stays refl)),
    λ was. ap Some (same refl ∙ same_Some _ _ was.0),
  )
  by_answer false old new sleeper same stays goes = (
    λ now. absurd (none-some _ now),
    λ was. absurd (goes refl (subst Keeps (ap (λ s. s.number) (sym (same_Some _ _ was.0))) was.1)),
  )

module _ {F : Type 0} (step : F → ℕ → MutBor Sleeper → Bool → MutBor Sleeper → F → Type 0) (Stays : F → Type 0) (Keeps : ℕ → Type 0)
    (each : (f : F) (key : ℕ) (old : Sleeper) (keep : Bool) (new : Sleeper) (next : F) → Stays f → CalledAt step f key old keep new next
    → Stays next × (keep ≡ true → new ≡ old) × (keep ≡ true → Keeps old.number) × (keep ≡ false → Keeps old.number → ⊥)) where
  -- where each call keeps those of whom this holds, as they are, they are left, each in its slot
  pub others_left : (f : F) (key : ℕ) (slots left : List (Option Sleeper)) → Stays f → RetainsFrom step f key slots left
      → (at : ℕ) (sleeper : Sleeper) → (slice_index_or left at None ≡ Some sleeper) ↔ ((slice_index_or slots at None ≡ Some sleeper) × Keeps sleeper.number)
  others_left f key [] left stays ran at sleeper = rw ran (λ now. absurd (none-some _ now), λ was. absurd (none-some _ was.0))
  others_left f key (None ∷ rest) left stays ran zero sleeper = rw ran.1 (λ now. absurd (none-some _ now), λ was. absurd (none-some _ was.0))
  others_left f key (None ∷ rest) left stays ran (suc at) sleeper = rw ran.1 (others_left f (key + 1) rest ran.0 stays ran.2 at sleeper)
  others_left f key (Some old ∷ rest) left stays ran zero sleeper =
      let one = each f key old ran.0 ran.1 ran.2 stays ran.3 in
      rw ran.5 (by_answer Keeps ran.0 old ran.1 sleeper one.1 one.2 one.3)
  others_left f key (Some old ∷ rest) left stays ran (suc at) sleeper =
      let one = each f key old ran.0 ran.1 ran.2 stays ran.3 in
      rw ran.5 (others_left ran.2 (key + 1) rest ran.4 one.0 ran.6 at sleeper)

  pub only_these : (f : F) (old new : Slab Sleeper) → Stays f → RetainsFrom step f 0 old.slots new.slots → OnlyThese Keeps old new
  only_these f old new stays ran key sleeper = others_left f 0 old.slots new.slots stays ran key sleeper
