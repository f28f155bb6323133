-- Which policy is left.
use Rattle.std.proofs.Common.{rules, arith, ◌≡◌, ◌≢◌, ℕ, suc, List, [], ◌∷◌, length, true, false, true≢false, sym, refl}
use Rattle.std.specs.Bool.{◌==◌}
use Rattle.shared_lane.specs.declared.view.View.{View}
use Rattle.flow_terms.specs.declared.policy.Policy.{Policy}
use Rattle.flow_terms.specs.declared.policy.Policy.TheVariants.{Suspend, DropOldest, DropLatest}
use Rattle.shared_lane.specs.Views.{SequencerSeen}
use Rattle.shared_lane.specs.Caches.{may_wait}
use Rattle.shared_lane.specs.Sequencers.{PassedBy}

pub is_empty : {A : Type 0} (l : List A) → (length l == 0) ≡ true → l ≡ []
is_empty [] e = refl
is_empty (x ∷ xs) e = let h : suc (length xs) ≡ 0 = search (rules, e) in absurd (omega arith)

pub not_empty : {A : Type 0} (l : List A) → false ≡ (length l == 0) → l ≢ []
not_empty [] e = absurd (true≢false (sym e))
not_empty (x ∷ xs) e = λ h. absurd (cc)

pub must_wait : (p : Policy) → (may_wait p ≡ false → ⊥) → p ≡ Suspend
must_wait Suspend h = refl
must_wait DropOldest h = absurd (h refl)
must_wait DropLatest h = absurd (h refl)

pub left_suspend : (p : Policy) (lag : ℕ) (q : SequencerSeen) (v : View) → (p ≡ DropLatest → ⊥) → PassedBy p lag q false v → p ≡ Suspend
left_suspend Suspend lag q v h r = refl
left_suspend DropOldest lag q v h r = absurd (true≢false (sym r.0))
left_suspend DropLatest lag q v h r = absurd (h refl)

pub left_latest : (p : Policy) (lag : ℕ) (q : SequencerSeen) (v : View) → (p ≡ Suspend → ⊥) → PassedBy p lag q false v → p ≡ DropLatest
left_latest Suspend lag q v h r = absurd (h refl)
left_latest DropOldest lag q v h r = absurd (true≢false (sym r.0))
left_latest DropLatest lag q v h r = refl
