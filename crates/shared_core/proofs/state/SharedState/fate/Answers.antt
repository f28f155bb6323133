use Rattle.std.proofs.Common.{ℕ, List, ◌⊎◌, inl, inr, true, false, cond, ◌≡◌, ◌≢◌, ◌∙◌, sym, ap, refl, subst, length, arith}
use Rattle.shared_core.specs.Kept.{overflow_of}
use Rattle.shared_core.proofs.Emitting.{is_held_up, is_handed, by_room}
use Rattle.shared_core.proofs.Ticketing.{count_waiting}
use Rattle.shared_core.specs.declared.state.emissions.Fate.{Fate}
use Rattle.shared_core.specs.declared.state.emissions.Fate.TheVariants.{Enters, PushesIn, Dropped, HeldUp}
use Rattle.shared_core.specs.Flow.{capacity, suspend, drop_oldest, drop_latest}
use Rattle.shared_core.specs.Calls.{enters, without_room}
use Rattle.shared_core.specs.Shown.{Seen}
use Rattle.shared_core.specs.Accepting.{waiting_in, room_in, fate_in, HasFate}
use Rattle.shared_core.proofs.state.SharedState.fate.Goals as goal
use Rattle.shared_core.proofs.state.SharedState.fate.Goals.{then-len-gt0-via-then-len-gt0, then-len-gt0-via-else-len-gt0+then-not-has_room}

-- a subscription is live
some_live : {X : Type 0} (live : List X) (n : ℕ) → n ≡ length live → n ≢ 0 → length live ≢ 0
some_live live n count some none = some (count ∙ none)

pub returns-then-len-gt0-clause-fate : goal.returns-then-len-gt0-clause-fate
returns-then-len-gt0-clause-fate g c =
    let behind = count_waiting c.self.inside.accepted.values c.self.inside.waiting.values in
    let held : (waiting_in c.args.self.now ≢ 0) ⊎ (room_in c.args.self.now ≡ false) =
    elim c.then-len-gt0.branch [
      | then-len-gt0-via-then-len-gt0 w ↦ rw (← c.self.view_is) (inl (λ none. omega (arith, behind, none, c.len.ensures.count, w.if-len-gt0.true)))
      | then-len-gt0-via-else-len-gt0+then-not-has_room w ↦ inr (sym w.has_room.ensures.room ∙ w.if-not-has_room.true)
    ] in
    rw (← c.self.view_is)
    (sym (is_held_up _ _ _ _ (overflow_of c.self.inside.config.policy) (some_live c.self.inside.ring.live c.live_len.result c.live_len.ensures.count c.if-live_len-eq0.false) c.if-self-eq0.true
    (rw (← c.self.view_is) at held)))

pub returns-then-self-eq0-clause-fate : goal.returns-then-self-eq0-clause-fate
returns-then-self-eq0-clause-fate g c =
    let room = rw (← c.self.view_is) at (sym c.has_room.ensures.room ∙ c.if-not-has_room.false) in
    rw (← c.self.view_is, room)
    (sym (is_handed _ _ _ (overflow_of c.self.inside.config.policy) (some_live c.self.inside.ring.live c.live_len.result c.live_len.ensures.count c.if-live_len-eq0.false) c.if-self-eq0.true
    (omega (arith, count_waiting c.self.inside.accepted.values c.self.inside.waiting.values, c.len.ensures.count, c.if-len-gt0.false))))

-- where room decides, the emission enters, or comes to what it does without room
room_decides : {T : Type 0} (seen : Seen T) (full : Fate) → fate_in seen ≡ cond (room_in seen) enters (without_room seen.parameters.overflow)
    → (without_room seen.parameters.overflow ≡ fate_in seen → HasFate seen full) → HasFate seen (cond (room_in seen) Enters full)
room_decides seen full is otherwise =
    elim (room_in seen) as (λ b. room_in seen ≡ b → HasFate seen (cond b Enters full)) [
      | true ↦ λ room. sym (is ∙ ap (λ b. cond b enters (without_room seen.parameters.overflow)) room)
      | false ↦ λ none. otherwise (sym (is ∙ ap (λ b. cond b enters (without_room seen.parameters.overflow)) none))
    ] refl

-- beside the policy that drops the oldest value, an emission that has room may push in as well
pushes_anyway : {T : Type 0} (seen : Seen T) → fate_in seen ≡ cond (room_in seen) enters (without_room seen.parameters.overflow) → seen.parameters.overflow ≡ drop_oldest → HasFate seen PushesIn
pushes_anyway seen is drops =
    elim (room_in seen) as (λ b. room_in seen ≡ b → HasFate seen PushesIn) [
      | true ↦ λ room. inr (sym (is ∙ ap (λ b. cond b enters (without_room seen.parameters.overflow)) room), room)
      | false ↦ λ none. inl (sym (is ∙ ap (λ b. cond b enters (without_room seen.parameters.overflow)) none ∙ ap without_room drops))
    ] refl

-- somebody is live and there are places, so room decides
decided : {T : Type 0} (view now : Seen T) → view ≡ now → length view.live ≢ 0 → capacity view.parameters ≢ 0
    → fate_in now ≡ cond (room_in now) enters (without_room now.parameters.overflow)
decided view now is some places =
    ap fate_in (sym is) ∙ by_room (length view.live) (capacity view.parameters) (waiting_in view) (room_in view) view.parameters.overflow some places
    ∙ ap (λ (seen : Seen _). cond (room_in seen) enters (without_room seen.parameters.overflow)) is

pub returns-in-Suspend-clause-fate : goal.returns-in-Suspend-clause-fate
returns-in-Suspend-clause-fate g c =
    let now = c.args.self.now in
    let overflow : now.parameters.overflow ≡ suspend = ap (λ (seen : Seen _). seen.parameters.overflow) (sym c.self.view_is) ∙ ap overflow_of c.in-Suspend.is in
    subst (HasFate now) (sym c.enters_or.ensures.fate)
    (room_decides now HeldUp (decided _ now c.self.view_is (some_live c.self.inside.ring.live c.live_len.result c.live_len.ensures.count c.if-live_len-eq0.false) c.if-self-eq0.false)
    (λ is. ap without_room (sym overflow) ∙ is))

pub returns-in-DropLatest-clause-fate : goal.returns-in-DropLatest-clause-fate
returns-in-DropLatest-clause-fate g c =
    let now = c.args.self.now in
    let overflow : now.parameters.overflow ≡ drop_latest = ap (λ (seen : Seen _). seen.parameters.overflow) (sym c.self.view_is) ∙ ap overflow_of c.in-DropLatest.is in
    subst (HasFate now) (sym c.enters_or-in-DropLatest.ensures.fate)
    (room_decides now Dropped (decided _ now c.self.view_is (some_live c.self.inside.ring.live c.live_len.result c.live_len.ensures.count c.if-live_len-eq0.false) c.if-self-eq0.false)
    (λ is. ap without_room (sym overflow) ∙ is))

pub returns-in-DropOldest-clause-fate : goal.returns-in-DropOldest-clause-fate
returns-in-DropOldest-clause-fate g c =
    let now = c.args.self.now in
    let overflow : now.parameters.overflow ≡ drop_oldest = ap (λ (seen : Seen _). seen.parameters.overflow) (sym c.self.view_is) ∙ ap overflow_of c.in-DropOldest.is in
    pushes_anyway now (decided _ now c.self.view_is (some_live c.self.inside.ring.live c.live_len.result c.live_len.ensures.count c.if-live_len-eq0.false) c.if-self-eq0.false) overflow
