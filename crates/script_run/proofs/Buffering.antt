-- What the calls of a buffer make of the buffers that it stands for.
use Rattle.std.proofs.Common.{◌≡◌, ℕ, ◌<◌, ◌==◌, Bool, true, false, List, [], ◌∷◌, ◌++◌, length, map, Option, Some, None, inl, inr, refl, sym, ap, subst, ◌∙◌, arith, rules}
use Rattle.std.specs.Prelude.{◌≢◌, ◌⊎◌}
use Rattle.std.proofs.lemmas.Bool.{ne_eqb}
use Rattle.std.proofs.lemmas.List.{length-map}
use Rattle.futures.specs.declared.task.Poll.{Poll}
use Rattle.futures.specs.declared.task.Poll.TheVariants as polls
use Rattle.cold_flow.specs.declared.cause.Cause.{Cause}
use Rattle.cold_flow.specs.declared.event.Event.{Event}
use Rattle.cold_flow.specs.declared.event.Event.TheVariants as events
use Rattle.flow_terms.specs.declared.policy.Policy.{Policy}
use Rattle.flow_terms.specs.declared.policy.Policy.TheVariants.{Suspend, DropOldest, DropLatest}
use Rattle.cold_flow.specs.Laws.{ended-begins}
use Rattle.cold_flow.specs.Poll.{Traces, Within, After, Fixes}
use Rattle.cold_flow.specs.Trace.{Trace, ◌⊑◌, so_far, ended_by, led_by}
use Rattle.flow_buffer.specs.declared.ending.Ending.{Ending}
use Rattle.flow_buffer.specs.declared.ending.Ending.TheVariants.{Going, Kept, Given}
use Rattle.flow_terms.specs.declared.fill.Fill.{Fill}
use Rattle.flow_terms.specs.declared.fill.Fill.TheVariants as fills
use Rattle.flow_buffer.specs.declared.side.Fate.TheVariants as fates
use Rattle.flow_buffer.specs.declared.store.Store.{Store}
use Rattle.flow_buffer.specs.Buffered.{Fills, Takes, Produces}
use Rattle.flow_buffer.specs.Contents.{Contents, nothing, stored_of, produced, turned}
use Rattle.flow_buffer.specs.Endings.{seen}
use Rattle.flow_buffer.specs.Stored.{IsStuck}
use Rattle.flow_buffer.specs.Stored as stored
use Rattle.script_run.specs.Buffers.{Buffering, is_full, waits, waits_by, put_by, filled, taken}
use Rattle.script_run.specs.Buffered.{Holds}

-- ---- what the source gave was what came next

no_value : (x : ℕ) (cause : Cause ℕ) → led_by x (so_far []) ⊑ ended_by [] cause → ⊥
no_value x cause (inl e) = (let ends : None ≡ Some cause = ap (λ (t : Trace ℕ ℕ). t.1) e in cc)
no_value x cause (inr h) = (let values : x ∷ h.1.0 ≡ [] = h.1.1 in cc)

first_value : (x y : ℕ) (later : List ℕ) (cause : Cause ℕ) → led_by x (so_far []) ⊑ ended_by (y ∷ later) cause → x ≡ y
first_value x y later cause (inl e) = (let ends : None ≡ Some cause = ap (λ (t : Trace ℕ ℕ). t.1) e in cc)
first_value x y later cause (inr h) = (let values : x ∷ h.1.0 ≡ y ∷ later = h.1.1 in cc)

rest_begins : (x y : ℕ) (t : Trace ℕ ℕ) (later : List ℕ) (cause : Cause ℕ) → led_by x t ⊑ ended_by (y ∷ later) cause → t ⊑ ended_by later cause
rest_begins x y (values, end) later cause (inl e) =
    let all : x ∷ values ≡ y ∷ later = ap (λ (t : Trace ℕ ℕ). t.0) e in
    let ends : end ≡ Some cause = ap (λ (t : Trace ℕ ℕ). t.1) e in
    let same : values ≡ later = cc in
    inl (ap (λ vs. (vs, end)) same ∙ ap (λ k. (later, k)) ends)
rest_begins x y (values, end) later cause (inr h) =
    let all : x ∷ (values ++ h.1.0) ≡ y ∷ later = h.1.1 in
    inr (h.0, (h.1.0, cc))

-- what a source is fixed to, after it gave x
record Next (x y : ℕ) (later : List ℕ) (cause : Cause ℕ) (may : Traces ℕ ℕ) : Type 0 where
  is : x ≡ y
  fixes : Fixes (ended_by later cause) may

next_value : (x y : ℕ) (later : List ℕ) (cause : Cause ℕ) (old new : Traces ℕ ℕ) → Fixes (ended_by (y ∷ later) cause) old → After old x new → new (so_far []) → Next x y later cause new
next_value x y later cause old new fixed gives begins = record {
  is = first_value x y later cause (fixed (led_by x (so_far [])) (gives (so_far []) begins));
  fixes = λ t came. rest_begins x y t later cause (fixed (led_by x t) (gives t came));
}

none_comes : (x : ℕ) (cause : Cause ℕ) (old new : Traces ℕ ℕ) → Fixes (ended_by [] cause) old → After old x new → new (so_far []) → ⊥
none_comes x cause old new fixed gives begins = no_value x cause (fixed (led_by x (so_far [])) (gives (so_far []) begins))

end_comes : (coming : List ℕ) (cause k : Cause ℕ) (may : Traces ℕ ℕ) → Fixes (ended_by coming cause) may → may (ended_by [] k) → ([] ≡ coming) × (k ≡ cause)
end_comes coming cause k may fixed came =
    let e : ended_by [] k ≡ ended_by coming cause = ended-begins [] k (ended_by coming cause) (fixed (ended_by [] k) came) in
    let ends : Some k ≡ Some cause = ap (λ (t : Trace ℕ ℕ). t.1) e in
    (ap (λ (t : Trace ℕ ℕ). t.0) e, cc)

-- ---- full or not

held_count : (s : Store ℕ ℕ) (c : Contents ℕ) → stored.Shows s c → length (stored_of c) ≡ length s.held.items
held_count s c shows = sym (length-map (stored_of c) (λ e. e.1)) ∙ ap length shows.values

eqb_same : (a b : ℕ) → a ≡ b → (a == b) ≡ true
eqb_same a b e = search (rules, e)

not_waiting_by : (p : Policy) (c : Contents ℕ) → is_full c ≡ false → waits_by p c ≡ false
not_waiting_by Suspend c h = h
not_waiting_by DropOldest c h = refl
not_waiting_by DropLatest c h = refl

unstuck_by : (p : Policy) (c : Contents ℕ) → ((p ≡ Suspend) → (length (stored_of c) ≡ c.capacity) → ⊥) → waits_by p c ≡ false
unstuck_by Suspend c h = ne_eqb (length (stored_of c)) c.capacity (h refl)
unstuck_by DropOldest c h = refl
unstuck_by DropLatest c h = refl

unstuck : (s : Store ℕ ℕ) (c : Contents ℕ) → stored.Shows s c → (IsStuck s → ⊥) → waits c ≡ false
unstuck s c shows free = unstuck_by c.policy c (λ policy full. free (sym shows.policy ∙ policy, sym (held_count s c shows) ∙ full ∙ shows.capacity))

stuck : (s : Store ℕ ℕ) (c : Contents ℕ) → stored.Shows s c → IsStuck s → waits c ≡ true
stuck s c shows is =
    ap (λ p. waits_by p c) (shows.policy ∙ is.0) ∙ eqb_same (length (stored_of c)) c.capacity (held_count s c shows ∙ is.1 ∙ sym shows.capacity)

none_held : (xs : List (ℕ × ℕ)) → map (λ e. e.1) xs ≡ [] → xs ≡ []
none_held [] e = refl
none_held (x ∷ xs) e = cc

none_stored_of : (s : Store ℕ ℕ) (c : Contents ℕ) → stored.Shows s c → s.held.items ≡ [] → stored_of c ≡ []
none_stored_of s c shows e = none_held (stored_of c) (shows.values ∙ e)

-- ---- fills and takes

abbrev buffering : Contents ℕ → Ending ℕ → List ℕ → Cause ℕ → Buffering
buffering contents ending coming cause = record { contents = contents; ending = ending; coming = coming; cause = cause }

-- what a call comes to, by whether the source was pending
abbrev Follows : {R : Type 0} → (Bool → R × Buffering) → R → Traces ℕ ℕ → Store ℕ ℕ → Type 0
Follows call reply may new = (pending : Bool) × ((reply ≡ (call pending).0) × Holds may new (call pending).1)

not_going : (s : Ending ℕ) (e : Ending ℕ) → s ≡ e → s ≡ Going → e ≡ Going
not_going s e p q = sym p ∙ q

module _ {U : Type 0} (may : U → Traces ℕ ℕ) (begins : (u : U) → may u (so_far [])) where
  took : (contents : Contents ℕ) (ending : Ending ℕ) (coming : List ℕ) (cause : Cause ℕ) (from to : U) (old new : Store ℕ ℕ) → Holds (may from) old (buffering contents ending coming cause) → Produces may from old fills.Took to new
      → Follows (λ pending. filled pending (buffering contents ending coming cause)) fills.Took (may to) new
  unfolding filled
  took contents (Kept k) coming cause from to old new h p = (let e : Kept k ≡ Going = sym h.ending ∙ p.0 in cc)
  took contents (Given k) coming cause from to old new h p = (let e : Given k ≡ Going = sym h.ending ∙ p.0 in cc)
  took contents Going [] cause from to old new h p = absurd (none_comes p.2.0 cause (may from) (may to) (h.coming refl) p.2.1 (begins to))
  took contents Going (y ∷ later) cause from to old new h p =
      let next = next_value p.2.0 y later cause (may from) (may to) (h.coming refl) p.2.1 (begins to) in
      let put = p.2.2 contents h.contents in
      let room : is_full contents ≡ false = ne_eqb (length (stored_of contents)) contents.capacity (λ e. absurd (omega (arith, e, put.1.0))) in
      let made : put.0 ≡ produced fates.Stored y contents = put.1.1 ∙ ap (λ x. produced fates.Stored x contents) next.is in (
        false,
        rw (not_waiting_by contents.policy contents room, room) (
          refl,
          record {
            contents = subst (stored.Shows new) made put.2;
            ending = p.1;
            coming = λ going. next.fixes;
          },
        ),
      )

  overwrote : (contents : Contents ℕ) (ending : Ending ℕ) (coming : List ℕ) (cause : Cause ℕ) (from to : U) (old new : Store ℕ ℕ) → Holds (may from) old (buffering contents ending coming cause) → Produces may from old fills.Overwrote to new
      → Follows (λ pending. filled pending (buffering contents ending coming cause)) fills.Overwrote (may to) new
  unfolding filled
  overwrote contents (Kept k) coming cause from to old new h p = (let e : Kept k ≡ Going = sym h.ending ∙ p.0 in cc)
  overwrote contents (Given k) coming cause from to old new h p = (let e : Given k ≡ Going = sym h.ending ∙ p.0 in cc)
  overwrote contents Going [] cause from to old new h p = absurd (none_comes p.2.0 cause (may from) (may to) (h.coming refl) p.2.1 (begins to))
  overwrote contents Going (y ∷ later) cause from to old new h p =
      let next = next_value p.2.0 y later cause (may from) (may to) (h.coming refl) p.2.1 (begins to) in
      let put = p.2.2 contents h.contents in
      let policy : contents.policy ≡ DropOldest = put.1.0 in
      let full : is_full contents ≡ true = eqb_same (length (stored_of contents)) contents.capacity put.1.1 in
      let made : put.0 ≡ produced fates.Stored y (turned fates.Dropped contents) = put.1.2 ∙ ap (λ x. produced fates.Stored x (turned fates.Dropped contents)) next.is in (
        false,
        rw (ap (λ p. waits_by p contents) policy, full, ap (λ p. put_by p y contents) policy) (
          refl,
          record {
            contents = subst (stored.Shows new) made put.2;
            ending = p.1;
            coming = λ going. next.fixes;
          },
        ),
      )

  dropped : (contents : Contents ℕ) (ending : Ending ℕ) (coming : List ℕ) (cause : Cause ℕ) (from to : U) (old new : Store ℕ ℕ) → Holds (may from) old (buffering contents ending coming cause) → Produces may from old fills.Dropped to new
      → Follows (λ pending. filled pending (buffering contents ending coming cause)) fills.Dropped (may to) new
  unfolding filled
  dropped contents (Kept k) coming cause from to old new h p = (let e : Kept k ≡ Going = sym h.ending ∙ p.0 in cc)
  dropped contents (Given k) coming cause from to old new h p = (let e : Given k ≡ Going = sym h.ending ∙ p.0 in cc)
  dropped contents Going [] cause from to old new h p = absurd (none_comes p.2.0 cause (may from) (may to) (h.coming refl) p.2.1 (begins to))
  dropped contents Going (y ∷ later) cause from to old new h p =
      let next = next_value p.2.0 y later cause (may from) (may to) (h.coming refl) p.2.1 (begins to) in
      let put = p.2.2 contents h.contents in
      let policy : contents.policy ≡ DropLatest = put.1.0 in
      let full : is_full contents ≡ true = eqb_same (length (stored_of contents)) contents.capacity put.1.1 in
      let made : put.0 ≡ produced fates.Dropped y contents = put.1.2 ∙ ap (λ x. produced fates.Dropped x contents) next.is in (
        false,
        rw (ap (λ p. waits_by p contents) policy, full, ap (λ p. put_by p y contents) policy) (
          refl,
          record {
            contents = subst (stored.Shows new) made put.2;
            ending = p.1;
            coming = λ going. next.fixes;
          },
        ),
      )

  -- the source was not asked
  rested : (m : Buffering) (from to : U) (old new : Store ℕ ℕ) → Holds (may from) old m → to ≡ from → new ≡ old → Holds (may to) new m
  rested m from to old new h moved same = rw (moved, same) h

  ended : (contents : Contents ℕ) (ending : Ending ℕ) (coming : List ℕ) (cause : Cause ℕ) (from to : U) (old new : Store ℕ ℕ) → Holds (may from) old (buffering contents ending coming cause) → Fills may from old fills.Ended to new
      → Follows (λ pending. filled pending (buffering contents ending coming cause)) fills.Ended (may to) new
  unfolding filled
  ended contents Going coming cause from to old new h (inl p) = absurd (p.0 h.ending)
  ended contents (Kept k) coming cause from to old new h (inl p) = (false, (refl, rested _ from to old new h p.1.0 p.1.1))
  ended contents (Given k) coming cause from to old new h (inl p) = (false, (refl, rested _ from to old new h p.1.0 p.1.1))
  ended contents (Kept k) coming cause from to old new h (inr p) = (let e : Kept k ≡ Going = sym h.ending ∙ p.0 in cc)
  ended contents (Given k) coming cause from to old new h (inr p) = (let e : Given k ≡ Going = sym h.ending ∙ p.0 in cc)
  ended contents Going (y ∷ later) cause from to old new h (inr p) =
      (let none : [] ≡ y ∷ later = (end_comes (y ∷ later) cause p.2.0 (may from) (h.coming refl) p.2.1).0 in cc)
  ended contents Going [] cause from to old new h (inr p) =
      let end = end_comes [] cause p.2.0 (may from) (h.coming refl) p.2.1 in
      let put = p.3 contents h.contents in (
        false,
        rw (unstuck old contents h.contents p.1) (
          refl,
          record {
            contents = subst (stored.Shows new) put.1 put.2;
            ending = ap (λ (s : Store ℕ ℕ). s.ending) p.2.2 ∙ ap (λ k. Kept k) end.1;
            coming = λ going. (let e : Kept cause ≡ Going = going in cc);
          },
        ),
      )

  full : (contents : Contents ℕ) (ending : Ending ℕ) (coming : List ℕ) (cause : Cause ℕ) (from to : U) (old new : Store ℕ ℕ) → Holds (may from) old (buffering contents ending coming cause) → Fills may from old fills.Full to new
      → Follows (λ pending. filled pending (buffering contents ending coming cause)) fills.Full (may to) new
  unfolding filled
  full contents (Kept k) coming cause from to old new h p = (let e : Kept k ≡ Going = sym h.ending ∙ p.0 in cc)
  full contents (Given k) coming cause from to old new h p = (let e : Given k ≡ Going = sym h.ending ∙ p.0 in cc)
  full contents Going coming cause from to old new h p = (false, rw (stuck old contents h.contents p.1) (refl, rested _ from to old new h p.2.0 p.2.1))

  pends : (contents : Contents ℕ) (ending : Ending ℕ) (coming : List ℕ) (cause : Cause ℕ) (from to : U) (old new : Store ℕ ℕ) → Holds (may from) old (buffering contents ending coming cause) → Fills may from old fills.Pending to new
      → Follows (λ pending. filled pending (buffering contents ending coming cause)) fills.Pending (may to) new
  unfolding filled
  pends contents (Kept k) coming cause from to old new h p = (let e : Kept k ≡ Going = sym h.ending ∙ p.0 in cc)
  pends contents (Given k) coming cause from to old new h p = (let e : Given k ≡ Going = sym h.ending ∙ p.0 in cc)
  pends contents Going coming cause from to old new h p = (
    true,
    rw (unstuck old contents h.contents p.1) (
      refl,
      record {
        contents = rw p.3 h.contents;
        ending = rw p.3 h.ending;
        coming = λ going t came. h.coming refl t (p.2 t came);
      },
    ),
  )

  pub fill_follows : (m : Buffering) (from to : U) (old new : Store ℕ ℕ) (fill : Fill) → Holds (may from) old m → Fills may from old fill to new → Follows (λ pending. filled pending m) fill (may to) new
  fill_follows m from to old new fills.Took h p = took m.contents m.ending m.coming m.cause from to old new h p
  fill_follows m from to old new fills.Overwrote h p = overwrote m.contents m.ending m.coming m.cause from to old new h p
  fill_follows m from to old new fills.Dropped h p = dropped m.contents m.ending m.coming m.cause from to old new h p
  fill_follows m from to old new fills.Full h p = full m.contents m.ending m.coming m.cause from to old new h p
  fill_follows m from to old new fills.Pending h p = pends m.contents m.ending m.coming m.cause from to old new h p
  fill_follows m from to old new fills.Ended h p = ended m.contents m.ending m.coming m.cause from to old new h p

  -- the oldest held value was taken, or the source's next one passed
  took_value : (contents : Contents ℕ) (ending : Ending ℕ) (coming : List ℕ) (cause : Cause ℕ) (from to : U) (old new : Store ℕ ℕ) (x : ℕ) → Holds (may from) old (buffering contents ending coming cause) → Takes may from old (polls.Ready (events.Value x)) to new
      → Follows (λ pending. taken pending (buffering contents ending coming cause)) (polls.Ready (events.Value x)) (may to) new
  unfolding taken
  took_value contents ending coming cause from to old new x h (none, stays, inl p) =
      let took = p.0 contents h.contents in (
        false,
        rw took.1.0.2 (
          refl,
          record {
            contents = subst (stored.Shows new) took.1.1 took.2;
            ending = stays ∙ h.ending;
            coming = λ going. rw p.1 (h.coming going);
          },
        ),
      )
  took_value contents (Kept k) coming cause from to old new x h (none, stays, inr p) = (let e : Kept k ≡ Going = sym h.ending ∙ p.0 in cc)
  took_value contents (Given k) coming cause from to old new x h (none, stays, inr p) = (let e : Given k ≡ Going = sym h.ending ∙ p.0 in cc)
  took_value contents Going [] cause from to old new x h (none, stays, inr p) = absurd (none_comes x cause (may from) (may to) (h.coming refl) p.1 (begins to))
  took_value contents Going (y ∷ later) cause from to old new x h (none, stays, inr p) =
      let next = next_value x y later cause (may from) (may to) (h.coming refl) p.1 (begins to) in
      let took = p.2 contents h.contents in
      let passed = took.1 in
      let made : took.0 ≡ turned fates.Taken (produced fates.Stored y contents) =
      passed.1.2.1 ∙ ap (λ c. turned fates.Taken c) (passed.1.1.1 ∙ ap (λ v. produced fates.Stored v contents) next.is) in (
        false,
        rw passed.0 (
          ap (λ v. polls.Ready (events.Value v)) next.is,
          record {
            contents = subst (stored.Shows new) made took.2;
            ending = stays ∙ h.ending;
            coming = λ going. next.fixes;
          },
        ),
      )

  given_end : (cause k : Cause ℕ) (may_after : Traces ℕ ℕ) (contents : Contents ℕ) (coming : List ℕ) (old new : Store ℕ ℕ) → new ≡ record old { ending = Given k } → k ≡ cause → stored.Shows new contents → (after : Cause ℕ) → Holds may_after new (buffering contents (Given cause) coming after)
  given_end cause k may_after contents coming old new same is shows after = record {
    contents = shows;
    ending = ap (λ (s : Store ℕ ℕ). s.ending) same ∙ ap (λ j. Given j) is;
    coming = λ going. (let e : Given cause ≡ Going = going in cc);
  }

  took_end : (contents : Contents ℕ) (ending : Ending ℕ) (coming : List ℕ) (cause : Cause ℕ) (from to : U) (old new : Store ℕ ℕ) (k : Cause ℕ) → Holds (may from) old (buffering contents ending coming cause) → Takes may from old (polls.Ready (events.End k)) to new
      → Follows (λ pending. taken pending (buffering contents ending coming cause)) (polls.Ready (events.End k)) (may to) new
  unfolding taken
  took_end contents Going (y ∷ later) cause from to old new k h (same, empty, told, inl p) =
      (let none : [] ≡ y ∷ later = (end_comes (y ∷ later) cause k (may from) (h.coming refl) p.1).0 in cc)
  took_end contents Going [] cause from to old new k h (same, empty, told, inl p) =
      let end = end_comes [] cause k (may from) (h.coming refl) p.1 in
      let kept = told contents h.contents in
      (false, rw (none_stored_of old contents h.contents empty) (ap (λ j. polls.Ready (events.End j)) end.1, given_end cause k (may to) contents [] old new same end.1 (subst (stored.Shows new) kept.1.0 kept.2) cause))
  took_end contents (Kept j) coming cause from to old new k h (same, empty, told, inl p) = (let e : Kept j ≡ Going = sym h.ending ∙ p.0 in cc)
  took_end contents (Given j) coming cause from to old new k h (same, empty, told, inl p) = (let e : Given j ≡ Going = sym h.ending ∙ p.0 in cc)
  took_end contents Going coming cause from to old new k h (same, empty, told, inr p) = (let e : None ≡ Some k = ap seen (sym h.ending) ∙ p.0 in cc)
  took_end contents (Kept j) coming cause from to old new k h (same, empty, told, inr p) =
      let e : Some j ≡ Some k = ap seen (sym h.ending) ∙ p.0 in
      let is : k ≡ j = cc in
      let kept = told contents h.contents in
      (false, rw (none_stored_of old contents h.contents empty) (ap (λ i. polls.Ready (events.End i)) is, given_end j k (may to) contents coming old new same is (subst (stored.Shows new) kept.1.0 kept.2) cause))
  took_end contents (Given j) coming cause from to old new k h (same, empty, told, inr p) =
      let e : Some j ≡ Some k = ap seen (sym h.ending) ∙ p.0 in
      let is : k ≡ j = cc in
      let kept = told contents h.contents in
      (false, rw (none_stored_of old contents h.contents empty) (ap (λ i. polls.Ready (events.End i)) is, given_end j k (may to) contents coming old new same is (subst (stored.Shows new) kept.1.0 kept.2) cause))

  took_none : (contents : Contents ℕ) (ending : Ending ℕ) (coming : List ℕ) (cause : Cause ℕ) (from to : U) (old new : Store ℕ ℕ) → Holds (may from) old (buffering contents ending coming cause) → Takes may from old polls.Pending to new
      → Follows (λ pending. taken pending (buffering contents ending coming cause)) polls.Pending (may to) new
  unfolding taken
  took_none contents (Kept k) coming cause from to old new h p = (let e : Kept k ≡ Going = sym h.ending ∙ p.0 in cc)
  took_none contents (Given k) coming cause from to old new h p = (let e : Given k ≡ Going = sym h.ending ∙ p.0 in cc)
  took_none contents Going coming cause from to old new h p = (
    true,
    rw (none_stored_of old contents h.contents p.1) (
      refl,
      record {
        contents = rw p.3 h.contents;
        ending = rw p.3 h.ending;
        coming = λ going t came. h.coming refl t (p.2 t came);
      },
    ),
  )

  pub take_follows : (m : Buffering) (from to : U) (old new : Store ℕ ℕ) (polled : Poll (Event ℕ ℕ)) → Holds (may from) old m → Takes may from old polled to new → Follows (λ pending. taken pending m) polled (may to) new
  take_follows m from to old new (polls.Ready (events.Value x)) h p = took_value m.contents m.ending m.coming m.cause from to old new x h p
  take_follows m from to old new (polls.Ready (events.End k)) h p = took_end m.contents m.ending m.coming m.cause from to old new k h p
  take_follows m from to old new polls.Pending h p = took_none m.contents m.ending m.coming m.cause from to old new h p

-- a buffer that was just started
pub newly : (may : Traces ℕ ℕ) (store : Store ℕ ℕ) (capacity capacity' : ℕ) (policy policy' : Policy) (values : List ℕ) (cause : Cause ℕ) → capacity' ≡ capacity → policy' ≡ policy → stored.Shows store (nothing capacity' policy') → store.ending ≡ Going → Fixes (ended_by values cause) may
    → Holds may store (buffering (nothing capacity policy) Going values cause)
newly may store capacity capacity' policy policy' values cause places rule shows going fixed =
    record { contents = rw (← places, ← rule) shows; ending = going; coming = λ e. fixed }
