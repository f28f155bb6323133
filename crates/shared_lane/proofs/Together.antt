-- A block is accepted as its emissions one after another.
use Rattle.std.proofs.Common.{◌≡◌, ◌≢◌, ℕ, zero, suc, ◌+◌, ◌-◌, ◌<◌, ◌≤◌, cond, eqb, Bool, true, false, List, [], ◌∷◌, ◌++◌, length, map, take, drop, get_or, refl, sym, ap, ◌∙◌, subst, inl, inr, arith, length-append, append_assoc}
use mathlib.Core.Logic.{dite}
use native.Mathlib.Decide.{ℕ_discrete}
use Rattle.std.proofs.lemmas.List.{append-nil, length-drop}
use Rattle.std.proofs.Math.Seq.{drop-append-add, take-length}
use Rattle.circular_buffer.specs.Buffer.{keep_last}
use Rattle.flow_terms.specs.declared.policy.Policy.{Policy}
use Rattle.flow_terms.specs.declared.policy.Policy.TheVariants.{Suspend, DropOldest, DropLatest}
use Rattle.shared_lane.specs.declared.view.Known.{Known}
use Rattle.shared_lane.specs.declared.view.View.{View}
use Rattle.shared_lane.specs.Law.{Entry, closed}
use Rattle.shared_lane.specs.Steps.{known_of, known_at}
use Rattle.shared_lane.proofs.Lists.{front}
use Rattle.shared_lane.specs.Caches.{word_of}
use Rattle.shared_lane.specs.Views.{SequencerSeen}
use Rattle.shared_lane.specs.Surveys.{cursor_loads, may_be_open, WholePass, FoundAt, Cleared, Behind}
use Rattle.shared_lane.specs.Sequencers.{next, LoadedOrMoved, PassedBy, ByCursors, AcceptedOn, accepted_on}
use Rattle.shared_lane.specs.Blocks.{FindRoom, PassedFor, AcceptedTogether, AcceptedEach}

-- ---- the cache

-- the last of a list that ends so are the last of what that list kept
kept_twice : (r : ℕ) (xs ys : List ℕ) → keep_last r (keep_last r xs ++ ys) ≡ keep_last r (xs ++ ys)
kept_twice r xs ys = let d : ℕ = length xs - r in let a : List ℕ = take d xs in let k : List ℕ = drop d xs in let cut = length-drop d xs in let whole = front d xs in
    let count : length xs ≡ length a + length k = ap length whole ∙ length-append a k in let one = length-append k ys in let both = length-append xs ys in
    let z : List ℕ = k ++ ys in let there : xs ++ ys ≡ a ++ z = ap (λ (l : List ℕ). l ++ ys) whole ∙ append_assoc a k ys in
    let less : length (xs ++ ys) - r ≡ length a + (length z - r) = omega arith in
    sym (ap (λ (n : ℕ). drop n (xs ++ ys)) less ∙ (ap (drop (length a + (length z - r))) there ∙ drop-append-add a z (length z - r)))

-- the cache, after these were accepted one after another
abbrev kept_each : ℕ → List ℕ → List ℕ → List ℕ
kept_each r ws [] = ws
kept_each r ws (x ∷ xs) = kept_each r (keep_last r (ws ++ x ∷ [])) xs

kept_is : (r : ℕ) (ws : List ℕ) (x : ℕ) (xs : List ℕ) → kept_each r (keep_last r (ws ++ x ∷ [])) xs ≡ keep_last r (ws ++ x ∷ xs)
kept_is r ws x [] = refl
kept_is r ws x (y ∷ ys) = kept_is r (keep_last r (ws ++ x ∷ [])) y ys ∙ (kept_twice r (ws ++ x ∷ []) (y ∷ ys) ∙ ap (keep_last r) (append_assoc ws (x ∷ []) (y ∷ ys)))

-- ---- the cursors

-- what is known of the places is what a pass found that found the cursors at ns
record Stands (ns : List ℕ) (q : SequencerSeen) : Type 0 where
  pub long : length ns ≡ q.view.shape.places
  pub known : (p : ℕ) → p < length ns → known_of q.view.sequencing p ≡ known_at (get_or ns p 0) (known_of q.view.sequencing p)
  pub below : (p : ℕ) → p < length ns → get_or ns p 0 ≢ closed → get_or ns p 0 ≤ next q
  pub shut : (p : ℕ) → p < length ns → may_be_open q.view p ≡ false → get_or ns p 0 ≡ closed

-- the cursors are loaded again, and found where they were
abbrev looked : List ℕ → SequencerSeen → SequencerSeen
looked ns q = record q { view = record q.view { loads = q.view.loads ++ cursor_loads 0 ns } }

pass_again : (ns : List ℕ) (q : SequencerSeen) → Stands ns q → WholePass FoundAt q.view ns (looked ns q).view
pass_again ns q st = record {
  only = record { shape = refl; seen = refl; reading = refl; active = refl; flight = refl; count = refl; none_opened = λ p. refl };
  loads = (length ns, ap (λ (l : List ℕ). q.view.loads ++ cursor_loads 0 l) (sym (take-length ns)), λ p far near. absurd (omega arith));
  below = st.below;
  shut = st.shut;
  each = st.known;
  rest = λ p h. refl;
}

-- how near the cursors have to stand
abbrev lag_for : Policy → ℕ → ℕ → ℕ
lag_for Suspend capacity cells = capacity
lag_for DropOldest capacity cells = cells
lag_for DropLatest capacity cells = capacity

passed_again : (p : Policy) (ns : List ℕ) (q : SequencerSeen) → Stands ns q → Behind (next q) (lag_for p q.capacity q.view.shape.cells) ns false → PassedBy p q.capacity q true (looked ns q).view
passed_again Suspend ns q st near = (ns, st.long, pass_again ns q st, near)
passed_again DropLatest ns q st near = (ns, st.long, pass_again ns q st, near)
passed_again DropOldest ns q st near = let pass = pass_again ns q st in (
  refl,
  (
    ns,
    st.long,
    record {
      only = pass.only;
      loads = pass.loads;
      below = pass.below;
      shut = pass.shut;
      each = λ p h. record { kept = λ _. pass.each p h; pushed = λ ne far. let close = near.none refl p h ne in absurd (omega arith) };
      rest = pass.rest;
    },
  ),
)

each_again : (ns : List ℕ) (es : List Entry) (q : SequencerSeen) → Stands ns q → q.waiting ≡ [] → FindRoom (lag_for q.policy q.capacity q.view.shape.cells) (next q) (next q + length es) ns
    → (u : SequencerSeen) × AcceptedEach q es u × (u ≡ record q { view = record q.view { seen = q.view.seen ++ es; loads = u.view.loads }; cache = kept_each q.replay q.cache (map word_of es) })
each_again ns [] q st none room = (q, refl, λ i. record q { view = record q.view { seen = sym (append-nil q.view.seen) i } })
each_again ns (e ∷ es) q st none room = let m : SequencerSeen = looked ns q in let t : SequencerSeen = accepted_on e m in let longer = length-append q.view.seen (e ∷ []) in
    let by : ByCursors q.capacity q true m = ((refl, refl, refl, λ p. refl), passed_again q.policy ns q st (room (next q) (omega arith) (omega arith))) in
    let after : Stands ns t = record { long = st.long; known = st.known; below = λ p h ne. let b = st.below p h ne in omega arith; shut = st.shut } in
    let more = each_again ns es t after none (λ n low high. room n (omega arith) (omega arith)) in let u : SequencerSeen = more.0 in (
      u,
      (t, (none, refl, refl, refl, (refl, refl, refl), refl, (m, by, refl)), more.1),
      more.2 ∙ ap (λ (l : List Entry). let w : SequencerSeen = record q { view = record q.view { seen = l; loads = u.view.loads }; cache = kept_each q.replay q.cache (map word_of (e ∷ es)) } in w) (append_assoc q.view.seen (e ∷ []) es),
    )

-- ---- the block's own pass

again : (n : ℕ) (k : Known) → known_at n k ≡ known_at n (known_at n k)
again n k = go (eqb n closed)
  where
    go : (b : Bool) → cond b (record k { is_open = false }) (record k { floor = n }) ≡ cond b (record (cond b (record k { is_open = false }) (record k { floor = n })) { is_open = false }) (record (cond b (record k { is_open = false }) (record k { floor = n })) { floor = n })
    go true = refl
    go false = refl

-- what is known of an open cursor that was found is whether it was known to be open
found_shut : (n : ℕ) (k : Known) → (known_at n k).is_open ≡ false → n ≢ closed → k.is_open ≡ false
found_shut n k e ne = sym (ap (λ (b : Bool). (cond b (record k { is_open = false }) (record k { floor = n })).is_open) (Rattle.std.proofs.Common.ne_eqb n closed ne)) ∙ e

stands_after : (ns : List ℕ) (q m : SequencerSeen) (e : Entry) (E : ℕ → Known → Known → Type 0) → LoadedOrMoved q m → length ns ≡ q.view.shape.places → WholePass E q.view ns m.view
    → ((p : ℕ) → p < length ns → FoundAt (get_or ns p 0) (known_of q.view.sequencing p) (known_of m.view.sequencing p)) → Stands ns (accepted_on e m)
stands_after ns q m e E only long pass found = let longer = length-append m.view.seen (e ∷ []) in let same : next m ≡ next q = (λ i. (only.1 i).first + length (only.2 i)) in record {
  long = long ∙ (λ i. (sym only.1 i).places);
  known = λ p h. found p h ∙ (again (get_or ns p 0) (known_of q.view.sequencing p) ∙ ap (known_at (get_or ns p 0)) (sym (found p h)));
  below = λ p h ne. let b = pass.below p h ne in omega arith;
  shut = λ p h e. dite (ℕ_discrete (get_or ns p 0) closed) (λ is. is)
      (λ ne. pass.shut p h (found_shut (get_or ns p 0) (known_of q.view.sequencing p) (ap (λ (k : Known). k.is_open) (sym (found p h)) ∙ e) ne));
}

-- the first of a block is accepted by the block's pass
first_by : (p : Policy) (k : ℕ) (q : SequencerSeen) (v : View) → 0 < k → PassedFor p k q v → PassedBy p q.capacity q true v
first_by Suspend k q v some r = (r.0, r.1, r.2, r.3 (next q) (omega arith) (omega arith))
first_by DropLatest k q v some r = (r.0, r.1, r.2, r.3 (next q) (omega arith) (omega arith))
first_by DropOldest k q v some r = (refl, (r.0, r.1, r.2))

-- and the others find the cursors where it found them
others_by : (p : Policy) (k : ℕ) (q m : SequencerSeen) (e : Entry) → 1 < k → LoadedOrMoved q m → PassedFor p k q m.view → (ns : List ℕ) × Stands ns (accepted_on e m) × FindRoom (lag_for p m.capacity m.view.shape.cells) (next q + 1) (next q + k) ns
others_by Suspend k q m e some only r = (r.0, stands_after r.0 q m e FoundAt only r.1 r.2 r.2.each, λ n low high. subst (λ (z : SequencerSeen). Behind n z.capacity r.0 false) (sym only.0) (r.3 n (omega arith) high))
others_by DropLatest k q m e some only r = (r.0, stands_after r.0 q m e FoundAt only r.1 r.2 r.2.each, λ n low high. subst (λ (z : SequencerSeen). Behind n z.capacity r.0 false) (sym only.0) (r.3 n (omega arith) high))
others_by DropOldest k q m e some only r = let ns : List ℕ = r.0 in let near = r.3 (next q + 1) (omega arith) (omega arith) in (
  ns,
  stands_after ns q m e (Cleared (next q) q.view.shape.cells) only r.1 r.2
      (λ p h. dite (ℕ_discrete (get_or ns p 0) closed) (λ shut. (r.2.each p h).kept (inl shut)) (λ ne. let close = near.none refl p h ne in (r.2.each p h).kept (inr (omega arith)))),
  λ n low high. subst (λ (z : ℕ). Behind n z ns false) (λ i. (sym only.1 i).cells) (r.3 n low high),
)

first_accepted : (q m : SequencerSeen) (e : Entry) → q.waiting ≡ [] → LoadedOrMoved q m → PassedBy q.policy q.capacity q true m.view → AcceptedOn q e (next q) (accepted_on e m)
first_accepted q m e none only pass = let is = only.0 in (
  none,
  refl,
  ap (λ (l : List Entry). l ++ e ∷ []) only.2,
  ap (λ (z : SequencerSeen). keep_last z.replay (z.cache ++ e.1 ∷ [])) is,
  (ap (λ (z : SequencerSeen). z.waiting) is, ap (λ (z : SequencerSeen). z.standing) is, ap (λ (z : SequencerSeen). z.ticket) is),
  ap (λ (z : SequencerSeen). z.subscription) is,
  (m, (only, pass), refl),
)

pub together_is_each : (q t : SequencerSeen) (e : Entry) (es : List Entry) → AcceptedTogether q (e ∷ es) t
    → (u : SequencerSeen) × AcceptedEach q (e ∷ es) u × (u ≡ record t { view = record t.view { loads = u.view.loads } })
together_is_each q t e [] block = let m : SequencerSeen = block.1.0 in let only = block.1.1 in let a : SequencerSeen = accepted_on e m in
    (a, (a, first_accepted q m e block.0 only (first_by q.policy 1 q m.view (omega arith) block.1.2), refl), λ i. record (sym block.1.3 i) { view = record (sym block.1.3 i).view { loads = m.view.loads } })
together_is_each q t e (f ∷ es) block = let m : SequencerSeen = block.1.0 in let only = block.1.1 in let a : SequencerSeen = accepted_on e m in let k : ℕ = length (e ∷ f ∷ es) in let longer = length-append m.view.seen (e ∷ []) in
    let same : next m ≡ next q = (λ i. (only.1 i).first + length (only.2 i)) in
    let others = others_by q.policy k q m e (omega arith) only block.1.2 in let policy : m.policy ≡ q.policy = ap (λ (z : SequencerSeen). z.policy) only.0 in
    let more = each_again others.0 (f ∷ es) a others.1 (ap (λ (z : SequencerSeen). z.waiting) only.0 ∙ block.0)
    (λ n low high. subst (λ (z : Policy). Behind n (lag_for z a.capacity a.view.shape.cells) others.0 false) (sym policy) (others.2 n (omega arith) (omega arith))) in let u : SequencerSeen = more.0 in
    let full : SequencerSeen = record m { view = record m.view { seen = m.view.seen ++ e ∷ f ∷ es; loads = u.view.loads }; cache = keep_last m.replay (m.cache ++ e.1 ∷ map word_of (f ∷ es)) } in (
      u,
      (a, first_accepted q m e block.0 only (first_by q.policy k q m.view (omega arith) block.1.2), more.1),
      more.2 ∙ ((λ i. record m {
        view = record m.view { seen = append_assoc m.view.seen (e ∷ []) (f ∷ es) i; loads = u.view.loads };
        cache = kept_is m.replay m.cache e.1 (map word_of (f ∷ es)) i;
      }) ∙ (λ i. record (sym block.1.3 i) { view = record (sym block.1.3 i).view { loads = u.view.loads } })),
    )
