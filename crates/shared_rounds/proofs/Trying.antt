-- Words that are tried by one block after another are tried as one list.
use Rattle.std.proofs.Common.{◌≡◌, ◌≢◌, ◌⊎◌, ⊎_elim, inl, inr, ℕ, suc, ◌+◌, ◌<◌, List, [], ◌∷◌, ◌++◌, length, map, take, refl, sym, ap, ◌∙◌, subst, arith, length-append, append_assoc, zero-add}
use Rattle.std.proofs.lemmas.List.{append-nil, length-take, map-append, take-take, take_all}
use Rattle.flow_terms.specs.declared.refusal.Refusal.{Refusal}
use Rattle.shared_lane.specs.Law.{Entry}
use Rattle.shared_lane.specs.Views.{SequencerSeen}
use Rattle.shared_lane.specs.Sequencers.{LoadedOrMoved, FoundNoRoom, AfterScan, RefusedTry, TriedOn, seen}
use Rattle.shared_lane.specs.Blocks.{entries, joined, AcceptedTogether, AcceptedInTurn, IsTurnedAway, TriedAllOn}
use Rattle.shared_lane.proofs.Entries.{entries_front}
use Rattle.flow_terms.specs.declared.answers.Tried.TheVariants.{Dropped, Full}

-- ---- blocks, one after another

in_turn_then : (q m t : SequencerSeen) (first others : List (List Entry)) → AcceptedInTurn q first m → AcceptedInTurn m others t → AcceptedInTurn q (first ++ others) t
in_turn_then q m t [] others is last = subst (λ (z : SequencerSeen). AcceptedInTurn z others t) is last
in_turn_then q m t (es ∷ first) others in_turn last = (in_turn.0, in_turn.1, in_turn.2, in_turn_then in_turn.0 m t first others in_turn.3 last)

joined_then : (first others : List (List Entry)) → joined (first ++ others) ≡ joined first ++ joined others
joined_then [] others = refl
joined_then (es ∷ first) others = ap (λ (l : List Entry). es ++ l) (joined_then first others) ∙ sym (append_assoc es (joined first) (joined others))

-- what is accepted together leaves those that wait alone: there are none
same_waiting : (q t : SequencerSeen) (es : List Entry) → AcceptedTogether q es t → t.waiting ≡ q.waiting
same_waiting q t es on = ap (λ (z : SequencerSeen). z.waiting) on.1.3 ∙ ap (λ (z : SequencerSeen). z.waiting) on.1.1.0

in_turn_waiting : (q t : SequencerSeen) (blocks : List (List Entry)) → AcceptedInTurn q blocks t → t.waiting ≡ q.waiting
in_turn_waiting q t [] is = ap (λ (z : SequencerSeen). z.waiting) is
in_turn_waiting q t (es ∷ blocks) in_turn = in_turn_waiting in_turn.0 t blocks in_turn.3 ∙ same_waiting q in_turn.0 es in_turn.2

none_or_first : (q t : SequencerSeen) (blocks : List (List Entry)) → AcceptedInTurn q blocks t → (joined blocks ≡ []) ⊎ (q.waiting ≡ [])
none_or_first q t [] is = inl refl
none_or_first q t (es ∷ blocks) in_turn = inr in_turn.2.0

-- ---- a word that is turned away

moved_waiting : (q t : SequencerSeen) → LoadedOrMoved q t → t.waiting ≡ q.waiting
moved_waiting q t only = ap (λ (z : SequencerSeen). z.waiting) only.0

no_room_waiting : (q t : SequencerSeen) → FoundNoRoom q t → t.waiting ≡ q.waiting
no_room_waiting q t found = ⊎_elim (λ stays. ap (λ (z : SequencerSeen). z.waiting) stays.1) (λ loaded. moved_waiting q t loaded.0) found

turned_waiting : (q t : SequencerSeen) → IsTurnedAway q t → t.waiting ≡ q.waiting
turned_waiting q t turned = ⊎_elim
    (λ spent. ap (λ (z : SequencerSeen). z.waiting) spent.2)
    (λ each. let any : Entry = (0, 0) in ⊎_elim (λ (full : TriedOn q any Full t). no_room_waiting q t full.1) (λ (dropped : TriedOn q any Dropped t). moved_waiting q t dropped.1.0) (each any))
    turned

-- ---- words that were tried

-- those that wait are as before; and if some words were accepted there are none
pub tried_waiting : (q t : SequencerSeen) (e : ℕ) (words : List ℕ) (n : ℕ) → TriedAllOn q e words n t → t.waiting ≡ q.waiting
tried_waiting q t e words n on = let blocks = on.in_turn in
    ⊎_elim (λ whole. ap (λ (z : SequencerSeen). z.waiting) whole.1) (λ cut. turned_waiting blocks.1 t cut.1) blocks.4 ∙ in_turn_waiting q blocks.1 blocks.0 blocks.3

pub tried_first : (q t : SequencerSeen) (e : ℕ) (words : List ℕ) (n : ℕ) → TriedAllOn q e words n t → (entries e (take n words) ≡ []) ⊎ (q.waiting ≡ [])
tried_first q t e words n on = let blocks = on.in_turn in ⊎_elim (λ none. inl (sym blocks.2 ∙ none)) (λ first. inr first) (none_or_first q blocks.1 blocks.0 blocks.3)

-- after some were accepted none waits
pub accepted_first : (q t : SequencerSeen) (e : ℕ) (words : List ℕ) (n : ℕ) → 0 < n → TriedAllOn q e words n t → t.waiting ≡ []
accepted_first q t e words n some on = let few = on.few in let count = entries_front e n words few in
    tried_waiting q t e words n on ∙ ⊎_elim (λ empty. let zero_is = sym count ∙ ap length empty in absurd (omega arith)) (λ first. first) (tried_first q t e words n on)

-- none was tried yet
pub tried_none : (q : SequencerSeen) (e : ℕ) → TriedAllOn q e [] 0 q
tried_none q e = record { few = omega arith; accepted = sym (append-nil (seen q)); in_turn = ([], q, refl, refl, inl (refl, refl)) }

-- the first was refused
pub tried_refused : (q t : SequencerSeen) (e : ℕ) (words : List ℕ) (refusal : Refusal) → 0 < length words → RefusedTry q refusal t → TriedAllOn q e words 0 t
tried_refused q t e words refusal some refused = record {
  few = omega arith;
  accepted = ap seen refused.2 ∙ sym (append-nil (seen q));
  in_turn = ([], q, refl, refl, inr (some, inl (refl, refused.1, refused.2)));
}

take_past : (first others : List ℕ) (n : ℕ) → take (length first + n) (first ++ others) ≡ first ++ take n others
take_past [] others n = ap (λ (k : ℕ). take k others) (zero-add n)
take_past (w ∷ first) others n = ap (λ (k : ℕ). take k (w ∷ (first ++ others))) (let e : suc (length first) + n ≡ suc (length first + n) = omega arith in e) ∙ ap (λ (l : List ℕ). w ∷ l) (take_past first others n)

-- the words of a first list were all accepted, and then those of another were tried
pub tried_then : (q m t : SequencerSeen) (e : ℕ) (first others : List ℕ) (k n : ℕ) → k ≡ length first → TriedAllOn q e first k m → TriedAllOn m e others n t → TriedAllOn q e (first ++ others) (k + n) t
tried_then q m t e first others k n all one two = let both = length-append first others in let few = two.few in let a = one.in_turn in let b = two.in_turn in
    let es : List Entry = entries e (take k first) in let fs : List Entry = entries e (take n others) in
    let there : es ++ fs ≡ entries e (take (k + n) (first ++ others)) = ap (λ (l : List ℕ). entries e l ++ fs) (take_all k first (omega arith)) ∙ (sym (map-append (λ w. (e, w)) first (take n others)) ∙ ap (entries e) (sym (take_past first others n) ∙ ap (λ (i : ℕ). take (i + n) (first ++ others)) (sym all))) in
    let whole : m ≡ a.1 = ⊎_elim (λ whole. whole.1) (λ cut. let short = cut.0 in absurd (omega arith)) a.4 in record {
      few = omega arith;
      accepted = two.accepted ∙ (ap (λ (l : List Entry). l ++ fs) one.accepted ∙ (append_assoc (seen q) es fs ∙ ap (λ (l : List Entry). seen q ++ l) there));
      in_turn = (
        a.0 ++ b.0,
        b.1,
        joined_then a.0 b.0 ∙ ((λ i. a.2 i ++ b.2 i) ∙ there),
        in_turn_then q m b.1 a.0 b.0 (subst (λ (z : SequencerSeen). AcceptedInTurn q a.0 z) (sym whole) a.3) b.3,
        ⊎_elim (λ end. let last = end.0 in inl (omega arith, end.1)) (λ cut. let short = cut.0 in inr (omega arith, cut.1)) b.4,
      );
    }

-- where fewer were accepted than a list's beginning may have, the whole list was tried
pub tried_front : (q t : SequencerSeen) (e k : ℕ) (words : List ℕ) (n : ℕ) → n < k → TriedAllOn q e (take k words) n t → TriedAllOn q e words n t
tried_front q t e k words n less on = let long = length-take k words in let few = on.few in let a = on.in_turn in let same = take-take n k words (omega arith) in record {
  few = omega arith;
  accepted = on.accepted ∙ ap (λ (l : List ℕ). seen q ++ entries e l) same;
  in_turn = (
    a.0,
    a.1,
    a.2 ∙ ap (entries e) same,
    a.3,
    ⊎_elim (λ end. let last = end.0 in inl (omega arith, end.1)) (λ cut. let short = cut.0 in inr (omega arith, cut.1)) a.4,
  );
}

-- ---- after what waited was accepted

-- where nothing waited, that did nothing
pub no_scan : (q : SequencerSeen) (then : SequencerSeen → Type 0) → q.waiting ≡ [] → AfterScan q then → then q
no_scan q then none after = subst then (after.3.quiet none) after.5

pub scan_then : (q : SequencerSeen) (P Q : SequencerSeen → Type 0) → ((m : SequencerSeen) → P m → Q m) → AfterScan q P → AfterScan q Q
scan_then q P Q on after = (after.0, after.1, after.2, after.3, after.4, on after.0 after.5)

pub some_of : {A : Type 0} (l : List A) → l ≢ [] → 0 < length l
some_of [] ne = absurd (ne refl)
some_of (x ∷ l) ne = omega arith

-- a list of some values has some words
pub no_word : {T : Type 0} (word : T → ℕ) (values : List T) → values ≢ [] → map word values ≢ []
no_word word [] ne = absurd (ne refl)
no_word word (v ∷ values) ne = λ e. cc
