-- A pass over the cursors, step by step.
use Rattle.std.proofs.Common.{◌≡◌, ◌≢◌, ◌⊎◌, ℕ, zero, suc, ◌+◌, ◌-◌, ◌<◌, ◌≤◌, cond, eqb, Bool, true, false, List, [], ◌∷◌, ◌++◌, length, get_or, set, sym, refl, ap, ◌∙◌, subst, ⊎_elim, inl, inr, arith, length-append, length-set, append_assoc, get_or-set_other, get_or-set_same}
use mathlib.Core.Logic.{dite}
use native.Mathlib.Decide.{ℕ_discrete, dec_le}
use Rattle.std.proofs.lemmas.List.{append-nil}
use Rattle.shared_lane.specs.declared.view.Known.{Known}
use Rattle.shared_lane.specs.declared.view.Sequencing.{Sequencing}
use Rattle.shared_lane.specs.declared.view.View.{View}
use Rattle.shared_lane.specs.Layout.{cursor_word}
use Rattle.shared_lane.specs.Law.{closed, shut_place}
use Rattle.shared_lane.specs.Steps.{known_of, known_at, known_over, with_known, place_over, next_number, IsRoomy, IsRoomyAt, Surveyed}
use Rattle.shared_lane.proofs.Lists.{not_both, within, index_is}
use Rattle.shared_lane.specs.Surveys.{cursor_loads, open_count, opening_at, may_be_open, OpensNone, LosesNone, OnlyPlaces, Visit, Pass, WholePass, FoundAt, Cleared, Behind}

pub loads_more : (p : ℕ) (ns : List ℕ) (n : ℕ) → cursor_loads p (ns ++ n ∷ []) ≡ cursor_loads p ns ++ (cursor_word (p + length ns), n) ∷ []
loads_more p [] n = ap (λ (z : ℕ). (cursor_word z, n) ∷ []) (omega arith)
loads_more p (m ∷ ns) n = ap (λ l. (cursor_word p, m) ∷ l) (loads_more (suc p) ns n ∙ ap (λ (z : ℕ). cursor_loads (suc p) ns ++ (cursor_word z, n) ∷ []) (omega arith))

pub open_more : (ns : List ℕ) (n : ℕ) → open_count (ns ++ n ∷ []) ≡ cond (eqb n closed) (open_count ns) (open_count ns + 1)
open_more [] n = go (eqb n closed)
  where
    go : (b : Bool) → cond b 0 (suc 0) ≡ cond b 0 (0 + 1)
    go true = refl
    go false = refl
open_more (m ∷ ns) n = ap (λ (z : ℕ). cond (eqb m closed) z (suc z)) (open_more ns n) ∙ go (eqb m closed) (eqb n closed) (open_count ns)
  where
    go : (a b : Bool) (k : ℕ) → cond a (cond b k (k + 1)) (suc (cond b k (k + 1))) ≡ cond b (cond a k (suc k)) (cond a k (suc k) + 1)
    go true true k = refl
    go true false k = refl
    go false true k = refl
    go false false k = omega arith

pub open_few : (ns : List ℕ) → open_count ns ≤ length ns
open_few [] = omega arith
open_few (n ∷ ns) = go (eqb n closed) (open_few ns)
  where
    go : (b : Bool) → open_count ns ≤ length ns → cond b (open_count ns) (suc (open_count ns)) ≤ suc (length ns)
    go true h = omega arith
    go false h = omega arith

-- where one was closed, not all were open
pub open_fewer : (ns : List ℕ) (p : ℕ) → p < length ns → get_or ns p 0 ≡ closed → open_count ns < length ns
open_fewer [] p h e = absurd (omega arith)
open_fewer (n ∷ ns) zero h e = let few = open_few ns in subst (λ (b : Bool). cond b (open_count ns) (suc (open_count ns)) < suc (length ns)) (sym (Rattle.std.proofs.Common.eq-eqb n closed e)) (omega arith)
open_fewer (n ∷ ns) (suc p) h e = go (eqb n closed) (open_fewer ns p (omega arith) e)
  where
    go : (b : Bool) → open_count ns < length ns → cond b (open_count ns) (suc (open_count ns)) < suc (length ns)
    go true h = omega arith
    go false h = omega arith

at_front : (ns : List ℕ) (n p : ℕ) → p < length ns → get_or (ns ++ n ∷ []) p 0 ≡ get_or ns p 0
at_front [] n p h = absurd (omega arith)
at_front (m ∷ ns) n zero h = refl
at_front (m ∷ ns) n (suc p) h = at_front ns n p (omega arith)

pub at_back : (ns : List ℕ) (n : ℕ) → get_or (ns ++ n ∷ []) (length ns) 0 ≡ n
at_back [] n = refl
at_back (m ∷ ns) n = at_back ns n

pub pass_none : (E : ℕ → Known → Known → Type 0) (v : View) → Pass E v [] v
pass_none E v = record {
  only = record { shape = refl; seen = refl; reading = refl; active = refl; flight = refl; count = refl; none_opened = λ p. refl };
  loads = sym (append-nil v.loads);
  below = λ p h. absurd (omega arith);
  shut = λ p h. absurd (omega arith);
  each = λ p h. absurd (omega arith);
  rest = λ p h. refl;
}

pub all_more : (Q : ℕ → Type 0) (ns : List ℕ) (n : ℕ) → ((p : ℕ) → p < length ns → Q (get_or ns p 0)) → Q n → (p : ℕ) → p < length (ns ++ n ∷ []) → Q (get_or (ns ++ n ∷ []) p 0)
all_more Q ns n old new p h = let longer : length (ns ++ n ∷ []) ≡ length ns + 1 = length-append ns (n ∷ []) in dite (ℕ_discrete p (length ns))
    (λ is. subst Q (sym (ap (λ (z : ℕ). get_or (ns ++ n ∷ []) z 0) is ∙ at_back ns n)) new)
    (λ ne. subst Q (sym (at_front ns n p (omega arith))) (old p (omega arith)))

pub pass_more : (E : ℕ → Known → Known → Type 0) (v v' w : View) (ns : List ℕ) (n : ℕ) → Pass E v ns v' → Visit E v' (length ns) n w → Pass E v (ns ++ n ∷ []) w
pass_more E v v' w ns n was step = let p : ℕ = length ns in let a = was.only in let b = step.only in let longer : length (ns ++ n ∷ []) ≡ p + 1 = length-append ns (n ∷ []) in record {
  only = record { shape = b.shape ∙ a.shape; seen = b.seen ∙ a.seen; reading = b.reading ∙ a.reading; active = b.active ∙ a.active; flight = b.flight ∙ a.flight; count = b.count ∙ a.count; none_opened = λ x. b.none_opened x ∙ a.none_opened x };
  loads = step.loads ∙ (ap (λ l. l ++ (cursor_word p, n) ∷ []) was.loads ∙ (append_assoc v.loads (cursor_loads 0 ns) ((cursor_word p, n) ∷ []) ∙ ap (λ l. v.loads ++ l) (sym (loads_more 0 ns n ∙ ap (λ (z : ℕ). cursor_loads 0 ns ++ (cursor_word z, n) ∷ []) (omega arith)))));
  below = all_more (λ z. z ≢ closed → z ≤ next_number v) ns n was.below (λ ne. let h = step.below ne in let same : next_number v' ≡ next_number v = (λ i. (a.shape i).first + length (a.seen i)) in omega arith);
  shut = λ x h e. dite (ℕ_discrete x p)
      (λ is. ap (λ (z : ℕ). get_or (ns ++ n ∷ []) z 0) is
      ∙ (at_back ns n ∙ step.shut (ap (λ (k : Known). k.is_open) (was.rest p (let g : p ≤ p = omega arith in g)) ∙ (ap (λ (z : ℕ). may_be_open v z) (sym is) ∙ e))))
      (λ ne. at_front ns n x (omega arith) ∙ was.shut x (omega arith) e);
  each = λ x h. dite (ℕ_discrete x p)
      (λ is. subst (λ (z : ℕ). E (get_or (ns ++ n ∷ []) z 0) (known_of v.sequencing z) (known_of w.sequencing z)) (sym is)
      (subst (λ (z : ℕ × Known). E z.0 z.1 (known_of w.sequencing p)) (λ i. (sym (at_back ns n) i, was.rest p (let g : p ≤ p = omega arith in g) i)) step.here))
      (λ ne. subst (λ (z : ℕ × Known). E z.0 (known_of v.sequencing x) z.1) (λ i. (sym (at_front ns n x (omega arith)) i, sym (step.rest x ne) i)) (was.each x (omega arith)));
  rest = λ x h. step.rest x (λ h'. omega arith) ∙ was.rest x (omega arith);
}

-- the sequencer knows k of the place p, and else what it did
known_here : (q : Sequencing) (p : ℕ) (k : Known) → p < length q.places → known_of (with_known p k q) p ≡ k
known_here q p k inside = get_or-set_same q.places p k shut_place inside

known_else : (q : Sequencing) (p x : ℕ) (k : Known) → x ≢ p → known_of (with_known p k q) x ≡ known_of q x
known_else q p x k ne = get_or-set_other q.places p x k shut_place ne

-- the sequencer knows no other opening of the place p
opens_none : (v w : View) (p : ℕ) (k : Known) → p < length v.sequencing.places → k.opening ≡ opening_at v p → w.sequencing ≡ with_known p k v.sequencing → OpensNone v w
opens_none v w p k inside same q x = ap (λ (y : Sequencing). (known_of y x).opening) q ∙ dite (ℕ_discrete x p)
    (λ is. ap (λ (z : ℕ). (known_of (with_known p k v.sequencing) z).opening) is ∙ (ap (λ (y : Known). y.opening) (known_here v.sequencing p k inside) ∙ (same ∙ ap (λ (z : ℕ). opening_at v z) (sym is))))
    (λ ne. ap (λ (y : Known). y.opening) (known_else v.sequencing p x k ne))

only_after : (v w : View) (p : ℕ) (k : Known) (l : List (ℕ × ℕ)) → p < length v.sequencing.places → k.opening ≡ opening_at v p → v.shape ≡ w.shape → v.seen ≡ w.seen → v.reading ≡ w.reading
    → w.sequencing ≡ with_known p k v.sequencing → OnlyPlaces v w
only_after v w p k l inside same a b c q = record {
  shape = sym a;
  seen = sym b;
  reading = sym c;
  active = ap (λ (x : Sequencing). x.active) q;
  flight = ap (λ (x : Sequencing). x.flight) q;
  count = ap (λ (x : Sequencing). length x.places) q ∙ length-set v.sequencing.places p k;
  none_opened = opens_none v w p k inside same q;
}

-- what was found of a cursor opens no place
same_opening : (n : ℕ) (k : Known) → (known_at n k).opening ≡ k.opening
same_opening n k = go (eqb n closed)
  where
    go : (b : Bool) → (cond b (record k { is_open = false }) (record k { floor = n })).opening ≡ k.opening
    go true = refl
    go false = refl

-- and no value is lost by it
pub same_lost : (n : ℕ) (k : Known) → (known_at n k).lost ≡ k.lost
same_lost n k = go (eqb n closed)
  where
    go : (b : Bool) → (cond b (record k { is_open = false }) (record k { floor = n })).lost ≡ k.lost
    go true = refl
    go false = refl

-- a pass that left the cursors where they were found lost nothing
pub pass_loses_none : (v w : View) (ns : List ℕ) → Pass FoundAt v ns w → LosesNone v w
pass_loses_none v w ns pass p = dite (dec_le (length ns) p) (λ far. ap (λ (k : Known). k.lost) (pass.rest p far))
    (λ near. let lt : p < length ns = Rattle.std.proofs.Common.lt_of_not-le near in ap (λ (k : Known). k.lost) (pass.each p lt) ∙ same_lost (get_or ns p 0) (known_of v.sequencing p))

pub visited : (v w : View) (p n : ℕ) → p < length v.sequencing.places → Surveyed p v n w → Visit FoundAt v p n w
visited v w p n inside step = let e = step.0 in let q = ap (λ (x : View). x.sequencing) e in let k : Known = known_at n (known_of v.sequencing p) in record {
  only = only_after v w p k v.loads inside (same_opening n (known_of v.sequencing p)) (sym (ap (λ (x : View). x.shape) e)) (sym (ap (λ (x : View). x.seen) e)) (sym (ap (λ (x : View). x.reading) e)) q;
  loads = ap (λ (x : View). x.loads) e;
  below = λ ne. (step.2 ne).2;
  shut = λ e. dite (ℕ_discrete n closed) (λ is. is) (λ ne. not_both (may_be_open v p) (step.2 ne).0 e);
  here = ap (λ (x : Sequencing). known_of x p) q ∙ known_here v.sequencing p k inside;
  rest = λ x ne. ap (λ (y : Sequencing). known_of y x) q ∙ known_else v.sequencing p x k ne;
}

-- what the sequencer knows of a cursor found open
known_open : (n : ℕ) (k : Known) → n ≢ closed → (known_at n k).floor ≡ n
known_open n k ne = ap (λ (b : Bool). (cond b (record k { is_open = false }) (record k { floor = n })).floor) (Rattle.std.proofs.Common.ne_eqb n closed ne)

known_shut : {P : Type 0} (n : ℕ) (k : Known) → n ≡ closed → (known_at n k).is_open ≡ true → P
known_shut n k is e = not_both (known_at n k).is_open e (ap (λ (b : Bool). (cond b (record k { is_open = false }) (record k { floor = n })).is_open) (Rattle.std.proofs.Common.eq-eqb n closed is))

pub shut_at : (n : ℕ) (k : Known) → n ≡ closed → (known_at n k).is_open ≡ false
shut_at n k is = ap (λ (b : Bool). (cond b (record k { is_open = false }) (record k { floor = n })).is_open) (Rattle.std.proofs.Common.eq-eqb n closed is)

pub room_at : (tail cells m n : ℕ) (k k' : Known) → k' ≡ known_at m k → (m ≢ closed → tail < m + cells) → k'.is_open ≡ true → tail < k'.floor + cells
room_at tail cells m n k k' is near live = dite (ℕ_discrete m closed) (λ shut. known_shut m k shut (ap (λ (z : Known). z.is_open) (sym is) ∙ live))
    (λ ne. let f : k'.floor ≡ m = ap (λ (z : Known). z.floor) is ∙ known_open m k ne in let h = near ne in omega arith)

pub room_cleared : (tail cells n : ℕ) (k k' : Known) → 0 < cells → Cleared tail cells n k k' → k'.is_open ≡ true → tail < k'.floor + cells
room_cleared tail cells n k k' some_cell c live = dite (ℕ_discrete n closed)
    (λ shut. room_at tail cells n n k k' (c.kept (inl shut)) (λ ne. absurd (ne shut)) live)
    (λ ne. dite (dec_le (n + cells) tail)
    (λ far. let d = c.pushed ne far in let whole = d.0 in ⊎_elim (λ e. let f : k'.floor ≡ suc n = ap (λ (z : Known). z.floor) e in omega arith)
    (λ e. room_at tail cells e.0 n (known_at n k) k' e.3 (λ m. let h = e.2 m in omega arith) live) d.1)
    (λ near. let lt : tail < n + cells = Rattle.std.proofs.Common.lt_of_not-le near in room_at tail cells n n k k' (c.kept (inr lt)) (λ _. lt) live))

-- after a pass there is room for the number n
pub roomy_at : (E : ℕ → Known → Known → Type 0) (cells n : ℕ) (v w : View) (ns : List ℕ) → length ns ≡ length v.sequencing.places → WholePass E v ns w
    → ((p : ℕ) (k k' : Known) → p < length ns → E (get_or ns p 0) k k' → k'.is_open ≡ true → n < k'.floor + cells) → IsRoomyAt cells n w
roomy_at E cells n v w ns long pass one p k at live = let count = pass.only.count in let inside = within w.sequencing.places p k at in let here : p < length ns = omega arith in
    let is : known_of w.sequencing p ≡ k = index_is w.sequencing.places p shut_place k at in
    one p (known_of v.sequencing p) k here (subst (E (get_or ns p 0) (known_of v.sequencing p)) is (pass.each p here)) live

-- after a pass there is room
roomy : (E : ℕ → Known → Known → Type 0) (cells : ℕ) (v w : View) (ns : List ℕ) → length ns ≡ length v.sequencing.places → WholePass E v ns w
    → ((p : ℕ) (k k' : Known) → p < length ns → E (get_or ns p 0) k k' → k'.is_open ≡ true → next_number v < k'.floor + cells) → IsRoomy cells w
roomy E cells v w ns long pass one = let same : next_number v ≡ next_number w = (λ i. (sym pass.only.shape i).first + length (sym pass.only.seen i)) in
    subst (λ (z : ℕ). IsRoomyAt cells z w) same (roomy_at E cells (next_number v) v w ns long pass one)

pub roomy_cleared : (tail cells : ℕ) (v w : View) (ns : List ℕ) → 0 < cells → tail ≡ next_number v → length ns ≡ length v.sequencing.places → WholePass (Cleared tail cells) v ns w → IsRoomy cells w
roomy_cleared tail cells v w ns some_cell is long pass = roomy (Cleared tail cells) cells v w ns long pass (λ p k k' h c live. let r = room_cleared tail cells (get_or ns p 0) k k' some_cell c live in omega arith)

pub roomy_found : (tail lag cells : ℕ) (v w : View) (ns : List ℕ) → lag ≤ cells → tail ≡ next_number v → length ns ≡ length v.sequencing.places → WholePass FoundAt v ns w → Behind tail lag ns false → IsRoomy cells w
roomy_found tail lag cells v w ns le is long pass behind = roomy FoundAt cells v w ns long pass
    (λ p k k' h e live. let r = room_at tail cells (get_or ns p 0) 0 k k' e (λ ne. let b = behind.none refl p h ne in omega arith) live in omega arith)

pub behind_none : (tail lag : ℕ) → Behind tail lag [] false
behind_none tail lag = record { some = λ e. not_both false e refl; none = λ _ p h. absurd (omega arith) }

pub behind_more : (tail lag : ℕ) (ns : List ℕ) (n : ℕ) (was now : Bool) → Behind tail lag ns was → (n ≢ closed → n + lag ≤ tail → now ≡ true) → (was ≡ true → now ≡ true) → (now ≡ true → (was ≡ true) ⊎ ((n ≢ closed) × (n + lag ≤ tail)))
    → Behind tail lag (ns ++ n ∷ []) now
behind_more tail lag ns n was now before hit keep why = let longer : length (ns ++ n ∷ []) ≡ length ns + 1 = length-append ns (n ∷ []) in record {
  some = λ e. ⊎_elim (λ a. let s = before.some a in (s.0, omega arith, subst (λ (z : ℕ). z ≢ closed) (sym (at_front ns n s.0 s.1)) s.2, subst (λ (z : ℕ). z + lag ≤ tail) (sym (at_front ns n s.0 s.1)) s.3))
      (λ b. (length ns, omega arith, subst (λ (z : ℕ). z ≢ closed) (sym (at_back ns n)) b.0, subst (λ (z : ℕ). z + lag ≤ tail) (sym (at_back ns n)) b.1)) (why e);
  none = λ e p h. dite (ℕ_discrete p (length ns))
      (λ is. subst (λ (z : ℕ). z ≢ closed → tail < z + lag) (sym (ap (λ (z : ℕ). get_or (ns ++ n ∷ []) z 0) is ∙ at_back ns n)) (λ ne. Rattle.std.proofs.Common.lt_of_not-le (λ le. not_both now (hit ne le) e)))
      (λ ne. subst (λ (z : ℕ). z ≢ closed → tail < z + lag) (sym (at_front ns n p (omega arith))) (before.none (⊎_elim (λ t. not_both now (keep t) e) (λ f. f) (Rattle.shared_lane.proofs.Lists.which was)) p (omega arith)));
}

-- what the sequencer knows of a place whose reader's end it heard
over_opening : (opening : ℕ) (k : Known) → (known_over opening k).opening ≡ k.opening
over_opening opening k = go (eqb k.opening opening)
  where
    go : (b : Bool) → (cond b (record k { is_open = false }) k).opening ≡ k.opening
    go true = refl
    go false = refl

over_shut : (opening : ℕ) (k : Known) → k.opening ≡ opening → (known_over opening k).is_open ≡ false
over_shut opening k same = ap (λ (b : Bool). (cond b (record k { is_open = false }) k).is_open) (Rattle.std.proofs.Common.eq-eqb k.opening opening same)

pub over_opens_none : (v w : View) (p opening : ℕ) → p < length v.sequencing.places → w.sequencing ≡ place_over p opening v.sequencing → OpensNone v w
over_opens_none v w p opening inside q = let k : Known = known_of v.sequencing p in opens_none v w p (known_over opening k) inside (over_opening opening k) q

pub over_is_shut : (v w : View) (p opening : ℕ) → p < length v.sequencing.places → w.sequencing ≡ place_over p opening v.sequencing → opening_at w p ≡ opening → may_be_open w p ≡ false
over_is_shut v w p opening inside q latest = let k : Known = known_of v.sequencing p in let none = over_opens_none v w p opening inside q in
    ap (λ (x : Sequencing). (known_of x p).is_open) q ∙ (ap (λ (y : Known). y.is_open) (known_here v.sequencing p (known_over opening k) inside) ∙ over_shut opening k (sym (none p) ∙ latest))
