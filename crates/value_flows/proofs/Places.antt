-- Where each owner keeps to its own place, each place is as its subscription left it.
use Rattle.std.proofs.Common.{◌≡◌, ◌≢◌, ℕ, zero, suc, ◌+◌, Option, Some, None, List, [], ◌∷◌, ◌++◌, set, slice_get, refl, sym, ap, ◌∙◌, subst}
use Rattle.std.specs.List.{All}
use Rattle.std.proofs.lemmas.List.Elements.{All-nil, All-push}
use Rattle.std.proofs.lemmas.Option.{none-some}
use mathlib.Core.Logic.{dite}
use native.Mathlib.Decide.{ℕ_discrete}
use Rattle.round_lock.specs.History.{After, own_of}
use Rattle.round_lock.specs.History.After.{new, more}
use Rattle.round_lock.proofs.Rounds.{own_mine, own_other}
use Rattle.flow_terms.specs.declared.policy.Policy.TheVariants as policy
use Rattle.value_flows.specs.declared.round.Round.{Round}
use Rattle.value_flows.specs.declared.round.Round.TheVariants as round
use Rattle.value_flows.specs.declared.ring.Ring.{Ring}
use Rattle.value_flows.specs.Does.{IsFirst, Does, moved}
use Rattle.value_flows.specs.Accepted.{accepted_in}
use Rattle.value_flows.specs.Keeping.{Fits, KeepsTo, standing, stands}
use Rattle.value_flows.specs.Laws.{IsMiss}
use Rattle.value_flows.proofs.Histories.{left_latest}
use Rattle.value_flows.proofs.Passing.{drops_none, stands_push}

Some-injective : {A : Type 0} {x y : A} → Some x ≡ Some y → x ≡ y
Some-injective e = cc

got_set_same : {X : Type 0} (xs : List X) (i : ℕ) (x y : X) → slice_get xs i ≡ Some x → slice_get (set xs i y) i ≡ Some y
got_set_same [] i x y got = absurd (none-some x got)
got_set_same (z ∷ xs) zero x y got = refl
got_set_same (z ∷ xs) (suc i) x y got = got_set_same xs i x y got

got_set_other : {X : Type 0} (xs : List X) (i j : ℕ) (y : X) → j ≢ i → slice_get (set xs i y) j ≡ slice_get xs j
got_set_other [] i j y other = refl
got_set_other (z ∷ xs) zero zero y other = absurd (other refl)
got_set_other (z ∷ xs) zero (suc j) y other = refl
got_set_other (z ∷ xs) (suc i) zero y other = refl
got_set_other (z ∷ xs) (suc i) (suc j) y other = got_set_other xs i j y (λ is. other (ap suc is))

keeps_split : (at : Option (ℕ × ℕ)) (calls : List Round) (r : Round) → KeepsTo at (calls ++ r ∷ []) → KeepsTo at calls × Fits (stands at calls) r
keeps_split at [] r keeps = (tt, keeps.0)
keeps_split at (s ∷ calls) r keeps =
    let rest = keeps_split (standing at s) calls r keeps.1 in ((keeps.0, rest.0), rest.1)

place_is : (a b m n : ℕ) → ◌≡◌ {A = Option (ℕ × ℕ)} (Some (a, m)) (Some (b, n)) → (a ≡ b) × (m ≡ n)
place_is a b m n is = let pair : ◌≡◌ {A = ℕ × ℕ} (a, m) (b, n) = Some-injective is in (ap (λ (p : ℕ × ℕ). p.0) pair, ap (λ (p : ℕ × ℕ). p.1) pair)

module _ {T : Type 0} where
  -- each owner that stands at a place finds it as it left it, and no two stand at one
  record IsPlaced (calls : List (ℕ × Round × Ring T)) (ring : Ring T) : Type 0 where
    at : (pass place next : ℕ) → stands None (own_of pass calls) ≡ Some (place, next) → slice_get ring.cursors place ≡ Some (Some next)
    apart : (p q place m n : ℕ) → stands None (own_of p calls) ≡ Some (place, m) → stands None (own_of q calls) ≡ Some (place, n) → p ≡ q

  -- where an owner stands after one call more, of its own or of another
  mine : (calls : List (ℕ × Round × Ring T)) (pass : ℕ) (r : Round) (t : Ring T) → stands None (own_of pass (calls ++ (pass, r, t) ∷ [])) ≡ standing (stands None (own_of pass calls)) r
  mine calls pass r t = ap (stands None) (own_mine calls pass r t) ∙ stands_push None (own_of pass calls) r

  others : (calls : List (ℕ × Round × Ring T)) (pass : ℕ) (r : Round) (t : Ring T) (q : ℕ) → q ≢ pass → stands None (own_of q (calls ++ (pass, r, t) ∷ [])) ≡ stands None (own_of q calls)
  others calls pass r t q other = ap (stands None) (own_other calls pass r t q other)

  -- a call that moved no place
  same_places : (calls : List (ℕ × Round × Ring T)) (s : Ring T) (pass : ℕ) (r : Round) (t : Ring T) → IsPlaced calls s → t.cursors ≡ s.cursors → standing (stands None (own_of pass calls)) r ≡ stands None (own_of pass calls) → IsPlaced (calls ++ (pass, r, t) ∷ []) t
  same_places calls s pass r t placed same stays =
      let all : (q : ℕ) → stands None (own_of q (calls ++ (pass, r, t) ∷ [])) ≡ stands None (own_of q calls) =
      λ q. dite (ℕ_discrete q pass) (λ is. subst (λ p. stands None (own_of p (calls ++ (pass, r, t) ∷ [])) ≡ stands None (own_of p calls)) (sym is) (mine calls pass r t ∙ stays)) (λ other. others calls pass r t q other) in record {
        at = λ q place next h. ap (λ (l : List (Option ℕ)). slice_get l place) same ∙ placed.at q place next (sym (all q) ∙ h);
        apart = λ p q place m n hp hq. placed.apart p q place m n (sym (all p) ∙ hp) (sym (all q) ∙ hq);
      }

  -- a call that moved this place, at which no other owner stood
  one_moved : (calls : List (ℕ × Round × Ring T)) (s : Ring T) (pass : ℕ) (r : Round) (t : Ring T) (place : ℕ) (cursor : Option ℕ) → IsPlaced calls s → t ≡ moved place cursor s → ((q next : ℕ) → q ≢ pass → stands None (own_of q calls) ≢ Some (place, next))
      → ((p next : ℕ) → standing (stands None (own_of pass calls)) r ≡ Some (p, next) → (p ≡ place) × (slice_get (set s.cursors place cursor) place ≡ Some (Some next)))
      → IsPlaced (calls ++ (pass, r, t) ∷ []) t
  one_moved calls s pass r t place cursor placed is alone own =
      let cursors : t.cursors ≡ set s.cursors place cursor = ap (λ (u : Ring T). u.cursors) is in
      let of_mine : (p next : ℕ) → stands None (own_of pass (calls ++ (pass, r, t) ∷ [])) ≡ Some (p, next) → (p ≡ place) × (slice_get t.cursors p ≡ Some (Some next)) =
      λ p next h.
      let found = own p next (sym (mine calls pass r t) ∙ h) in
      (found.0, ap (λ (l : List (Option ℕ)). slice_get l p) cursors ∙ subst (λ k. slice_get (set s.cursors place cursor) k ≡ Some (Some next)) (sym found.0) found.1) in
      let of_others : (q p next : ℕ) → q ≢ pass → stands None (own_of q (calls ++ (pass, r, t) ∷ [])) ≡ Some (p, next) → (p ≢ place) × (stands None (own_of q calls) ≡ Some (p, next)) =
      λ q p next other h.
      let stood = sym (others calls pass r t q other) ∙ h in
      (λ same. alone q next other (subst (λ k. stands None (own_of q calls) ≡ Some (k, next)) same stood), stood) in record {
        at = λ q p next h. dite (ℕ_discrete q pass)
            (λ is_mine. (of_mine p next (subst (λ k. stands None (own_of k (calls ++ (pass, r, t) ∷ [])) ≡ Some (p, next)) is_mine h)).1)
            (λ other.
            let stood = of_others q p next other h in
            ap (λ (l : List (Option ℕ)). slice_get l p) cursors ∙ got_set_other s.cursors place p cursor stood.0 ∙ placed.at q p next stood.1);
        apart = λ p q k m n hp hq. dite (ℕ_discrete p pass)
            (λ p_mine. dite (ℕ_discrete q pass)
            (λ q_mine. p_mine ∙ sym q_mine)
            (λ other. absurd ((of_others q k n other hq).0 (of_mine k m (subst (λ j. stands None (own_of j (calls ++ (pass, r, t) ∷ [])) ≡ Some (k, m)) p_mine hp)).0)))
            (λ p_other. dite (ℕ_discrete q pass)
            (λ q_mine. absurd ((of_others p k m p_other hp).0 (of_mine k n (subst (λ j. stands None (own_of j (calls ++ (pass, r, t) ∷ [])) ≡ Some (k, n)) q_mine hq)).0))
            (λ q_other. placed.apart p q k m n (of_others p k m p_other hp).1 (of_others q k n q_other hq).1));
      }

  -- who stands at a place goes on there
  goes_on : (calls : List (ℕ × Round × Ring T)) (s : Ring T) (pass : ℕ) (r : Round) (t : Ring T) (place from next : ℕ) → IsPlaced calls s → stands None (own_of pass calls) ≡ Some (place, from) → ((o : Option (ℕ × ℕ)) → standing o r ≡ Some (place, next)) → t ≡ moved place (Some next) s → IsPlaced (calls ++ (pass, r, t) ∷ []) t
  goes_on calls s pass r t place from next placed stood goes is =
      one_moved calls s pass r t place (Some next) placed is (λ q n other h. other (placed.apart q pass place n from h stood)) (λ p n h.
      let same = place_is place p next n (sym (goes (stands None (own_of pass calls))) ∙ h) in
      (sym same.0, got_set_same s.cursors place (Some from) (Some next) (placed.at pass place from stood) ∙ ap (λ k. Some (Some k)) same.1))

  placed_more : (calls : List (ℕ × Round × Ring T)) (s : Ring T) (pass : ℕ) (r : Round) (t : Ring T) → IsPlaced calls s → Fits (stands None (own_of pass calls)) r → Does s r t → IsPlaced (calls ++ (pass, r, t) ∷ []) t
  placed_more calls s pass round.Look t placed fits does = same_places calls s pass round.Look t placed (ap (λ (u : Ring T). u.cursors) does) refl
  placed_more calls s pass round.Emit t placed fits does = same_places calls s pass round.Emit t placed (ap (λ (u : Ring T). u.cursors) does.1) refl
  placed_more calls s pass (round.Begin place start) t placed fits does =
      one_moved calls s pass (round.Begin place start) t place (Some start) placed does.0
      (λ q n other h. none-some n (Some-injective (sym does.2 ∙ placed.at q place n h)))
      (λ p n h.
      let same = place_is place p start n h in
      (sym same.0, got_set_same s.cursors place None (Some start) does.2 ∙ ap (λ k. Some (Some k)) same.1))
  placed_more calls s pass (round.Give place number) t placed fits does = goes_on calls s pass (round.Give place number) t place number (number + 1) placed fits (λ o. refl) does.0
  placed_more calls s pass (round.Miss place from count) t placed fits does = goes_on calls s pass (round.Miss place from count) t place from (from + count) placed fits (λ o. refl) does.0
  placed_more calls s pass (round.End place) t placed fits does =
      one_moved calls s pass (round.End place) t place None placed does (λ q n other h. other (placed.apart q pass place n fits.0 h fits.1)) (λ p n h. absurd (none-some (p, n) h))
  placed_more calls s pass round.Forget t placed fits does = same_places calls s pass round.Forget t placed (ap (λ (u : Ring T). u.cursors) does) refl

  abbrev EachKeeps : List (ℕ × Round × Ring T) → Type 0
  EachKeeps calls = (pass : ℕ) → KeepsTo None (own_of pass calls)

  kept_before : (calls : List (ℕ × Round × Ring T)) (pass : ℕ) (r : Round) (t : Ring T) → EachKeeps (calls ++ (pass, r, t) ∷ []) → EachKeeps calls × Fits (stands None (own_of pass calls)) r
  kept_before calls pass r t keeps =
      let last = keeps_split None (own_of pass calls) r (subst (KeepsTo None) (own_mine calls pass r t) (keeps pass)) in (
        λ q. dite (ℕ_discrete q pass) (λ is. subst (λ p. KeepsTo None (own_of p calls)) (sym is) last.0) (λ other. subst (KeepsTo None) (own_other calls pass r t q other) (keeps q)),
        last.1,
      )

  placed : (made : Ring T) (calls : List (ℕ × Round × Ring T)) (ring : Ring T) → After IsFirst Does made calls ring → EachKeeps calls → IsPlaced calls ring
  placed _ _ _ (new s first) keeps = record { at = λ pass place next h. absurd (none-some (place, next) h); apart = λ p q place m n h k. absurd (none-some (place, m) h) }
  placed _ _ _ (more made calls s pass r t after does) keeps =
      let before = kept_before calls pass r t keeps in placed_more calls s pass r t (placed made calls s after before.0) before.1 does

  -- the policy stays
  policy_is : (s : Ring T) (r : Round) (t : Ring T) → Does s r t → t.policy ≡ s.policy
  policy_is s round.Look t does = ap (λ (u : Ring T). u.policy) does
  policy_is s round.Emit t does = ap (λ (u : Ring T). u.policy) does.1
  policy_is s (round.Begin place start) t does = ap (λ (u : Ring T). u.policy) does.0
  policy_is s (round.Give place number) t does = ap (λ (u : Ring T). u.policy) does.0
  policy_is s (round.Miss place from count) t does = ap (λ (u : Ring T). u.policy) does.0
  policy_is s (round.End place) t does = ap (λ (u : Ring T). u.policy) does
  policy_is s round.Forget t does = ap (λ (u : Ring T). u.policy) does

  no_miss : (made : Ring T) (calls : List (ℕ × Round × Ring T)) (s : Ring T) (pass : ℕ) (r : Round) (t : Ring T) → After IsFirst Does made calls s → IsPlaced calls s → Fits (stands None (own_of pass calls)) r → s.policy ≢ policy.DropOldest → Does s r t → ¬ IsMiss r
  no_miss made calls s pass round.Look t after here fits keeps does is = is
  no_miss made calls s pass round.Emit t after here fits keeps does is = is
  no_miss made calls s pass (round.Begin place start) t after here fits keeps does is = is
  no_miss made calls s pass (round.Give place number) t after here fits keeps does is = is
  no_miss made calls s pass (round.Miss place from count) t after here fits keeps does is =
      drops_none s (accepted_in calls) place from count (left_latest made calls s after) does.1 does.2 keeps (here.at pass place from fits)
  no_miss made calls s pass (round.End place) t after here fits keeps does is = is
  no_miss made calls s pass round.Forget t after here fits keeps does is = is

  pub none_missed : (made : Ring T) (calls : List (ℕ × Round × Ring T)) (ring : Ring T) → After IsFirst Does made calls ring → ring.policy ≢ policy.DropOldest → EachKeeps calls → All (λ (t : ℕ × Round × Ring T). ¬ IsMiss t.1) calls
  none_missed _ _ _ (new s first) keeps each = All-nil (λ (t : ℕ × Round × Ring T). ¬ IsMiss t.1)
  none_missed _ _ _ (more made calls s pass r t after does) keeps each =
      let before = kept_before calls pass r t each in
      let other : s.policy ≢ policy.DropOldest = λ is. keeps (policy_is s r t does ∙ is) in
      All-push (λ (u : ℕ × Round × Ring T). ¬ IsMiss u.1) calls (pass, r, t) (none_missed made calls s after other before.0)
      (no_miss made calls s pass r t after (placed made calls s after before.0) before.1 other does)
