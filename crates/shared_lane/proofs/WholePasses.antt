-- A pass over the cursors that may be open is one over all, where the others count as found closed.
use Rattle.std.proofs.Common.{◌≡◌, ◌≢◌, ℕ, zero, suc, ◌+◌, ◌-◌, ◌<◌, ◌≤◌, cond, eqb, Bool, true, false, List, [], ◌∷◌, ◌++◌, length, replicate, get_or, sym, refl, ap, ◌∙◌, subst, inl, arith, length-append, eq-eqb, ne_eqb, lt_of_not-le}
use mathlib.Core.Logic.{dite}
use native.Mathlib.Decide.{ℕ_discrete, dec_le}
use Rattle.std.proofs.lemmas.List.{get_or_append_left, get_or-append_right, get_or-replicate, length-replicate}
use Rattle.std.proofs.Math.Seq.{take-append_seam}
use Rattle.shared_lane.specs.declared.view.Known.{Known}
use Rattle.shared_lane.specs.declared.view.View.{View}
use Rattle.shared_lane.specs.Law.{closed}
use Rattle.shared_lane.specs.Steps.{known_of, next_number}
use Rattle.shared_lane.specs.Surveys.{cursor_loads, open_count, ShutFrom, LosesNone, Pass, WholePass, FoundAt, Cleared, Behind}
use Rattle.shared_lane.specs.Blocks.{HasRoom}
use Rattle.shared_lane.proofs.Passes.{at_back, same_lost, shut_at}

-- the cursors that were found, and so many more that are known to be closed
abbrev pub all_of : List ℕ → ℕ → List ℕ
all_of ns more = ns ++ replicate more closed

pub all_long : (ns : List ℕ) (more : ℕ) → length (all_of ns more) ≡ length ns + more
all_long ns more = length-append ns (replicate more closed) ∙ ap (λ (z : ℕ). length ns + z) (length-replicate more closed)

found_in : (ns : List ℕ) (more p : ℕ) → p < length ns → get_or (all_of ns more) p 0 ≡ get_or ns p 0
found_in ns more p h = get_or_append_left ns (replicate more closed) 0 p h

shut_in : (ns : List ℕ) (more p : ℕ) → length ns ≤ p → p < length (all_of ns more) → get_or (all_of ns more) p 0 ≡ closed
shut_in ns more p far h = let long = all_long ns more in get_or-append_right ns (replicate more closed) (length ns) p 0 refl far ∙ get_or-replicate more (p - length ns) closed 0 (omega arith)

-- what is known of a closed place stays where it is found closed
pub found_still : (k : Known) → k.is_open ≡ false → FoundAt closed k k
found_still k shut = ap (λ (b : Bool). let k' : Known = record k { is_open = b } in k') shut

pub cleared_still : (tail cells : ℕ) (k : Known) → k.is_open ≡ false → Cleared tail cells closed k k
cleared_still tail cells k shut = record { kept = λ _. found_still k shut; pushed = λ ne far. absurd (ne refl) }

pub whole_of : (E : ℕ → Known → Known → Type 0) (v w : View) (ns : List ℕ) (more : ℕ) → ((k : Known) → k.is_open ≡ false → E closed k k) → Pass E v ns w → ShutFrom v (length ns) → WholePass E v (all_of ns more) w
whole_of E v w ns more still pass shut = let long = all_long ns more in record {
  only = pass.only;
  loads = (length ns, pass.loads ∙ ap (λ (l : List ℕ). v.loads ++ cursor_loads 0 l) (sym (take-append_seam ns (replicate more closed))), λ p far _. shut p far);
  below = λ p h. dite (dec_le (length ns) p) (λ far ne. absurd (ne (shut_in ns more p far h)))
      (λ near. let lt : p < length ns = lt_of_not-le near in subst (λ (z : ℕ). z ≢ closed → z ≤ next_number v) (sym (found_in ns more p lt)) (pass.below p lt));
  shut = λ p h e. dite (dec_le (length ns) p) (λ far. shut_in ns more p far h) (λ near. let lt : p < length ns = lt_of_not-le near in found_in ns more p lt ∙ pass.shut p lt e);
  each = λ p h. dite (dec_le (length ns) p)
      (λ far. subst (λ (z : ℕ × Known). E z.0 (known_of v.sequencing p) z.1) (λ i. (sym (shut_in ns more p far h) i, sym (pass.rest p far) i)) (still (known_of v.sequencing p) (shut p far)))
      (λ near. let lt : p < length ns = lt_of_not-le near in subst (λ (z : ℕ). E z (known_of v.sequencing p) (known_of w.sequencing p)) (sym (found_in ns more p lt)) (pass.each p lt));
  rest = λ p h. pass.rest p (omega arith);
}

pub behind_all : (tail lag : ℕ) (ns : List ℕ) (more : ℕ) (flag : Bool) → Behind tail lag ns flag → Behind tail lag (all_of ns more) flag
behind_all tail lag ns more flag b = let long = all_long ns more in record {
  some = λ e. let s = b.some e in let p : ℕ = s.0 in let is = sym (found_in ns more p s.1) in (p, omega arith, subst (λ (z : ℕ). z ≢ closed) is s.2, subst (λ (z : ℕ). z + lag ≤ tail) is s.3);
  none = λ e p h ne. dite (dec_le (length ns) p) (λ far. absurd (ne (shut_in ns more p far h)))
      (λ near. let lt : p < length ns = lt_of_not-le near in let is = found_in ns more p lt in subst (λ (z : ℕ). tail < z + lag) (sym is) (b.none e p lt (λ e'. ne (is ∙ e'))));
}

none_open : (more : ℕ) → open_count (replicate more closed) ≡ 0
none_open zero = refl
none_open (suc more) = none_open more

pub open_all : (ns : List ℕ) (more : ℕ) → open_count (all_of ns more) ≡ open_count ns
open_all [] more = none_open more
open_all (n ∷ ns) more = ap (λ (z : ℕ). cond (eqb n closed) z (suc z)) (open_all ns more)

pub room_all : (tail lag : ℕ) (ns : List ℕ) (more most room : ℕ) → HasRoom tail lag ns most room → HasRoom tail lag (all_of ns more) most room
room_all tail lag ns more most room has = record {
  few = has.few;
  near = λ n low high. behind_all n lag ns more false (has.near n low high);
  no_more = λ h. behind_all (tail + room) lag ns more true (has.no_more h);
}

-- a pass that left the cursors where they were found lost nothing
pub found_loses_none : (v w : View) (ns : List ℕ) → WholePass FoundAt v ns w → LosesNone v w
found_loses_none v w ns pass p = dite (dec_le (length ns) p) (λ far. ap (λ (k : Known). k.lost) (pass.rest p far))
    (λ near. let lt : p < length ns = lt_of_not-le near in ap (λ (k : Known). k.lost) (pass.each p lt) ∙ same_lost (get_or ns p 0) (known_of v.sequencing p))

-- each of these cursors from the place `end` on was found closed
pub record EndsAt (ns : List ℕ) (end : ℕ) : Type 0 where
  pub within : end ≤ length ns
  pub shut : (p : ℕ) → end ≤ p → p < length ns → get_or ns p 0 ≡ closed

pub ends_none : EndsAt [] 0
ends_none = record { within = omega arith; shut = λ p _ h. absurd (omega arith) }

one_more : (ns : List ℕ) (n end : ℕ) → EndsAt ns end → EndsAt (ns ++ n ∷ []) (cond (eqb n closed) end (length ns + 1))
one_more ns n end was = let longer : length (ns ++ n ∷ []) ≡ length ns + 1 = length-append ns (n ∷ []) in let few = was.within in dite (ℕ_discrete n closed)
    (λ is. subst (λ (b : Bool). EndsAt (ns ++ n ∷ []) (cond b end (length ns + 1))) (sym (eq-eqb n closed is)) (record {
      within = omega arith;
      shut = λ p le h. dite (ℕ_discrete p (length ns)) (λ last. ap (λ (z : ℕ). get_or (ns ++ n ∷ []) z 0) last ∙ (at_back ns n ∙ is))
          (λ ne. get_or_append_left ns (n ∷ []) 0 p (omega arith) ∙ was.shut p le (omega arith));
    }))
    (λ ne. subst (λ (b : Bool). EndsAt (ns ++ n ∷ []) (cond b end (length ns + 1))) (sym (ne_eqb n closed ne)) (record { within = omega arith; shut = λ p le h. absurd (omega arith) }))

pub ends_more : (ns : List ℕ) (n place end end' : ℕ) → length ns ≡ place → EndsAt ns end → end' ≡ cond (eqb n closed) end (place + 1) → EndsAt (ns ++ n ∷ []) end'
ends_more ns n place end end' long was is = subst (EndsAt (ns ++ n ∷ [])) (ap (λ (z : ℕ). cond (eqb n closed) end (z + 1)) long ∙ sym is) (one_more ns n end was)

-- after a pass each place from there on is known to be closed
pub found_shut : (k k' : Known) → FoundAt closed k k' → k'.is_open ≡ false
found_shut k k' is = ap (λ (z : Known). z.is_open) is ∙ shut_at closed k refl

pub cleared_shut : (tail cells : ℕ) (k k' : Known) → Cleared tail cells closed k k' → k'.is_open ≡ false
cleared_shut tail cells k k' cleared = found_shut k k' (cleared.kept (inl refl))

pub shut_after : (E : ℕ → Known → Known → Type 0) (v w : View) (ns : List ℕ) (end : ℕ) → ((k k' : Known) → E closed k k' → k'.is_open ≡ false) → Pass E v ns w → ShutFrom v (length ns) → EndsAt ns end → ShutFrom w end
shut_after E v w ns end shuts pass shut ends p le = dite (dec_le (length ns) p) (λ far. ap (λ (k : Known). k.is_open) (pass.rest p far) ∙ shut p far)
    (λ near. let lt : p < length ns = lt_of_not-le near in shuts (known_of v.sequencing p) (known_of w.sequencing p) (subst (λ (z : ℕ). E z (known_of v.sequencing p) (known_of w.sequencing p)) (ends.shut p le lt) (pass.each p lt)))
