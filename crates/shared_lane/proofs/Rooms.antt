-- Room for several emissions.
use Rattle.std.proofs.Common.{◌≡◌, ◌≢◌, ℕ, ◌+◌, ◌<◌, ◌≤◌, true, false, List, [], ◌∷◌, ◌++◌, length, get_or, sym, refl, subst, inl, inr, arith, length-append}
use mathlib.Core.Logic.{dite}
use native.Mathlib.Decide.{ℕ_discrete}
use Rattle.shared_lane.specs.declared.view.View.{View}
use Rattle.shared_lane.specs.Law.{closed}
use Rattle.shared_lane.specs.Steps.{IsRoomyAt}
use Rattle.shared_lane.proofs.Lists.{not_both}
use Rattle.shared_lane.specs.Surveys.{WholePass, FoundAt, Cleared, Behind}
use Rattle.shared_lane.specs.Blocks.{HasRoom, LeavesRoom}
use Rattle.shared_lane.proofs.Passes.{at_back, behind_none, behind_more, room_at, room_cleared, roomy_at}

pub room_before : (tail lag most : ℕ) → HasRoom tail lag [] most most
room_before tail lag most = record { few = omega arith; near = λ n _ _. behind_none n lag; no_more = λ h. absurd (omega arith) }

pub room_after : (tail lag most room room' : ℕ) (ns : List ℕ) (n : ℕ) → HasRoom tail lag ns most room → LeavesRoom tail lag n room room' → HasRoom tail lag (ns ++ n ∷ []) most room'
room_after tail lag most room room' ns n was one = let fewer = one.few in let few = was.few in let longer : length (ns ++ n ∷ []) ≡ length ns + 1 = length-append ns (n ∷ []) in record {
  few = omega arith;
  near = λ k low high. behind_more k lag ns n false false (was.near k low (omega arith)) (λ ne le. let h = one.near ne (omega arith) in absurd (omega arith)) (λ e. e) (λ e. not_both false e refl);
  no_more = λ h. dite (ℕ_discrete room' room)
      (λ same. let before = was.no_more (omega arith) in subst (λ (z : ℕ). Behind (tail + z) lag (ns ++ n ∷ []) true) (sym same) (behind_more (tail + room) lag ns n true true before (λ _ _. refl) (λ e. e) (λ e. inl e)))
      (λ other. let last = one.no_more (omega arith) in record {
        some = λ _. (length ns, omega arith, subst (λ (z : ℕ). z ≢ closed) (sym (at_back ns n)) last.0, subst (λ (z : ℕ). z + lag ≤ tail + room') (sym (at_back ns n)) last.1);
        none = λ e. not_both true refl e;
      });
}

-- after a pass there is room for the number k
pub room_found : (tail lag cells k : ℕ) (v w : View) (ns : List ℕ) → lag ≤ cells → length ns ≡ length v.sequencing.places → WholePass FoundAt v ns w → Behind k lag ns false → IsRoomyAt cells k w
room_found tail lag cells k v w ns le long pass behind = roomy_at FoundAt cells k v w ns long pass
    (λ p c c' h e live. room_at k cells (get_or ns p 0) 0 c c' e (λ ne. let b = behind.none refl p h ne in omega arith) live)

pub room_kept : (tail cells k : ℕ) (v w : View) (ns : List ℕ) → 0 < cells → tail ≤ k → length ns ≡ length v.sequencing.places → WholePass (Cleared tail cells) v ns w → (tail < k → Behind k cells ns false) → IsRoomyAt cells k w
room_kept tail cells k v w ns some_cell le long pass behind = roomy_at (Cleared tail cells) cells k v w ns long pass
    (λ p c c' h cleared live. dite (ℕ_discrete k tail)
    (λ same. let r = room_cleared tail cells (get_or ns p 0) c c' some_cell cleared live in omega arith)
    (λ other. let b = behind (omega arith) in dite (ℕ_discrete (get_or ns p 0) closed)
    (λ shut. room_at k cells (get_or ns p 0) 0 c c' (cleared.kept (inl shut)) (λ ne. absurd (ne shut)) live)
    (λ ne. let near = b.none refl p h ne in room_at k cells (get_or ns p 0) 0 c c' (cleared.kept (inr (omega arith))) (λ _. near) live)))
