-- A null handle by value is what its fields own. Assumes `Logic`.
use mathlib.Core.Path.{◌≡◌, refl, subst}
use mathlib.Core.List.{List, [], ◌∷◌, ◌++◌}
use lib.Dec.{T, lit<}
use seplogic.Ra.Ura.{Ura}
use mir.Val.{Val, vnull, vstruct, vcons, vnil, of_list, has_ty, WT}
use base.Fml.{ftrue}
use types.Logic.{Logic}
use types.Kit.{Goal, Step, step, Seq, Item, ‵, ◌$◌, move, drop, fsplit, fjoin, fpick, fpack, feq_l, feq_i}
use denote.RattleType.{Valss}
use denote.RawPtr.{Ptr, null_ptr, ptr_val}
use denote.Steps.{nothing}
use denote.Struct.Struct.{within}
use denote.Struct.Owning.{shape, fields, to}
use Rattle.core.proofs.alloc.Calls.{α, Fits, handle_tells}
use Rattle.std.specs.Prelude.{None}
use Rattle.std_alloc.proofs.BoxSteps.Form.{box_ty, handle}
use Rattle.std_alloc.proofs.ResultValues.{and_tt}
use Rattle.std_heap.specs.declared.Global.{Global}
use Rattle.hillgauze_c.specs.contracts.handle.Handle as Sealed
use Rattle.hillgauze_c.proofs.AsBox.{E}

abbrev pub null_word : Val → Val
null_word hv = vstruct (vcons vnull (vcons hv vnil))

pub null_typed : (hv : Val) → Fits E.al hv → T (has_ty (box_ty E) (null_word hv)) × WT (null_word hv)
null_typed hv fa = (and_tt (has_ty (α E.al) hv) fa.0, (record { fits = lit< tt }, (fa.1, tt)))

abbrev pub null_handle : Global → Ptr → Sealed.the_row.Denot
null_handle a p = record { ptr = p; alloc = a; object = None }

module _ {M : Type 1} {𝓤 : Ura M} {𝓛 : Logic 𝓤} {K : Type 0} {Γ : List (Item 𝓤)} {G : Goal 𝓤 𝓛.H} where
  pub null_in : K → (hv : Val) (a : Global) → Step K 𝓛 (‵ (Sealed.the_row.own_val (null_handle a null_ptr) (null_word hv ∷ [])) ∷ Γ) G (‵ (handle E a hv) ∷ Γ) G
  null_in t hv a = step (λ s.
      nothing t $ fpack t (null_ptr ≡ null_ptr) (λ _. ftrue) refl $ nothing t $ move t (2 ∷ 0 ∷ []) $ fjoin t $ feq_i t (List Val) (vnull ∷ []) (ptr_val null_ptr ∷ []) refl $ fjoin t $
      feq_i t (List Val) (null_word hv ∷ []) (null_word hv ∷ []) refl $ fjoin t $
      fpack t (Valss (fields Sealed.the_type)) (within (shape Sealed.the_type) (to Sealed.the_type (null_handle a null_ptr)) (null_word hv ∷ [])) (vnull ∷ [], (hv ∷ [], tt)) $ fjoin t $ s)

  pub null_out : K → (p : Ptr) (a : Global) (vs : List Val)
      → ((hv : Val) → p ≡ null_ptr → vs ≡ null_word hv ∷ [] → Fits E.al hv → Seq K 𝓛 (‵ (handle E a hv) ∷ Γ) G)
      → Seq K 𝓛 (‵ (Sealed.the_row.own_val (null_handle a p) vs) ∷ Γ) G
  null_out t p a vs k =
      fsplit t $ fpick t (λ vss. fsplit t $ feq_l t (λ ev. fsplit t $ feq_l t (λ ep. fsplit t $ handle_tells E.al t a vss.1.0 (λ hv ea fa. move t (1 ∷ []) $ drop t $ move t (1 ∷ []) $
      fpick t (λ e. drop t $ k hv e
      (subst (λ (q : Ptr). vs ≡ vstruct (of_list (ptr_val q ∷ hv ∷ [])) ∷ []) e
      (subst (λ (ws : List Val). vs ≡ vstruct (of_list (ptr_val p ∷ (ws ++ []))) ∷ []) ea (subst (λ (ps : List Val). vs ≡ vstruct (of_list (ps ++ (vss.1.0 ++ []))) ∷ []) ep ev))) fa)))))
