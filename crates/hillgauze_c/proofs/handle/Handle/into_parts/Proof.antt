-- `into_parts` moves two fields, where the pointer isn't null, and what they own goes with them. Assumes `Logic`.
use mathlib.Core.Path.{refl, sym, subst}
use mathlib.Core.List.{List, [], ◌∷◌, ◌++◌}
use lib.Dec.{lit<}
use seplogic.Ra.Ura.{Ura}
use mir.Val.{Val, vnil, vcons, of_list}
use mir.Raw.{raw as bare}
use base.Logic.{SProp, ent, emp, id⊢, guard_i}
use base.Fml.{ftrue, fsep}
use prog.Memory.{Memory}
use prog.Routine.{Routine}
use prog.Wp.{Calls, Loops, WpFn}
use types.Logic.{Logic, sem}
use contract.Monad.{Fun, fact_use}
use contract.Running.{tables}
use types.Kit.{Item, ‵, raw, given, at_ret, ◌⊛◌, ◌$◌, ◌∵◌, !, qed, by, learn, move, keep, drop, use0, use1, join, split, fsplit, fjoin, suffices, done}
use types.Match.{live}
use types.Part.{whole, sub, agg}
use types.Run.{stop, fld, lit, bin, no_more, and_then, of_opd, first, branches, skips, exec, returns, returns_within, enter}
use types.ByLocal.{alloc_all, pass_all, free_all, look_at, get, get_in, sets, env}
use denote.Exit.{yes}
use denote.RattleType.{RattleType}
use denote.RawPtr.{Ptr, null_ptr, block_ptr, Testable, tests_null}
use denote.Signature.{type_at}
use denote.Steps.{nothing}
use denote.Triple.Clauses.{Clauses}
use denote.Triple.Walked.{says, Stays, stay_dropped, walk_of, ends_at, Goes-dropped}
use Rattle.core.proofs.alloc.Calls.{token}
use Rattle.core.proofs.option.Made.{Some-of, none_of}
use Rattle.std.specs.Prelude.{Option, Some, None}
use Rattle.std.proofs.raw_atomic.Walks.{proved_at}
use Rattle.std_alloc.proofs.BoxSteps.Form.{D, B, τ, handle, word, box_typed}
use Rattle.std_alloc.proofs.BoxSteps.Steps.{box_out, box_in}
use Rattle.std_alloc.proofs.ResultValues.{and_tt}
use Rattle.std_heap.specs.declared.Global.{Global}
use Rattle.std_heap.proofs.GlobalToken.{dealloc_token-Testable}
use Rattle.hillgauze_c.specs.declared.object.Object.{Object}
use Rattle.hillgauze_c.specs.contracts.handle.Handle as Sealed
use Rattle.hillgauze_c.proofs.AsBox.{E, Apart, FromHandle as From}
use Rattle.hillgauze_c.proofs.HandleSteps.{null_word, null_typed, null_handle, null_out}
use Rattle.hillgauze_c.specs.contracts.handle.Handle.into_parts as F
use Rattle.hillgauze_c.specs.contracts.handle.Handle.into_parts.Key.{name as #self}
use Rattle.hillgauze_c.proofs.handle.Handle.into_parts.Statement.{statement}
use Rattle.hillgauze_c.proofs.handle.Handle.into_parts.Code as code

abbrev stayed : Stays (F.ended).signature.params (F.ended).kept
stayed = (stay_dropped From yes, tt)

module _ {M : Type 1} {𝓤 : Ura M} (𝓛 : Logic 𝓤) (at_mem : Memory → SProp 𝓤) (run : Routine → Fun 𝓤) (C : Calls 𝓤 𝓛.H) (Λ : Loops 𝓤 𝓛.H) where
  open 𝓛 use {H}

  abbrev held : Clauses 𝓤 F.ended
  held = F.clauses 𝓛 at_mem run

  abbrev bound : Ptr → Global → Option Object → List Val → (walk_of 𝓛 F.ended stayed held).Ghost
  bound p a o us = ((tt, tt, tt, (record { ptr = p; alloc = a; object = o }, tt), (us, tt)), tt)

  abbrev Post : Ptr → Global → Option Object → List Val → Val → SProp 𝓤
  Post p a o us = (walk_of 𝓛 F.ended stayed held).post (bound p a o us)

  abbrev Goes : Ptr → Global → Option Object → List Val → Type 1
  Goes p a o us = ent 𝓤 ((walk_of 𝓛 F.ended stayed held).pre (bound p a o us)) (WpFn 𝓤 H C Λ code.function (us ++ []) (Post p a o us))

  abbrev Out : RattleType
  Out = type_at (F.signature).result tt

  walk : (p : Ptr) (a : Global) (o : Option Object) (us : List Val) → Goes p a o us
  walk p a None us =
      qed 𝓛 ((‵ ftrue ⊛ ‵ (fsep (Sealed.the_row.own_val (null_handle a p) us) ftrue)) ∷ raw (emp 𝓤) ∷ []) ∵ split ! $ drop ! $ fsplit ! $
      null_out ! p a us (λ hv e ws fa. keep ! (0 ∷ []) $
      let Γ : List (Item 𝓤) = ‵ (handle E a hv) ∷ [] in
      by ! (subst (λ (vs : List Val). ent 𝓤 (types.Kit.⋆ 𝓛 Γ) (WpFn 𝓤 H C Λ code.function (vs ++ []) (Post p a None us))) (sym ws)
      (qed 𝓛 Γ ∵ enter ! C Λ code.function (null_word hv ∷ []) _ $ alloc_all ! (λ ls. pass_all ! refl (null_typed hv fa, tt) $
      sets ! (of_opd ! (get_in ! (fld ! refl (stop !)) (sub ! 0 refl (whole !)))) refl (tt, record { fits = lit< tt }) $ sets ! (of_opd ! (get_in ! (fld ! refl (stop !)) (sub ! 1 refl (whole !)))) refl fa $
      sets ! (bin ! (get ! refl) (lit ! tt) (tests_null null_ptr (lit< tt))) refl (tt, tt) $
      first ! $ branches ! (get ! refl)
      (λ t. sets ! (agg ! (and_then ! (lit ! tt) (no_more !))) refl (tt, (record { fits = lit< tt }, tt)) $
      returns_within ! (Post p a None us) refl (look_at ! 0 refl) $ free_all ! refl $ drop ! $
      use0 𝓛 (‵ (Out.own_val None (live 0 (of_list []) ∷ []))) (none_of 𝓛 Apart) $
      suffices ! _ (ends_at 𝓛 F.ended stayed held (bound p a None us) (live 0 (of_list [])) None (tt, tt) (tt, tt)) $ says ! refl $
      nothing ! $ nothing ! $ fjoin ! $ join ! $ nothing ! $ join ! $ done !)
      (λ t. absurd t)))))
  walk p a (Some x) us =
      let v : D E = record { ptr = p; alloc = a; value = x } in
      let made : Apart.Denot = record { ptr = p; alloc = a; value = x } in
      qed 𝓛 ((‵ ftrue ⊛ ‵ (fsep ((B E).own_val v us) ftrue)) ∷ raw (emp 𝓤) ∷ []) ∵ split ! $ drop ! $ fsplit ! $
      box_out E ! v us (λ b o hv e ws fa. let free = token E.al a (bare (τ E)) (block_ptr b o) in
      move ! (1 ∷ []) $ use1 𝓛 (given (Testable (block_ptr b o)) (‵ free)) (fact_use 𝓤 (Testable (block_ptr b o)) (dealloc_token-Testable 𝓛 a (bare (τ E)) (block_ptr b o)) (guard_i 𝓤 (Testable (block_ptr b o)) (sem 𝓛 free))) $ learn ! (λ may.
      move ! (1 ∷ 0 ∷ []) $ box_in E ! v b o x e refl $ use1 𝓛 (‵ (Apart.own_val made (word E hv b o ∷ []))) (id⊢ 𝓤 _) $ keep ! (0 ∷ []) $
      let w = word E hv b o in
      let typed = box_typed E hv b o fa in
      let some = live 1 (vcons w vnil) in
      let Γ : List (Item 𝓤) = ‵ (Apart.own_val made (w ∷ [])) ∷ [] in
      by ! (subst (λ (vs : List Val). ent 𝓤 (types.Kit.⋆ 𝓛 Γ) (WpFn 𝓤 H C Λ code.function (vs ++ []) (Post p a (Some x) us))) (sym ws)
      (qed 𝓛 Γ ∵ enter ! C Λ code.function (w ∷ []) _ $ alloc_all ! (λ ls. pass_all ! refl (typed, tt) $
      sets ! (of_opd ! (get_in ! (fld ! refl (stop !)) (sub ! 0 refl (whole !)))) refl (tt, tt) $ sets ! (of_opd ! (get_in ! (fld ! refl (stop !)) (sub ! 1 refl (whole !)))) refl fa $
      sets ! (bin ! (get ! refl) (lit ! tt) (tests_null (block_ptr b o) may)) refl (tt, tt) $
      first ! $ branches ! (get ! refl) (λ t. absurd t)
      (λ t. skips ! $ exec ! C Λ (env code.Mir.locals ls) code.Mir.t-5 (at_ret (env code.Mir.locals ls) (Post p a (Some x) us)) $
      sets ! (of_opd ! (get ! refl)) refl (tt, tt) $
      sets ! (agg ! (and_then ! (get ! refl) (and_then ! (get ! refl) (no_more !)))) refl typed $
      sets ! (agg ! (and_then ! (lit ! tt) (and_then ! (get ! refl) (no_more !)))) refl (and_tt _ typed.0, (record { fits = lit< tt }, (typed.1, tt))) $
      returns ! (look_at ! 0 refl) $ free_all ! refl $
      use1 𝓛 (‵ (Out.own_val (Some made) (some ∷ []))) (Some-of 𝓛 Apart made w) $
      suffices ! _ (ends_at 𝓛 F.ended stayed held (bound p a (Some x) us) some (Some made) (tt, tt) (tt, tt)) $ says ! refl $
      nothing ! $ nothing ! $ fjoin ! $ join ! $ nothing ! $ join ! $ done !))))))

pub into_parts_spec : {M : Type 1} → statement M
into_parts_spec 𝓤 𝓛 𝓜 𝓡 wired =
    let H = 𝓛.H in let 𝓣 = tables 𝓤 H 𝓜 𝓡 𝓡.env in
    proved_at 𝓛 F.ended stayed (F.clauses 𝓛 𝓜.mem 𝓡.returns) 𝓜 𝓡 (Goes-dropped 𝓛 0 From yes (λ κs x f. refl), tt) #self code.function (code.unfolded 𝓤 H 𝓜 𝓡 wired)
    (λ z are. walk 𝓛 𝓜.mem 𝓡.returns 𝓣.C 𝓣.Λ z.0.3.0.ptr z.0.3.0.alloc z.0.3.0.object z.0.4.0)
