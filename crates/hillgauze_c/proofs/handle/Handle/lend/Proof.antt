-- `lend` lends the object, where there is one, and the handle follows it. Assumes `Logic`.
use mathlib.Core.Path.{◌≡◌, refl, sym}
use Prim.Native.Nat.{ℕ}
use mathlib.Core.List.{List, [], ◌∷◌}
use lib.Dec.{lit<}
use seplogic.Ra.Ura.{Ura}
use base.Fraction.{full_share}
use mir.Syntax.{named}
use mir.Raw.{raw as bare}
use mir.Val.{Val, vptr, of_list}
use base.Logic.{SProp, ent, sep, guard_i}
use base.Fml.{Lft, GName, Share, Fml, ftrue, flft, fsep, fobs, fres}
use prog.Memory.{Memory}
use prog.Routine.{Routine}
use prog.Wp.{Calls, Loops, WpFn}
use types.Logic.{Logic, sem}
use contract.Monad.{Fun, fact_use}
use contract.Running.{tables}
use types.Kit.{‵, raw, given, ◌⊛◌, some, at_ret, ◌$◌, ◌∵◌, !, qed, by, learn, move, keep, use0, use1, drop, split, join, pick, rewrite, fsplit, fsplit3, fjoin, suffices, frame, done, later, await, group, fpack}
use types.Match.{live}
use types.Part.{whole, sub, look_in, agg}
use types.Run.{stop, fld, load, lit, bin, of_opd, no_more, and_then, first, blocks, branches, skips, exec, returns, returns_within, enter, addr}
use types.ByLocal.{alloc_all, pass_all, free_all, look_at, get, through, sets, sets_last, env}
use denote.Exit.{no}
use denote.RattleType.{RattleType, owns}
use denote.Memory.{part_at, mem, cell_at, part_of}
use denote.RawPtr.{Ptr, block_ptr, null_ptr, Testable, tests_null}
use denote.Ref.{MutBor, MutRef, mut_vals, mut_Tells}
use denote.Follow.{follows, follows_by, Part, lends_Part}
use denote.Signature.{plain, mut_ref_to}
use denote.Steps.{nothing, opens, closes}
use denote.Triple.Clauses.{Clauses}
use denote.Triple.Entry.{on_entry}
use denote.Triple.Walked.{says, Stays, stay_dropped, walk_of, ends_at, Goes-spent_ref}
use Rattle.core.proofs.alloc.Calls.{token}
use Rattle.core.proofs.option.Made.{Some-of, none_of}
use Rattle.core.specs.contracts.option.Option as OP
use Rattle.std.specs.Prelude.{Option, Some, None}
use Rattle.std.proofs.raw_atomic.Walks.{proved}
use Rattle.std_alloc.proofs.BoxSteps.Form.{D, τ, R, handle, word}
use Rattle.std_alloc.proofs.BoxSteps.Steps.{box_out, box_in}
use Rattle.std_heap.specs.declared.Global.{Global}
use Rattle.std_heap.proofs.GlobalToken.{dealloc_token-Testable}
use Rattle.hillgauze_c.specs.Lends.{with_object}
use Rattle.hillgauze_c.specs.declared.object.Object.{Object}
use Rattle.hillgauze_c.specs.contracts.object.Object as Home
use Rattle.hillgauze_c.specs.contracts.handle.Handle as Sealed
use Rattle.hillgauze_c.proofs.AsBox.{E}
use Rattle.hillgauze_c.proofs.HandleSteps.{null_word, null_handle, null_in, null_out}
use Rattle.hillgauze_c.specs.contracts.handle.Handle.lend as F
use Rattle.hillgauze_c.specs.contracts.handle.Handle.lend.Key.{name as #self}
use Rattle.hillgauze_c.proofs.handle.Handle.lend.Statement.{statement}
use Rattle.hillgauze_c.proofs.handle.Handle.lend.Code as code

abbrev S : RattleType
S = Sealed.the_row

abbrev T : RattleType
T = Home.the_row

abbrev stayed : Stays (F.ended).signature.params (F.ended).kept
stayed = (stay_dropped (mut_ref_to (0 ∷ []) tt (plain (λ _. S))) no, tt)

module _ {M : Type 1} {𝓤 : Ura M} (𝓛 : Logic 𝓤) (at_mem : Memory → SProp 𝓤) (run : Routine → Fun 𝓤) (κ : Lft) (q : Share) (rb ro : ℕ) (γ : GName) (p : Ptr) (a : Global) where
  open 𝓛 use {H, A}

  abbrev held : Clauses 𝓤 F.ended
  held = F.clauses 𝓛 at_mem run

  abbrev now : Option Object → S.Denot
  now o = record { ptr = p; alloc = a; object = o }

  abbrev self : Option Object → MutBor S.Denot
  self o = record { ref_ptr = (rb, ro); ghost_name = γ; now = now o }

  abbrev bound : Option Object → (walk_of 𝓛 F.ended stayed held).Ghost
  bound o = (((κ, tt), (q, tt), tt, (self o, tt), (vptr rb ro ∷ [], tt)), tt)

  abbrev Post : Option Object → Val → SProp 𝓤
  Post o = (walk_of 𝓛 F.ended stayed held).post (bound o)

  abbrev Lent : RattleType
  Lent = MutRef (named 0) κ T

  leaves_null : ent 𝓤 (sep 𝓤 (A.obs γ (S.coded.code (now None))) (A.lft κ q)) (Post None (live 0 (of_list [])))
  unfolding follows_by
  leaves_null =
      qed 𝓛 (‵ (fobs γ (S.coded.code (now None))) ∷ ‵ (flft κ q) ∷ []) ∵ use1 𝓛 (‵ (fres γ (S.coded.code (now None)))) (𝓛.names.obs-res γ (S.coded.code (now None))) $ move ! (1 ∷ []) $
      use0 𝓛 (‵ ((OP.the_row Lent).own_val None (live 0 (of_list []) ∷ []))) (none_of 𝓛 Lent) $
      suffices ! _ (ends_at 𝓛 F.ended stayed held (bound None) (live 0 (of_list [])) None (tt, tt) (tt, tt)) $
      nothing ! $ nothing ! $ fjoin ! $ join ! $ nothing ! $ move ! (2 ∷ 0 ∷ []) $ join ! $ join ! $ frame ! $ says ! refl $ done !

  module _ (x : Object) (b o : ℕ) (hv : Val) where
    -- all of the handle but its object
    abbrev Rest : Fml
    Rest = fsep (fsep (token E.al a (bare (τ E)) (block_ptr b o)) (handle E a hv)) (cell_at full_share S.mir (word E hv b o ∷ []) rb ro)

    back : p ≡ block_ptr b o → (w : Object) → ent 𝓤 (sep 𝓤 (sem 𝓛 ((mem T).own_at w b o)) (sem 𝓛 Rest)) (sem 𝓛 ((mem S).own_at (with_object (now (Some x)) w) rb ro))
    unfolding part_of
    back at_b w =
        let v : D E = record { ptr = p; alloc = a; value = w } in
        qed 𝓛 (‵ (part_at (R E) full_share w b o) ∷ ‵ Rest ∷ []) ∵ move ! (1 ∷ []) $ fsplit ! $ fsplit ! $ move ! (3 ∷ []) $
        box_in E ! v b o w at_b refl $ move ! (1 ∷ 0 ∷ []) $ fjoin ! $
        fpack ! (List Val) (λ us. fsep (cell_at full_share S.mir us rb ro) (S.own_val (with_object (now (Some x)) w) us)) (word E hv b o ∷ []) $ done !

    exits : (γ' : GName)
        → ent 𝓤 (sep 𝓤 (sem 𝓛 (Lent.own_val (record { ref_ptr = (b, o); ghost_name = γ'; now = x }) (vptr b o ∷ []))) (sep 𝓤 (A.lft κ q) (sem 𝓛 (follows S T γ γ' (with_object (now (Some x))))))) (Post (Some x) (live 1 (of_list (vptr b o ∷ []))))
    unfolding follows_by
    exits γ' =
        let r : MutBor Object = record { ref_ptr = (b, o); ghost_name = γ'; now = x } in
        qed 𝓛 (‵ (Lent.own_val r (vptr b o ∷ [])) ∷ ‵ (flft κ q) ∷ ‵ (follows S T γ γ' (with_object (now (Some x)))) ∷ []) ∵
        use1 𝓛 (‵ ((OP.the_row Lent).own_val (Some r) (live 1 (of_list (vptr b o ∷ [])) ∷ []))) (Some-of 𝓛 Lent r (vptr b o)) $
        suffices ! _ (ends_at 𝓛 F.ended stayed held (bound (Some x)) (live 1 (of_list (vptr b o ∷ []))) (Some r) (tt, tt) (tt, tt)) $
        nothing ! $ nothing ! $ fjoin ! $ join ! $ nothing ! $ move ! (2 ∷ 0 ∷ []) $ join ! $ join ! $ frame ! $ says ! refl $ done !

  module _ (C : Calls 𝓤 H) (Λ : Loops 𝓤 H) where
    abbrev Goes : Option Object → Type 1
    Goes o = ent 𝓤 (on_entry 𝓛 (F.ended).signature (κ, tt) (q, tt) (self o, tt) (vptr rb ro ∷ [], tt)) (WpFn 𝓤 H C Λ code.function (vptr rb ro ∷ []) (Post o))

    walk : (o : Option Object) → Goes o
    walk None =
        qed 𝓛 ((‵ (flft κ q) ⊛ ‵ ftrue) ∷ ‵ (owns (MutRef (named 0) κ S ∷ []) (self None, tt) (vptr rb ro ∷ [], tt)) ∷ []) ∵
        enter ! C Λ code.function (vptr rb ro ∷ []) _ $ alloc_all ! (λ l. pass_all ! refl ((tt, tt), tt) $
        move ! (1 ∷ []) $ fsplit ! $ fsplit3 ! $ drop ! $ move ! (3 ∷ []) $ split ! $ move ! (2 ∷ 3 ∷ 0 ∷ []) $
        opens ! tt S {h = now None} rb ro (λ vs. move ! (1 ∷ []) $ null_out ! p a vs (λ hv e ws fa.
        rewrite ! 1 (λ (us : List Val). ‵ (cell_at full_share S.mir us rb ro)) ws refl $
        sets ! (of_opd ! (load ! (through ! refl (fld ! refl (stop !))) (look_in ! 1 (sub ! 0 refl (whole !))))) refl (tt, record { fits = lit< tt }) $
        sets ! (bin ! (get ! refl) (lit ! tt) (tests_null null_ptr (lit< tt))) refl (tt, tt) $
        first ! $ branches ! (get ! refl)
        (λ t. sets ! (agg ! (and_then ! (lit ! tt) (no_more !))) refl (tt, (record { fits = lit< tt }, tt)) $
        null_in ! hv a $ move ! (1 ∷ 0 ∷ []) $ closes ! tt S (null_handle a null_ptr) (null_word hv ∷ []) rb ro $
        rewrite ! 0 (λ (r : Ptr). ‵ (fobs γ (S.coded.code (null_handle a r)))) (sym e) refl $
        returns_within ! (Post None) refl (look_at ! 0 refl) $ free_all ! refl $ keep ! (0 ∷ 2 ∷ []) $ by ! leaves_null)
        (λ t. absurd t))))
    walk (Some x) =
        let v : D E = record { ptr = p; alloc = a; value = x } in
        qed 𝓛 ((‵ (flft κ q) ⊛ ‵ ftrue) ∷ ‵ (owns (MutRef (named 0) κ S ∷ []) (self (Some x), tt) (vptr rb ro ∷ [], tt)) ∷ []) ∵
        enter ! C Λ code.function (vptr rb ro ∷ []) _ $ alloc_all ! (λ l. pass_all ! refl ((tt, tt), tt) $
        move ! (1 ∷ []) $ fsplit ! $ fsplit3 ! $ drop ! $ move ! (3 ∷ []) $ split ! $ move ! (2 ∷ 3 ∷ 0 ∷ []) $
        opens ! tt S {h = now (Some x)} rb ro (λ vs. move ! (1 ∷ []) $ box_out E ! v vs (λ b o hv at_b ws fa. let free = token E.al a (bare (τ E)) (block_ptr b o) in
        rewrite ! 3 (λ (us : List Val). ‵ (cell_at full_share S.mir us rb ro)) ws refl $
        move ! (1 ∷ []) $ use1 𝓛 (given (Testable (block_ptr b o)) (‵ free)) (fact_use 𝓤 (Testable (block_ptr b o)) (dealloc_token-Testable 𝓛 a (bare (τ E)) (block_ptr b o)) (guard_i 𝓤 (Testable (block_ptr b o)) (sem 𝓛 free))) $ learn ! (λ may.
        move ! (0 ∷ 2 ∷ []) $ fjoin ! $ move ! (1 ∷ 0 ∷ []) $
        -- [the object; the rest of the handle; its word; the open borrow; obs; auth]
        sets ! (of_opd ! (load ! (through ! refl (fld ! refl (stop !))) (look_in ! 2 (sub ! 0 refl (whole !))))) refl (tt, tt) $
        sets ! (bin ! (get ! refl) (lit ! tt) (tests_null (block_ptr b o) may)) refl (tt, tt) $
        first ! $ branches ! (get ! refl) (λ t. absurd t)
        (λ t. skips ! $ exec ! C Λ (env code.Mir.locals l) code.Mir.t-4 (at_ret (env code.Mir.locals l) (Post (Some x))) $
        first ! $ blocks ! $
        sets ! (of_opd ! (load ! (through ! refl (fld ! refl (stop !))) (look_in ! 2 (sub ! 0 refl (whole !))))) refl (tt, tt) $
        sets ! (of_opd ! (get ! refl)) refl (tt, tt) $
        sets ! (addr ! (through ! refl (stop !))) refl (tt, tt) $
        sets_last ! (agg ! (and_then ! (lit ! tt) (and_then ! (get ! refl) (no_more !)))) refl (tt, (record { fits = lit< tt }, (tt, tt))) $
        exec ! C Λ (env code.Mir.locals l) code.Mir.t-5 (at_ret (env code.Mir.locals l) (Post (Some x))) $
        sets ! (of_opd ! (get ! refl)) refl (tt, (record { fits = lit< tt }, (tt, tt))) $
        move ! (1 ∷ 2 ∷ []) $ fjoin ! $ move ! (2 ∷ 3 ∷ 4 ∷ 1 ∷ 0 ∷ []) $ group ! 5 $
        use1 𝓛 (later (some (λ (γ' : GName). raw (Part 𝓛 S T (with_object (now (Some x))) (named 0) κ q rb ro b o γ (sem 𝓛 (Rest x b o hv)) (back x b o hv at_b) x γ'))))
        (lends_Part 𝓛 S T (with_object (now (Some x))) (named 0) κ q rb ro b o γ (sem 𝓛 (Rest x b o hv)) (back x b o hv at_b) (S.coded.code (now (Some x))) (S.coded.code (now (Some x))) x) $ await ! tt $ pick ! (λ γ'.
        returns ! (look_at ! 0 refl) $ free_all ! refl $
        keep ! (0 ∷ []) $ by ! (exits x b o hv γ')))))))

pub lend_spec : {M : Type 1} → statement M
lend_spec 𝓤 𝓛 𝓜 𝓡 wired =
    let 𝓣 = tables 𝓤 𝓛.H 𝓜 𝓡 𝓡.env in
    proved 𝓛 F.ended stayed (F.clauses 𝓛 𝓜.mem 𝓡.returns) 𝓜 𝓡 (Goes-spent_ref 𝓛 1 (0 ∷ []) tt (plain (λ _. S)), tt) #self code.function (code.unfolded 𝓤 𝓛.H 𝓜 𝓡 wired)
    (λ κs. (mut_vals, tt)) (λ κs. (mut_Tells (named 0) κs.0 S, tt)) (λ κs qs bounds s g are.
    qed 𝓛 (raw (on_entry 𝓛 (F.ended).signature κs qs s (mut_vals s.0, tt)) ∷ ‵ ftrue ∷ []) ∵ keep ! (0 ∷ []) $ by !
    (walk 𝓛 𝓜.mem 𝓡.returns κs.0 qs.0 s.0.ref_ptr.0 s.0.ref_ptr.1 s.0.ghost_name s.0.now.ptr s.0.now.alloc 𝓣.C 𝓣.Λ s.0.now.object))
