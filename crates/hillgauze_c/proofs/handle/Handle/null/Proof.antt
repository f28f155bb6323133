-- `null` makes the null handle.
use mathlib.Core.Path.{refl, sym, subst}
use mathlib.Core.List.{List, [], ◌∷◌, ◌++◌}
use mir.Val.{Val}
use base.Logic.{SProp, ent}
use base.Fml.{ftrue}
use prog.Wp.{WpFn}
use types.Kit.{‵, raw, ◌⊛◌, ◌$◌, ◌∵◌, !, qed, by, move, keep, drop, split, join, fsplit, fjoin, suffices, done}
use types.Run.{lit, no_more, and_then, returns, enter}
use types.ByLocal.{alloc_all, pass_all, free_all, look_at, get, sets}
use types.Part.{agg}
use contract.Running.{tables}
use denote.Exit.{yes}
use denote.RattleType.{owns}
use denote.RawPtr.{null_ptr}
use denote.Signature.{types_at, plain}
use denote.Steps.{nothing}
use denote.Triple.Walked.{says, Stays, stay_dropped, walk_of, ends_at, Goes-dropped}
use Rattle.core.proofs.alloc.Calls.{handle_tells}
use Rattle.std.proofs.raw_atomic.Walks.{proved_at}
use Rattle.std_heap.specs.contracts.Global as Heap
use Rattle.hillgauze_c.proofs.AsBox.{E}
use Rattle.hillgauze_c.proofs.HandleSteps.{null_word, null_typed, null_handle, null_in}
use Rattle.hillgauze_c.specs.contracts.handle.Handle.null as F
use Rattle.hillgauze_c.specs.contracts.handle.Handle.null.Key.{name as #self}
use Rattle.hillgauze_c.proofs.handle.Handle.null.Statement.{statement}
use Rattle.hillgauze_c.proofs.handle.Handle.null.Code as code

abbrev stayed : Stays (F.ended).signature.params (F.ended).kept
stayed = (stay_dropped (plain (λ _. Heap.the_row)) yes, tt)

pub null_spec : {M : Type 1} → statement M
null_spec 𝓤 𝓛 𝓜 𝓡 wired =
    let H = 𝓛.H in let 𝓣 = tables 𝓤 H 𝓜 𝓡 𝓡.env in let c = F.clauses 𝓛 𝓜.mem 𝓡.returns in
    proved_at 𝓛 F.ended stayed c 𝓜 𝓡 (Goes-dropped 𝓛 0 (plain (λ _. Heap.the_row)) yes (λ κs x f. refl), tt) #self code.function (code.unfolded 𝓤 H 𝓜 𝓡 wired) (λ z are.
    let a = z.0.3.0 in let Post : Val → SProp 𝓤 = (walk_of 𝓛 F.ended stayed c).post z in
    qed 𝓛 ((‵ ftrue ⊛ ‵ (owns (types_at F.signature.params z.0.0) z.0.3 z.0.4)) ∷ raw ((c z.0.0 z.0.3).requires z.1) ∷ []) ∵ split ! $ drop ! $ fsplit ! $ move ! (0 ∷ []) $
    handle_tells E.al ! a z.0.4.0 (λ hv ea fa.
    by ! (subst (λ (us : List Val). ent 𝓤 (types.Kit.⋆ 𝓛 (‵ (Heap.the_row.own_val a (hv ∷ [])) ∷ ‵ ftrue ∷ raw ((c z.0.0 z.0.3).requires z.1) ∷ [])) (WpFn 𝓤 H 𝓣.C 𝓣.Λ code.function (us ++ []) Post)) (sym ea)
    (qed 𝓛 (‵ (Heap.the_row.own_val a (hv ∷ [])) ∷ ‵ ftrue ∷ raw ((c z.0.0 z.0.3).requires z.1) ∷ []) ∵ enter ! 𝓣.C 𝓣.Λ code.function (hv ∷ []) Post $ alloc_all ! (λ l. pass_all ! refl (fa, tt) $
    sets ! (agg ! (and_then ! (lit ! tt) (and_then ! (get ! refl) (no_more !)))) refl (null_typed hv fa) $
    returns ! (look_at ! 0 refl) $ free_all ! refl $ null_in ! hv a $ keep ! (0 ∷ []) $
    suffices ! _ (ends_at 𝓛 F.ended stayed c z (null_word hv) (null_handle a null_ptr) (tt, tt) (tt, tt)) $ says ! refl $
    nothing ! $ nothing ! $ fjoin ! $ join ! $ nothing ! $ join ! $ done !)))))
