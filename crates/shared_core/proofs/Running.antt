-- A list of calls, one call after another.
use Rattle.std.proofs.Common.{◌≡◌, List, [], ◌∷◌, ◌++◌, map, refl, sym, ap, ◌∙◌, subst, append_assoc}
use Rattle.std.proofs.lemmas.List.{map-append}
use Rattle.shared_core.specs.declared.call.Call.{Call}
use Rattle.shared_core.specs.declared.call.Reply.{Reply}
use Rattle.shared_core.specs.Flow.{State}
use Rattle.shared_core.specs.Calls as model
use Rattle.shared_core.specs.Shown.{Seen, Shows, Follows}
use Rattle.shared_core.specs.Runs.{Runs, call_of, reply_of}
use Rattle.shared_core.proofs.Steps.{after-push}

module _ {T : Type 0} where
  replies-push : (calls : List (model.Call T)) (call : model.Call T) (M : State T) → model.replies (calls ++ call ∷ []) M ≡ model.replies calls M ++ (model.step call (model.after calls M)).0 ∷ []
  replies-push [] call M = refl
  replies-push (first ∷ calls) call M = ap (λ rest. (model.step first M).0 ∷ rest) (replies-push calls call (model.step first M).1)

  pub runs_push : (calls : List (Call T)) (call : Call T) (old mid new : Seen T) (before replied : List (Reply T)) (reply : Reply T)
      → Runs calls old before replied mid → Follows (model.step (call_of call)) mid (reply_of reply) new → Runs (calls ++ call ∷ []) old before (replied ++ reply ∷ []) new
  runs_push calls call old mid new before replied reply so_far this M shows =
      let earlier = so_far M shows in
      let last = this (model.after (map call_of calls) M) earlier.1 in
      let all : map call_of (calls ++ call ∷ []) ≡ map call_of calls ++ call_of call ∷ [] = map-append call_of calls (call ∷ []) in (
        map-append reply_of replied (reply ∷ [])
            ∙ ap (λ xs. xs ++ reply_of reply ∷ []) earlier.0
            ∙ append_assoc (map reply_of before) (model.replies (map call_of calls) M) (reply_of reply ∷ [])
            ∙ ap (λ r. map reply_of before ++ (model.replies (map call_of calls) M ++ r ∷ [])) last.0
            ∙ ap (λ rs. map reply_of before ++ rs) (sym (ap (λ cs. model.replies cs M) all ∙ replies-push (map call_of calls) (call_of call) M)),
        subst (Shows new) (sym (ap (λ cs. model.after cs M) all ∙ after-push (map call_of calls) (call_of call) M)) last.1,
      )
