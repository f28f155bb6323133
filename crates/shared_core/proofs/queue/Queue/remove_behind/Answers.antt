use Rattle.std.proofs.Common.{◌≡◌, ◌<◌, ℕ, List, Option, Some, length, slice_get, ap, sym, refl, subst, ◌∙◌, arith}
use Rattle.std.proofs.lemmas.List.Edits.{length-remove}
use Rattle.std.proofs.lemmas.Option.{slice_get_read}
use Rattle.std.specs.Option.{OnSome}
use Rattle.std.specs.List.{remove}
use Rattle.shared_core.specs.Queues.{Queued}
use Rattle.shared_core.proofs.queue.Queue.remove_behind.Goals as goal

abbrev queued : {T : Type 0} → List T → ℕ → Queued T
queued values limit = record { values = values; limit = limit }

on_some : {X : Type 0} (P : Type 0) (r : Option X) (x : X) → r ≡ Some x → OnSome r P → P
on_some P r x is gives = subst (λ o. OnSome o P) is gives

removed_shown : {T : Type 0} (xs ys : List T) (limit at : ℕ) (now : Queued T) → queued xs limit ≡ now → ys ≡ remove xs at → queued ys limit ≡ queued (remove now.values at) now.limit
removed_shown xs ys limit at now is gone = ap (λ zs. queued zs limit) gone ∙ ap (λ (q : Queued _). queued (remove q.values at) q.limit) is

pub index-value-requires : goal.index-value-requires
index-value-requires g c = omega (arith, c.requires, ap (λ (q : Queued _). length q.values) c.self.view_is, c.self.inside.items.ok.0)

pub invariant_of-self : goal.invariant_of-self
invariant_of-self g c =
    let items = c.self.inside.items in
    let inside : c.args.index < length items.items = omega (arith, c.requires, ap (λ (q : Queued _). length q.values) c.self.view_is) in
    let gone = on_some _ _ _ (c.remove-removed.ensures.succeeds c.index-value.result.now (omega (arith, inside, items.ok.0))) c.remove-removed.ensures.items in (
      omega (arith, c.self.invariant.0, ap length gone, length-remove items.items c.args.index inside),
      omega (arith, c.self.invariant.1, c.remove-removed.ensures.capacity),
    )

pub returns-clause-value : goal.returns-clause-value
returns-clause-value g c =
    let items = c.self.inside.items.items in
    let inside : c.args.index < length items = omega (arith, c.requires, ap (λ (q : Queued _). length q.values) c.self.view_is) in
    ap (λ (q : Queued _). slice_get q.values c.args.index) (sym c.self.view_is) ∙ slice_get_read items (length items) c.args.index c.index-value.result.now refl inside c.index-value.ensures

pub returns-clause-rest : goal.returns-clause-rest
returns-clause-rest g c =
    let items = c.self.inside.items in
    let inside : c.args.index < items.len = omega (arith, c.requires, ap (λ (q : Queued _). length q.values) c.self.view_is, items.ok.0) in
    let gone = on_some _ _ _ (c.remove-removed.ensures.succeeds c.index-value.result.now inside) c.remove-removed.ensures.items in
    removed_shown items.items c.remove-removed.new.self.items c.self.inside.limit c.args.index c.args.self.now c.self.view_is gone
