use Rattle.std.proofs.Common.{◌≡◌, ◌≤◌, ◌∙◌, Some, length, slice_get, get_or, ltb, ltb-true, ltb-false, rules, tests, ap, subst, sym, refl, arith}
use Rattle.std.proofs.lemmas.Option.{slice_get_read}
use Rattle.std.specs.List.Sorted.{IsPartitionedBy}
use Rattle.std.proofs.lemmas.List.Sorted.{IsPartitionPoint-from_clause, IsPartitionedBy-ltb}
use Rattle.shared_lane.specs.declared.tickets.Standing.{Standing}
use Rattle.shared_lane.proofs.Ordering.{Parts, never_falls, none_past, none_but, first_at, first_there}
use Rattle.shared_lane.proofs.sequencer.Sequencer.standing_with.Goals as goal

pub returns-in_err-standing : goal.returns-in_err-standing
returns-in_err-standing g c = let l = c.self.inside.standing.items in let at = c.partition_point-index.result in let rises = c.self.invariant.sound.in_order.tickets_stand in
    let parts : Parts (λ (x : Standing). x.ticket) l c.args.ticket at = let same : c.deref.result.now ≡ l = search rules in
    subst (λ z. Parts (λ (x : Standing). x.ticket) z c.args.ticket at) same
    (IsPartitionPoint-from_clause (λ (x : Standing). ltb x.ticket c.args.ticket) _ _ c.partition_point-index.ensures.partitioned
    (subst (λ z. IsPartitionedBy (λ (x : Standing). ltb x.ticket c.args.ticket) z) (sym same) (IsPartitionedBy-ltb (λ (x : Standing). x.ticket) l c.args.ticket (never_falls (λ (x : Standing). x.ticket) l rises))) (λ a r q k. search rules)) in
    let end : length l ≤ at = search (rules, tests) in
    rw (← c.self.view_is, c.from_residual.ensures) (none_past (λ (x : Standing). x.ticket) l c.args.ticket at parts end)

pub returns-then-standing-ticket : goal.returns-then-standing-ticket
returns-then-standing-ticket g c = let l = c.self.inside.standing.items in let at = c.partition_point-index.result in let rises = c.self.invariant.sound.in_order.tickets_stand in
    let parts : Parts (λ (x : Standing). x.ticket) l c.args.ticket at = let same : c.deref.result.now ≡ l = search rules in
    subst (λ z. Parts (λ (x : Standing). x.ticket) z c.args.ticket at) same
    (IsPartitionPoint-from_clause (λ (x : Standing). ltb x.ticket c.args.ticket) _ _ c.partition_point-index.ensures.partitioned
    (subst (λ z. IsPartitionedBy (λ (x : Standing). ltb x.ticket c.args.ticket) z) (sym same) (IsPartitionedBy-ltb (λ (x : Standing). x.ticket) l c.args.ticket (never_falls (λ (x : Standing). x.ticket) l rises))) (λ a r q k. search rules)) in
    let found = c.in_ok-standing.ensures.lookup in let same' : c.deref-2.result.now ≡ l = c.deref-2.ensures.value in
    let read : slice_get l at ≡ Some c.in_ok-standing.standing.now = slice_get_read l (length l) at _ refl (ltb-true at (length l) (sym (ap (λ z. ltb at (length z)) same') ∙ sym found.0)) (found.1 ∙ ap (λ z. get_or z at c.in_ok-standing.standing.now) same') in
    rw (← c.self.view_is) (none_but (λ (x : Standing). x.ticket) l c.args.ticket at parts rises _ read c.if-standing-ticket.true)

pub returns : goal.returns
returns g c = let l = c.self.inside.standing.items in let at = c.partition_point-index.result in let rises = c.self.invariant.sound.in_order.tickets_stand in
    let parts : Parts (λ (x : Standing). x.ticket) l c.args.ticket at = let same : c.deref.result.now ≡ l = search rules in
    subst (λ z. Parts (λ (x : Standing). x.ticket) z c.args.ticket at) same
    (IsPartitionPoint-from_clause (λ (x : Standing). ltb x.ticket c.args.ticket) _ _ c.partition_point-index.ensures.partitioned
    (subst (λ z. IsPartitionedBy (λ (x : Standing). ltb x.ticket c.args.ticket) z) (sym same) (IsPartitionedBy-ltb (λ (x : Standing). x.ticket) l c.args.ticket (never_falls (λ (x : Standing). x.ticket) l rises))) (λ a r q k. search rules)) in
    let found = c.in_ok-standing.ensures.lookup in let same' : c.deref-2.result.now ≡ l = c.deref-2.ensures.value in
    let read : slice_get l at ≡ Some c.in_ok-standing.standing.now = slice_get_read l (length l) at _ refl (ltb-true at (length l) (sym (ap (λ z. ltb at (length z)) same') ∙ sym found.0)) (found.1 ∙ ap (λ z. get_or z at c.in_ok-standing.standing.now) same') in
    rw (← c.self.view_is) (first_there l c.args.ticket at _ read c.if-standing-ticket.false (first_at (λ (x : Standing). x.ticket) l c.args.ticket at parts))
