use Rattle.std.proofs.Common.{◌≡◌, ◌≤◌, ◌<◌, ℕ, None, Some, length, slice_get, ltb, rules, tests, ap, subst, sym, arith, refl}
use Rattle.std.proofs.lemmas.Option.{slice_get_read}
use Rattle.std.specs.List.Sorted.{IsPartitionedBy}
use Rattle.std.proofs.lemmas.List.Sorted.{IsPartitionPoint-from_clause, IsPartitionedBy-ltb}
use Rattle.shared_lane.specs.Steps.{next_number}
use Rattle.shared_lane.specs.Ordering.{FirstUnfinished}
use Rattle.shared_lane.specs.Views.{SequencerSeen, sequencer_of}
use Rattle.shared_lane.specs.declared.tickets.Standing.{Standing}
use Rattle.shared_lane.specs.declared.tickets.Waiting.{Waiting}
use Rattle.shared_lane.proofs.Ordering.{Parts, never_falls, first_stands, first_waits, none_unfinished, none_at_all}
use Rattle.shared_lane.proofs.sequencer.Sequencer.first_unfinished.Goals as goal

pub returns-then-index-len : goal.returns-then-index-len
returns-then-index-len g c = let s = c.self.inside in let l = s.standing.items in let at = c.partition_point-index.result in let order = c.self.invariant.sound.in_order in
    let q : SequencerSeen = sequencer_of s.seat s.policy s.capacity s.cache.capacity s.emits s.cache.items s.waiting.items s.standing.items s.ticket s.subscription in
    let parts : Parts (λ (x : Standing). x.number) l c.args.below at = let same : c.deref.result.now ≡ l = search rules in
    subst (λ z. Parts (λ (x : Standing). x.number) z c.args.below at) same
    (IsPartitionPoint-from_clause (λ (x : Standing). ltb x.number c.args.below) _ _ c.partition_point-index.ensures.partitioned
    (subst (λ z. IsPartitionedBy (λ (x : Standing). ltb x.number c.args.below) z) (sym same) (IsPartitionedBy-ltb (λ (x : Standing). x.number) l c.args.below (never_falls (λ (x : Standing). x.number) l order.numbers_stand))) (λ a r q k. search rules)) in
    let read : slice_get l at ≡ Some c.index.result.now = (let yes = c.if-index-len.true in let len = c.len.ensures in let inside : at < length l = omega (arith, yes, len) in slice_get_read l (length l) at _ refl inside c.index.ensures) in
    rw (← c.self.view_is) (first_stands q c.args.below (next_number s.seat.me.0) order at parts _ read _ refl)

pub returns-in_err-first : goal.returns-in_err-first
returns-in_err-first g c = let s = c.self.inside in let l = s.standing.items in let at = c.partition_point-index.result in let order = c.self.invariant.sound.in_order in
    let q : SequencerSeen = sequencer_of s.seat s.policy s.capacity s.cache.capacity s.emits s.cache.items s.waiting.items s.standing.items s.ticket s.subscription in
    let parts : Parts (λ (x : Standing). x.number) l c.args.below at = let same : c.deref.result.now ≡ l = search rules in
    subst (λ z. Parts (λ (x : Standing). x.number) z c.args.below at) same
    (IsPartitionPoint-from_clause (λ (x : Standing). ltb x.number c.args.below) _ _ c.partition_point-index.ensures.partitioned
    (subst (λ z. IsPartitionedBy (λ (x : Standing). ltb x.number c.args.below) z) (sym same) (IsPartitionedBy-ltb (λ (x : Standing). x.number) l c.args.below (never_falls (λ (x : Standing). x.number) l order.numbers_stand))) (λ a r q k. search rules)) in
    let end : length l ≤ at = let no = c.if-index-len.false in let len = c.len.ensures in omega (arith, no, len) in
    let gone : slice_get s.waiting.items 0 ≡ None = search rules in
    rw (← c.self.view_is, c.from_residual.ensures) (none_unfinished q c.args.below (next_number s.seat.me.0) order at parts end (none_at_all s.waiting.items gone))

pub returns : goal.returns
returns g c = let s = c.self.inside in let l = s.standing.items in let at = c.partition_point-index.result in let order = c.self.invariant.sound.in_order in
    let q : SequencerSeen = sequencer_of s.seat s.policy s.capacity s.cache.capacity s.emits s.cache.items s.waiting.items s.standing.items s.ticket s.subscription in
    let parts : Parts (λ (x : Standing). x.number) l c.args.below at = let same : c.deref.result.now ≡ l = search rules in
    subst (λ z. Parts (λ (x : Standing). x.number) z c.args.below at) same
    (IsPartitionPoint-from_clause (λ (x : Standing). ltb x.number c.args.below) _ _ c.partition_point-index.ensures.partitioned
    (subst (λ z. IsPartitionedBy (λ (x : Standing). ltb x.number c.args.below) z) (sym same) (IsPartitionedBy-ltb (λ (x : Standing). x.number) l c.args.below (never_falls (λ (x : Standing). x.number) l order.numbers_stand))) (λ a r q k. search rules)) in
    let end : length l ≤ at = let no = c.if-index-len.false in let len = c.len.ensures in omega (arith, no, len) in
    let read : slice_get s.waiting.items 0 ≡ Some c.in_ok-first.first.now = search rules in
    rw (← c.self.view_is) (first_waits q c.args.below (next_number s.seat.me.0) order at parts end _ read _ refl)
