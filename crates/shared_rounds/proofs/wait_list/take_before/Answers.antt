use Rattle.std.proofs.Common.{rules, ◌∷◌, refl}
use Rattle.std.specs.BinaryHeap.{heap_items}
use Rattle.std.proofs.lemmas.List.Sorted.{IsPermutation-map}
use Rattle.shared_lane.specs.Ordering.{IsBefore}
use Rattle.shared_rounds.proofs.Parked.{lowest, none_before}
use Rattle.shared_rounds.proofs.wait_list.take_before.Goals as goal

pub returns-then-not-is_before-clause-none : goal.returns-then-not-is_before-clause-none
returns-then-not-is_before-clause-none c =
    let top = c.in_ok-lowest.field-0.now in
    let after : IsBefore top.0.0 c.args.first → ⊥ = search rules in
    (refl, none_before c.args.first top.0.0 _ (lowest (λ lain. lain.0) top (heap_items c.args.tickets.now) (c.in_ok-lowest.ensures.greatest c.requires)) after)

pub returns-clause-out : goal.returns-clause-out
returns-clause-out c = IsPermutation-map (λ lain. lain.0) (heap_items c.args.tickets.now) (c.in_ok-lain.field-0 ∷ heap_items c.pop.new.self) c.in_ok-lain.ensures.permutation
