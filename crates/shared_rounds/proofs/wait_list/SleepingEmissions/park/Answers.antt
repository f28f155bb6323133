use Rattle.std.proofs.Common.{rules, ◌∷◌, IsPermutation, map}
use Rattle.std.specs.BinaryHeap.{heap_items}
use Rattle.std.proofs.lemmas.List.Sorted.{IsPermutation-map}
use Rattle.shared_rounds.specs.Sleeping.{IsTicketHeap, SleepsAt}
use Rattle.shared_rounds.proofs.Parked.{parked}
use Rattle.shared_rounds.proofs.wait_list.SleepingEmissions.park.Goals as goal

pub invariant_of-self-2 : goal.invariant_of-self-2
invariant_of-self-2 c =
    let heap = heap_items c.self.inside.tickets in
    let moved : IsPermutation ((c.args.ticket.0, c.in-Some.key) ∷ map (λ lain. lain.0) heap) (map (λ lain. lain.0) (heap_items c.push.new.self)) =
    IsPermutation-map (λ lain. lain.0) (_ ∷ heap) (heap_items c.push.new.self) (search rules) in
    let order : IsTicketHeap (λ lain. lain.0) (heap_items c.push.new.self) = search rules in
    let lies : SleepsAt c.park.new.self.sleeping c.park.new.wait_key.key c.args.ticket.0 = search rules in
    (parked _ _ c.self.inside.sleepers.sleeping c.park.new.self.sleeping c.park.new.wait_key.key c.args.ticket.0 c.in-Some.key c.self.invariant.0 lies c.park.ensures.stay c.in-Some.is moved, order)
