use Rattle.std.proofs.Common.{rules, ◌≡◌, ◌∷◌, IsPermutation, map, sym, subst, ◌∙◌}
use Rattle.std.specs.BinaryHeap.{heap_items}
use Rattle.shared_rounds.specs.Sleeping.{AreListed}
use Rattle.shared_rounds.proofs.Parked.{woken_out, one_woken, all_woken}
use Rattle.shared_rounds.proofs.wait_list.SleepingEmissions.wake_before.Goals as goal

pub loop-ticket-preserved : goal.loop-ticket-preserved
loop-ticket-preserved c =
    let now = c.loop-ticket.self-inside.sleepers.sleeping in
    let lain = map (λ lain. lain.0) (heap_items c.loop-ticket.self-inside.tickets) in
    let rest = map (λ lain. lain.0) (heap_items c.take_before.new.tickets) in
    let moved : IsPermutation lain ((c.in-Some.ticket, c.in-Some.key) ∷ rest) = c.in-Some.ensures.out in
    let inv = c.loop-ticket.invariant in
    let room : c.wake_in.new.self.sleeping.capacity ≡ c.args.self.now.capacity = search (rules, inv.3) in
    let woken = c.wake_in.ensures.wakes in (
      woken_out lain rest c.in-Some.ticket c.in-Some.key now c.wake_in.new.self.sleeping inv.0 moved c.wake_in.ensures.others,
      c.take_before.ensures.heap,
      one_woken c.args.first c.in-Some.ticket c.in-Some.key c.args.self.now now c.wake_in.new.self.sleeping inv.2 c.in-Some.ensures.before c.wake_in.ensures.others,
      room,
      (woken.0 ∙ inv.4.0, woken.1 ∙ inv.4.1),
    )

pub returns-clause-others : goal.returns-clause-others
returns-clause-others c =
    let now = c.loop-ticket.self-inside.sleepers.sleeping in
    let none = c.in_default.ensures.none in
    let listed = subst (λ heap. AreListed (map (λ lain. lain.0) heap) now) (sym none.0) c.loop-ticket.invariant.0 in
    all_woken c.args.first (map (λ lain. lain.0) (heap_items c.take_before.new.tickets)) c.args.self.now now listed none.1 c.loop-ticket.invariant.2

pub returns-clause-wakes : goal.returns-clause-wakes
returns-clause-wakes c = c.loop-ticket.invariant.4
