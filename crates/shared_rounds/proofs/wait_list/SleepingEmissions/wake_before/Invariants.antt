use Rattle.std.proofs.Common.{◌≡◌, map}
use Rattle.std.specs.BinaryHeap.{heap_items, heap_len}
use Rattle.shared_rounds.specs.Sleeping.{AreListed, IsTicketHeap, HasAsMuchRoom}
use Rattle.shared_rounds.proofs.Parked.{AfterWaking}
use Rattle.shared_rounds.proofs.wait_list.SleepingEmissions.wake_before.Given as goal

abbrev pub invariant-loop-ticket : goal.invariant-loop-ticket
invariant-loop-ticket l = AreListed (map (λ lain. lain.0) (heap_items l.self-inside.tickets)) l.self-inside.sleepers.sleeping × IsTicketHeap (λ lain. lain.0) (heap_items l.self-inside.tickets)
    × AfterWaking l.first l.fn.self l.self-inside.sleepers.sleeping × (l.self-inside.sleepers.sleeping.capacity ≡ l.fn.self.capacity) × HasAsMuchRoom l.fn.wakes l.wakes

abbrev pub decreases-loop-ticket : goal.decreases-loop-ticket
decreases-loop-ticket l = heap_len l.self-inside.tickets
