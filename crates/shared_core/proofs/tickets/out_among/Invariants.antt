use Rattle.std.proofs.Common.{◌+◌, ◌<◌, ◌≤◌, ◌^◌, length}
use Rattle.shared_core.specs.Rising.{Rises, StandsWithin}
use Rattle.shared_core.specs.declared.tickets.OutTicket.{OutTicket}
use Rattle.shared_core.proofs.tickets.out_among.Given as goal

abbrev pub invariant-loop-size : goal.invariant-loop-size
invariant-loop-size g l = record {
  inside : l.base + l.size ≤ length l.out.values;
  fits : l.base + l.size < 2 ^ 64;
  within : Rises (λ (h : OutTicket _). h.ticket) l.out.values → StandsWithin (λ (h : OutTicket _). h.ticket) l.ticket l.out.values l.from (l.from + l.count)
      → StandsWithin (λ (h : OutTicket _). h.ticket) l.ticket l.out.values l.base (l.base + l.size);
}

abbrev pub decreases-loop-size : goal.decreases-loop-size
decreases-loop-size g l = l.size
