use Rattle.std.proofs.Common.{◌≡◌, ◌<◌, ◌-◌, false, eqb, length, ap, sym, arith}
use Rattle.std.specs.List.{list_any}
use Rattle.std.proofs.lemmas.Option.{slice_get_within}
use Rattle.shared_core.specs.declared.tickets.OutTicket.{OutTicket}
use Rattle.shared_core.proofs.Entries.{none_first}
use Rattle.shared_core.proofs.Rising.{within_bounds, searched}
use Rattle.shared_core.proofs.tickets.out_between.Goals as goal

pub returns-in_err-first-clause-none : goal.returns-in_err-first-clause-none
returns-in_err-first-clause-none g c =
    let tickets = c.args.out.now.values in
    rw c.from_residual.ensures
    (λ rises. ap (list_any (λ (h : OutTicket _). eqb h.ticket c.args.ticket)) (none_first tickets (sym c.in_err-first.ensures)))

pub returns-clause-none : goal.returns-clause-none
returns-clause-none g c =
    let tickets = c.args.out.now.values in
    let n = c.args.ticket in
    let at_first = sym c.in_ok-first.ensures in
    let inside : 0 < length tickets = slice_get_within tickets 0 c.in_ok-first.field-0 at_first in
    searched (list_any (λ (h : OutTicket _). eqb h.ticket n) tickets ≡ false) c.out_among.result
    (within_bounds (λ (h : OutTicket _). h.ticket) n tickets c.in_ok-first.field-0 c.get-2.result (c.len-end.result - 1) c.saturating_sub-low.result c.min-high.result
    at_first c.get-2.ensures (omega (arith, c.len-end.ensures.count, inside))
    (omega (arith, c.saturating_sub-2.ensures, c.saturating_sub-low.ensures)) (omega (arith, c.saturating_sub.ensures, c.min-high.ensures)))
    (rw c.saturating_sub-3.ensures at c.out_among.ensures.none)
