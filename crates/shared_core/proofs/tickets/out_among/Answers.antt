use Rattle.std.proofs.Common.{arith}
use Rattle.shared_core.specs.declared.tickets.OutTicket.{OutTicket}
use Rattle.shared_core.proofs.Rising.{upper_half, lower_half, absent_but_one, absent_from_none, not_read}
use Rattle.shared_core.proofs.tickets.out_among.Goals as goal
use Rattle.shared_core.proofs.tickets.out_among.Goals.{then-get-ticket, else-get-ticket}
use Rattle.shared_core.proofs.tickets.out_among.Goals.{else-size-gt0-via-then-size-gt0+else-get-ticket-2, else-size-gt0-via-else-size-gt0}

pub overflow_add-middle : goal.overflow_add-middle
overflow_add-middle g c = omega (arith, c.loop-size.invariant.fits)

pub returns-clause-none : goal.returns-clause-none
returns-clause-none g c rises within =
    let tickets = c.args.out.now.values in
    let n = c.args.ticket in
    let base = c.loop-size.base in
    let size = c.loop-size.size in
    let left = c.loop-size.invariant.within rises within in
    elim c.else-size-gt0.branch [
      | else-size-gt0-via-then-size-gt0+else-get-ticket-2 w ↦
          absent_but_one (λ (h : OutTicket _). h.ticket) n tickets base size c.loop-size-test.false left
          (not_read (λ (h : OutTicket _). h.ticket) n tickets base w.get-then-size-gt0.result w.get-then-size-gt0.ensures w.if-get-ticket-2.false)
      | else-size-gt0-via-else-size-gt0 w ↦ absent_from_none (λ (h : OutTicket _). h.ticket) n tickets base size w.if-size-gt0.false left
    ]

pub loop-size-preserved : goal.loop-size-preserved
loop-size-preserved g c =
    let tickets = c.args.out.now.values in
    let base = c.loop-size.base in
    let size = c.loop-size.size in
    elim c.if-get-ticket.branch [
      | then-get-ticket w ↦ record {
        inside = omega (arith, w.base-is, c.loop-size.invariant.inside);
        fits = omega (arith, w.base-is, c.loop-size.invariant.fits);
        within = λ rises within.
            upper_half (λ (h : OutTicket _). h.ticket) c.args.ticket tickets base size c.if-get-ticket.base c.get.result rises c.get.ensures w.if-get-ticket.true w.base-is
            (c.loop-size.invariant.within rises within);
      }
      | else-get-ticket w ↦ record {
        inside = omega (arith, w.base-is, c.loop-size.invariant.inside);
        fits = omega (arith, w.base-is, c.loop-size.invariant.fits);
        within = λ rises within.
            lower_half (λ (h : OutTicket _). h.ticket) c.args.ticket tickets base size c.if-get-ticket.base c.get.result rises c.get.ensures w.if-get-ticket.false w.base-is
            (c.loop-size.invariant.within rises within);
      }
    ]
