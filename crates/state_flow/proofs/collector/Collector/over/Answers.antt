use Rattle.std.proofs.Common.{sym, ap, subst}
use Rattle.state_flow.specs.History.{last_of, Picks}
use Rattle.state_flow.proofs.Lists.{picks_none}
use Rattle.state_flow.proofs.collector.Collector.over.Goals as goal

pub invariant_of-result : goal.invariant_of-result
invariant_of-result g c =
    let seen = c.args.seat.me.0.seen in (
      c.requires.seated,
      subst (λ collected. Picks collected seen) (sym c.requires.fresh) (picks_none seen),
      ap last_of c.requires.fresh,
    )
