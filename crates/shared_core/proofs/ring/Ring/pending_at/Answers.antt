use Rattle.std.proofs.Common.{ap, sym, arith}
use Rattle.shared_core.specs.Places.{shown_place}
use Rattle.shared_core.specs.Ringed.{Ringed}
use Rattle.shared_core.proofs.Standing.{length-pending_of}
use Rattle.shared_core.proofs.Rings.{entry_there}
use Rattle.shared_core.proofs.ring.Ring.pending_at.Goals as goal

pub returns-clause-count : goal.returns-clause-count
returns-clause-count g c =
    let ring = c.self.inside in
    let place = c.index.result.now in
    let now = c.args.self.now.live in
    let live = ap (λ (r : Ringed _). r.live) (sym c.self.view_is) in (
      shown_place ring.next_number ring.values.items place,
      entry_there ring.next_number ring.values.items ring.places.items now live c.args.at place c.requires c.index.ensures,
      omega (arith, c.min.ensures, c.len.ensures.len, length-pending_of ring.next_number ring.values.items place),
    )
