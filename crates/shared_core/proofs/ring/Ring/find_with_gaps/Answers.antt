use Rattle.std.proofs.Common.{ap, sym}
use Rattle.shared_core.specs.Ringed.{Ringed}
use Rattle.shared_core.proofs.Rings.{found_shown, search_shown}
use Rattle.shared_core.proofs.ring.Ring.find_with_gaps.Goals as goal

pub returns-clause-found : goal.returns-clause-found
returns-clause-found g c =
    let ring = c.self.inside in
    found_shown ring.next_number ring.values.items ring.places.items c.args.self.now.live (ap (λ (r : Ringed _). r.live) (sym c.self.view_is)) c.place_with_gaps.result c.args.number
    (rw c.deref.ensures.value at c.place_with_gaps.ensures.found)

pub returns-clause-none : goal.returns-clause-none
returns-clause-none g c =
    let ring = c.self.inside in
    search_shown ring.next_number ring.values.items ring.places.items c.args.self.now.live (ap (λ (r : Ringed _). r.live) (sym c.self.view_is)) c.place_with_gaps.result c.args.number
    (rw c.deref.ensures.value at c.place_with_gaps.ensures.none)
