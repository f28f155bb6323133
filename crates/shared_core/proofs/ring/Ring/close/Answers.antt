use Rattle.std.proofs.Common.{List, ap, ◌∙◌}
use Rattle.std.specs.List.{remove}
use Rattle.shared_core.specs.declared.place.Place.{Place}
use Rattle.shared_core.specs.Places.{shown_place}
use Rattle.shared_core.specs.Ringed.{Ringed}
use Rattle.shared_core.proofs.Entries.{map-remove}
use Rattle.shared_core.proofs.Rings.{seen_ring}
use Rattle.shared_core.proofs.ring.Ring.close.Goals as goal

pub returns : goal.returns
returns g c =
    let ring = c.self.inside in
    let shown = shown_place ring.next_number ring.values.items in
    let seen = λ (places : List Place). seen_ring ring.next_number ring.values ring.cached ring.replay places ring.subscribers in
    ap seen c.remove-place.ensures.items
    ∙ ap (λ (xs : List _). record (seen ring.places.items) { live = xs }) (map-remove shown ring.places.items c.args.at)
    ∙ ap (λ (r : Ringed _). record r { live = remove r.live c.args.at }) c.self.view_is
