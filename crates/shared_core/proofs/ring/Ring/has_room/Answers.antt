use Rattle.std.proofs.Common.{◌≡◌, ◌<◌, ◌-◌, ltb, ap, sym, ◌∙◌, arith}
use Rattle.std.specs.List.{list_all}
use Rattle.shared_core.specs.declared.place.Place.{Place}
use Rattle.shared_core.specs.Ringed.{Ringed, has_space}
use Rattle.shared_core.proofs.Standing.{room-shown, room-from_below, below-few}
use Rattle.shared_core.proofs.ring.Ring.has_room.Goals as goal

pub returns-then-self-limit-clause-room : goal.returns-then-self-limit-clause-room
returns-then-self-limit-clause-room g c =
    let ring = c.self.inside in
    let few : ring.next_number < ring.values.capacity = omega (arith, c.if-self-limit.true, c.limit-limit.ensures.limit, ap (λ (r : Ringed _). r.limit) c.self.view_is) in
    sym (ap has_space (sym c.self.view_is)
    ∙ room-from_below ring.next_number ring.values.items ring.values.capacity ring.places.items (below-few ring.next_number ring.values.items ring.values.capacity ring.places.items few))

pub returns-in-Few-clause-room : goal.returns-in-Few-clause-room
returns-in-Few-clause-room g c =
    let ring = c.self.inside in
    let limit : c.limit-limit.result ≡ ring.values.capacity = c.limit-limit.ensures.limit ∙ sym (ap (λ (r : Ringed _). r.limit) c.self.view_is) in
    c.each_past.ensures
    ∙ ap (list_all (λ (p : Place). ltb (ring.next_number - c.limit-limit.result) p.position)) c.deref.ensures.value
    ∙ ap (λ n. list_all (λ (p : Place). ltb (ring.next_number - n) p.position) ring.places.items) limit
    ∙ room-shown ring.next_number ring.values.items ring.values.capacity ring.places.items (omega (arith, c.if-self-limit.false, limit)) c.self.invariant.within
    ∙ ap has_space c.self.view_is

pub has_room_for_many-requires : goal.has_room_for_many-requires
has_room_for_many-requires g c = omega (arith, c.if-self-limit.false, c.limit-limit.ensures.limit, ap (λ (r : Ringed _). r.next_number) c.self.view_is)
