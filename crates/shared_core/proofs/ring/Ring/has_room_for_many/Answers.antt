use Rattle.std.proofs.Common.{◌≡◌, ◌≤◌, ◌-◌, List, length, ltb, ap, sym, subst, ◌∙◌, arith}
use Rattle.std.specs.List.{All, list_all}
use Rattle.shared_core.specs.declared.place.Place.{Place}
use Rattle.shared_core.specs.Places.{IsFrom, OthersFrom}
use Rattle.shared_core.specs.Ringed.{Ringed, has_space}
use Rattle.shared_core.proofs.Behind.{past-least}
use Rattle.shared_core.proofs.Standing.{room-shown, room-from_below, below-until}
use Rattle.shared_core.proofs.ring.Ring.has_room_for_many.Goals as goal

pub returns-then-self-clause-room : goal.returns-then-self-clause-room
returns-then-self-clause-room g c =
    let ring = c.self.inside in
    sym (ap has_space (sym c.self.view_is)
    ∙ room-from_below ring.next_number ring.values.items ring.values.capacity ring.places.items
    (below-until ring.next_number ring.values.items ring.values.capacity ring.room_until ring.places.items c.self.invariant.capacity.0 c.if-self.true c.self.invariant.ahead))

pub returns-clause-room : goal.returns-clause-room
returns-clause-room g c =
    let ring = c.self.inside in
    let full : ring.values.capacity ≤ ring.next_number = omega (arith, c.requires, ap (λ (r : Ringed _). r.next_number) c.self.view_is, ap (λ (r : Ringed _). r.limit) c.self.view_is) in
    let places = ring.places.items in
    let oldest = (ring.next_number - c.limit-limit.result) in
    let least = c.least_position-least.result in
    let limit : c.limit-limit.result ≡ ring.values.capacity = c.limit-limit.ensures.limit ∙ sym (ap (λ (r : Ringed _). r.limit) c.self.view_is) in
    let told = c.least_position-least.ensures in
    let lent = c.deref.ensures.value in
    let is : oldest ≡ ring.next_number - ring.values.capacity = omega (arith, limit) in
    sym (past-least oldest least places (subst (All (IsFrom least)) lent told.from) (λ past. told.reached (ap (list_all (λ (p : Place). ltb oldest p.position)) lent ∙ past)))
    ∙ ap (λ n. list_all (λ (p : Place). ltb n p.position) places) is
    ∙ room-shown ring.next_number ring.values.items ring.values.capacity places (full) c.self.invariant.within
    ∙ ap has_space c.self.view_is

pub invariant_of-self : goal.invariant_of-self
invariant_of-self g c =
    let kept = c.self.invariant in
    let ring = c.self.inside in
    let told = c.least_position-least.ensures in
    let lent = c.deref.ensures.value in
    let limit : c.limit-limit.result ≡ ring.values.capacity = c.limit-limit.ensures.limit ∙ sym (ap (λ (r : Ringed _). r.limit) c.self.view_is) in
    record {
      capacity = kept.capacity;
      kept = kept.kept;
      numbers = kept.numbers;
      cache = kept.cache;
      within = kept.within;
      ahead = λ k d inside. let this = subst (All (IsFrom c.least_position-least.result)) lent told.from k d inside in omega (arith, this, limit, c.saturating_add-self-inside.ensures);
      behind = subst (λ (ps : List Place). OthersFrom (length ps) c.least_position-least.new.self.noted c.least_position-least.new.self.others ps) lent told.known;
      seats = kept.seats;
    }

pub least_position-least-requires-clause-known : goal.least_position-least-requires-clause-known
least_position-least-requires-clause-known g c =
    let ring = c.self.inside in
    subst (λ (ps : List Place). OthersFrom (length ps) ring.slowest.noted ring.slowest.others ps) (sym c.deref.ensures.value) c.self.invariant.behind

pub overflow_sub-oldest : goal.overflow_sub-oldest
overflow_sub-oldest g c = omega (arith, c.requires, c.limit-limit.ensures.limit, ap (λ (r : Ringed _). r.next_number) c.self.view_is)
