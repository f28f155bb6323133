use Rattle.std.proofs.Common.{◌-◌, ◌<◌, List, [], ◌∷◌, ◌++◌, length, ap, sym, subst, arith, length-append}
use Rattle.std.proofs.Math.ListN.{length-map}
use Rattle.std.proofs.lemmas.Grind.{common_steps}
use Rattle.std.proofs.lemmas.List.Elements.{All-push, All-same}
use Rattle.shared_core.specs.declared.place.Place.{Place}
use Rattle.shared_core.specs.Places.{IsWithin, HasRoomUntil, OthersFrom, shown_place}
use Rattle.shared_core.specs.Ringed.{Ringed}
use Rattle.shared_core.proofs.Behind.{others-push}
use Rattle.shared_core.proofs.ring.Ring.open.Goals as goal

-- A wrong body makes this false: so answered, it is refused at once.
pub returns : goal.returns
returns g c = grind (arith, common_steps)

pub overflow_sub-position : goal.overflow_sub-position
overflow_sub-position g c = omega (arith, c.self.invariant.cache.2, c.self.invariant.kept.1)

pub push_reserved-requires : goal.push_reserved-requires
push_reserved-requires g c =
    let ring = c.self.inside in
    omega (
      arith,
      c.requires,
      ap (λ (r : Ringed _). length r.live) c.self.view_is,
      ap (λ (r : Ringed _). r.subscribers) c.self.view_is,
      length-map ring.places.items (shown_place ring.next_number ring.values.items),
      ring.places.ok.0,
      c.self.invariant.seats.1,
    )

pub invariant_of-self : goal.invariant_of-self
invariant_of-self g c =
    let kept = c.self.invariant in
    let ring = c.self.inside in
    let place : Place = record { number = c.args.number; position = ring.next_number - ring.cached } in
    let until = c.min-self-inside.result in
    let room : length ring.places.items < ring.subscribers = omega (
      arith,
      c.requires,
      ap (λ (r : Ringed _). length r.live) c.self.view_is,
      ap (λ (r : Ringed _). r.subscribers) c.self.view_is,
      length-map ring.places.items (shown_place ring.next_number ring.values.items),
    ) in
    record {
      capacity = kept.capacity;
      kept = kept.kept;
      numbers = kept.numbers;
      cache = kept.cache;
      within =
          All-same (IsWithin ring.next_number ring.values.capacity (length ring.values.items)) c.push_reserved.new.self.items (ring.places.items ++ place ∷ []) c.push_reserved.ensures.items
          (All-push (IsWithin ring.next_number ring.values.capacity (length ring.values.items)) ring.places.items place kept.within (omega arith, omega (arith, kept.cache.2)));
      ahead =
          All-same (HasRoomUntil ring.values.capacity until) c.push_reserved.new.self.items (ring.places.items ++ place ∷ []) c.push_reserved.ensures.items
          (All-push (HasRoomUntil ring.values.capacity until) ring.places.items place (λ k d inside. let this = kept.ahead k d inside in omega (arith, this, c.min-self-inside.ensures)) (omega (arith, c.min-self-inside.ensures, c.limit.ensures.limit, ap (λ (r : Ringed _). r.limit) c.self.view_is)));
      behind =
          subst (λ (ps : List Place). OthersFrom (length ps) ring.slowest.noted c.min-self-inside-2.result ps) (sym c.push_reserved.ensures.items)
          (subst (λ n. OthersFrom n ring.slowest.noted c.min-self-inside-2.result (ring.places.items ++ place ∷ [])) (sym (length-append ring.places.items (place ∷ [])))
          (others-push ring.places.items ring.slowest.noted ring.slowest.others c.min-self-inside-2.result place
          (omega (arith, c.min-self-inside-2.ensures)) (omega (arith, c.min-self-inside-2.ensures)) kept.behind));
      seats = (
        omega (arith, room, ap length c.push_reserved.ensures.items, length-append ring.places.items (place ∷ [])),
        omega (arith, kept.seats.1, c.push_reserved.ensures.capacity),
        kept.seats.2,
      );
    }
