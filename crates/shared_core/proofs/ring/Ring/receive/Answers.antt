use Rattle.std.proofs.Common.{◌≡◌, ◌-◌, length, map, set, Some, None, refl, ap, sym, ◌∙◌, subst, arith}
use Rattle.std.proofs.lemmas.List.{length-set}
use Rattle.std.proofs.lemmas.List.Elements.{All-set}
use Rattle.std.specs.Option.{option_copied}
use Rattle.shared_core.specs.Places.{IsWithin, HasRoomUntil, OthersFrom, shown_place}
use Rattle.shared_core.specs.Ringed.{Ringed, Receives}
use Rattle.shared_core.proofs.Rings.{inside_places, read_there, within_there, room_there, received_within, receives_some, receives_none}
use Rattle.shared_core.proofs.Behind.{others-set}
use Rattle.shared_core.proofs.Standing.{received_at}
use Rattle.shared_core.proofs.ring.Ring.receive.Goals as goal

pub returns-in_err-value : goal.returns-in_err-value
returns-in_err-value g c =
    let ring = c.self.inside in
    let kept = c.self.invariant in
    let live = ap (λ (r : Ringed _). r.live) (sym c.self.view_is) in
    let now = c.args.self.now.live in
    let place = c.index-place.result.now in
    let limit = ring.values.capacity in
    let oldest = ring.next_number - c.len.result in
    let index = c.saturating_sub-index.result in
    let first : oldest ≡ ring.next_number - length ring.values.items = omega (arith, c.len.ensures.len) in
    let here = within_there ring.next_number ring.values.items ring.places.items now live c.args.at place c.requires c.index-place.ensures limit kept.within in
    rw c.from_residual.ensures
    (subst (Receives c.args.self.now c.args.at None) (sym c.self.view_is)
    (receives_none ring.next_number ring.values.items ring.places.items now live c.args.at place c.requires c.index-place.ensures
    oldest index kept.kept.1 here.0 first c.saturating_sub-index.ensures c.args.self.now refl (sym c.get.ensures ∙ ap option_copied c.in_err-value.was)))

pub invariant_of-self : goal.invariant_of-self
invariant_of-self g c = c.self.invariant

pub invariant_of-self-2 : goal.invariant_of-self-2
invariant_of-self-2 g c =
    let ring = c.self.inside in
    let kept = c.self.invariant in
    let live = ap (λ (r : Ringed _). r.live) (sym c.self.view_is) in
    let now = c.args.self.now.live in
    let place = c.index-place.result.now in
    let limit = ring.values.capacity in
    let oldest = ring.next_number - c.len.result in
    let index = c.saturating_sub-index.result in
    let first : oldest ≡ ring.next_number - length ring.values.items = omega (arith, c.len.ensures.len) in
    let here = within_there ring.next_number ring.values.items ring.places.items now live c.args.at place c.requires c.index-place.ensures limit kept.within in
    let next = received_at ring.next_number ring.values.items oldest index place in
    let from = room_there ring.next_number ring.values.items ring.places.items now live c.args.at place c.requires c.index-place.ensures limit ring.room_until kept.ahead in
    let moved : IsWithin ring.next_number limit (length ring.values.items) next =
    received_within ring.next_number ring.values.items ring.places.items now live c.args.at place c.requires c.index-place.ensures
    oldest index kept.kept.1 here.0 first c.saturating_sub-index.ensures limit c.in_ok-value.field-0.now (sym c.get.ensures ∙ ap option_copied c.in_ok-value.was) in
    record {
      capacity = kept.capacity;
      kept = kept.kept;
      numbers = kept.numbers;
      cache = kept.cache;
      within = All-set (IsWithin ring.next_number limit (length ring.values.items)) ring.places.items c.args.at next moved kept.within;
      ahead = All-set (HasRoomUntil limit ring.room_until) ring.places.items c.args.at next (omega (arith, first, from, c.saturating_sub-index.ensures)) kept.ahead;
      behind =
          subst (λ n. OthersFrom n ring.slowest.noted ring.slowest.others (set ring.places.items c.args.at next)) (sym (length-set ring.places.items c.args.at next))
          (others-set ring.places.items ring.slowest.noted ring.slowest.others c.args.at place next
          (read_there ring.next_number ring.values.items ring.places.items now live c.args.at place c.requires c.index-place.ensures)
          (omega (arith, first, c.saturating_sub-index.ensures)) kept.behind);
      seats = (omega (arith, kept.seats.0, length-set ring.places.items c.args.at next), kept.seats.1, kept.seats.2);
    }

pub returns : goal.returns
returns g c =
    let ring = c.self.inside in
    let kept = c.self.invariant in
    let live = ap (λ (r : Ringed _). r.live) (sym c.self.view_is) in
    let now = c.args.self.now.live in
    let place = c.index-place.result.now in
    let limit = ring.values.capacity in
    let oldest = ring.next_number - c.len.result in
    let index = c.saturating_sub-index.result in
    let first : oldest ≡ ring.next_number - length ring.values.items = omega (arith, c.len.ensures.len) in
    let here = within_there ring.next_number ring.values.items ring.places.items now live c.args.at place c.requires c.index-place.ensures limit kept.within in
    let next = received_at ring.next_number ring.values.items oldest index place in
    let old = c.args.self.now in
    subst (Receives old c.args.at (Some c.in_ok-value.field-0.now))
    (ap (λ (r : Ringed _). record r { live = map (shown_place ring.next_number ring.values.items) (set ring.places.items c.args.at next) }) (sym c.self.view_is))
    (receives_some ring.next_number ring.values.items ring.places.items now live c.args.at place c.requires c.index-place.ensures
    oldest index kept.kept.1 here.0 first c.saturating_sub-index.ensures old c.in_ok-value.field-0.now refl (sym c.get.ensures ∙ ap option_copied c.in_ok-value.was))

pub index-place-requires : goal.index-place-requires
index-place-requires g c =
    let ring = c.self.inside in
    inside_places ring.next_number ring.values.items ring.places.items c.args.self.now.live (ap (λ (r : Ringed _). r.live) (sym c.self.view_is)) c.args.at ring.places.len c.requires ring.places.ok.0

pub index_mut-requires : goal.index_mut-requires
index_mut-requires g c =
    let ring = c.self.inside in
    inside_places ring.next_number ring.values.items ring.places.items c.args.self.now.live (ap (λ (r : Ringed _). r.live) (sym c.self.view_is)) c.args.at ring.places.len c.requires ring.places.ok.0
