use Rattle.std.proofs.Common.{◌≡◌, ◌+◌, ◌-◌, ◌∷◌, ◌++◌, [], length, ap, sym, subst, ◌∙◌, arith, length-append, length-drop}
use Rattle.std.specs.List.{All}
use Rattle.circular_buffer.specs.Buffer.{Buffer}
use Rattle.shared_core.specs.Places.{IsWithin, HasRoomUntil}
use Rattle.shared_core.specs.Ringed.{Ringed, has_space, with_value, without_oldest}
use Rattle.shared_core.proofs.Standing.{below-from_room, within-accepted}
use Rattle.shared_core.proofs.Rings.{accepted_shown, pushed_shown}
use Rattle.shared_core.proofs.ring.Ring.write.Goals as goal

pub invariant_of-self : goal.invariant_of-self
invariant_of-self g c =
    let kept = c.self.invariant in
    let ring = c.self.inside in
    let xs = ring.values.items in
    let limit = ring.values.capacity in
    let ys = xs ++ c.args.value ∷ [] in
    let same = ap (λ (b : Buffer _). b.capacity) c.push_back-overwritten.ensures.items in
    let long : length c.push_back-overwritten.new.self.items ≡ (length xs + 1) - ((length xs + 1) - limit) =
    omega (arith, ap (λ (b : Buffer _). length b.items) c.push_back-overwritten.ensures.items, length-drop (length ys - limit) ys, length-append xs (c.args.value ∷ [])) in
    record {
      capacity = (omega (arith, kept.capacity.0, same), omega (arith, kept.capacity.1, same));
      kept = (omega (arith, long, same), omega (arith, long, kept.kept.1));
      numbers = omega (arith, c.requires, ap (λ (r : Ringed _). r.next_number) c.self.view_is);
      cache = (
        omega (arith, c.min-self-inside.ensures),
        omega (arith, kept.cache.1, same),
        omega (arith, c.min-self-inside.ensures, long, kept.cache.1, kept.cache.2),
      );
      within =
          subst (λ n. All (IsWithin (ring.next_number + 1) n (length c.push_back-overwritten.new.self.items)) ring.places.items) (sym same)
          (within-accepted ring.next_number xs limit (length c.push_back-overwritten.new.self.items) ring.places.items long kept.within);
      ahead = subst (λ n. All (HasRoomUntil n ring.room_until) ring.places.items) (sym same) kept.ahead;
      behind = kept.behind;
      seats = kept.seats;
    }

pub returns-clause-accepted : goal.returns-clause-accepted
returns-clause-accepted g c room =
    let kept = c.self.invariant in
    let ring = c.self.inside in
    accepted_shown ring.next_number ring.cached c.min-self-inside.result ring.replay ring.subscribers ring.values c.push_back-overwritten.new.self c.args.value ring.places.items
    c.push_back-overwritten.ensures.items c.min-self-inside.ensures kept.cache.2 kept.cache.1 kept.within
    (below-from_room ring.next_number ring.values.items ring.values.capacity ring.places.items kept.within (ap has_space c.self.view_is ∙ room))
    ∙ ap (with_value c.args.value) c.self.view_is

pub returns-clause-pushed : goal.returns-clause-pushed
returns-clause-pushed g c =
    let kept = c.self.invariant in
    let ring = c.self.inside in
    pushed_shown ring.next_number ring.cached c.min-self-inside.result ring.replay ring.subscribers ring.values c.push_back-overwritten.new.self c.args.value ring.places.items
    c.push_back-overwritten.ensures.items c.min-self-inside.ensures kept.cache.2 kept.cache.1 kept.within kept.capacity.0 kept.kept.0
    ∙ ap (λ (r : Ringed _). with_value c.args.value (without_oldest r)) c.self.view_is
