use Rattle.std.proofs.Common.{ap, sym, refl, ℕ, Option, Some, None, IfNone}
use Rattle.shared_core.specs.Ringed.{Ringed}
use Rattle.shared_core.proofs.Rings.{found_shown, none_shown}
use Rattle.shared_core.proofs.ring.Ring.find.Goals as goal

pub returns-in-Some-clause-found : goal.returns-in-Some-clause-found
returns-in-Some-clause-found g c =
    let ring = c.self.inside in
    found_shown ring.next_number ring.values.items ring.places.items c.args.self.now.live (ap (λ (r : Ringed _). r.live) (sym c.self.view_is)) (Some c.in-Some.at) c.args.number
    (rw c.deref.ensures.value at c.in-Some.ensures.found)

pub returns-then-len-le-LISTED-clause-found : goal.returns-then-len-le-LISTED-clause-found
returns-then-len-le-LISTED-clause-found g c =
    let ring = c.self.inside in
    found_shown ring.next_number ring.values.items ring.places.items c.args.self.now.live (ap (λ (r : Ringed _). r.live) (sym c.self.view_is)) c.place_listed.result c.args.number
    (rw c.deref-then-len-le-LISTED.ensures.value at c.place_listed.ensures.found)

-- what holds wherever nothing is found holds there under a premise too
even_so : (A B : Type 0) (r : Option ℕ) → IfNone r A → IfNone r (B → A)
even_so A B None none = λ _. none
even_so A B (Some i) none = none

pub returns-then-len-le-LISTED-clause-none : goal.returns-then-len-le-LISTED-clause-none
returns-then-len-le-LISTED-clause-none g c =
    let ring = c.self.inside in
    even_so _ _ c.place_listed.result
    (none_shown ring.next_number ring.values.items ring.places.items c.args.self.now.live (ap (λ (r : Ringed _). r.live) (sym c.self.view_is)) c.place_listed.result c.args.number
    (rw c.deref-then-len-le-LISTED.ensures.value at c.place_listed.ensures.none))

pub returns-then-is_place-clause-found : goal.returns-then-is_place-clause-found
returns-then-is_place-clause-found g c =
    let ring = c.self.inside in
    found_shown ring.next_number ring.values.items ring.places.items c.args.self.now.live (ap (λ (r : Ringed _). r.live) (sym c.self.view_is)) (Some ring.recent) c.args.number
    (rw c.deref-2.ensures.value at (c.if-is_place.ensures refl))
