use Rattle.std.proofs.Common.{◌≡◌, ◌<◌, length, get_or, false, eqb, ap, arith}
use Rattle.std.specs.List.{list_any}
use Rattle.std.proofs.lemmas.List.{nil_from_length}
use Rattle.std.proofs.lemmas.Option.{slice_get-get_or}
use Rattle.shared_core.specs.declared.place.Place.{Place}
use Rattle.shared_core.proofs.Rising.{within_bounds, searched}
use Rattle.shared_core.proofs.place.place_between.Goals as goal

pub returns-in_err-end-clause-none : goal.returns-in_err-end-clause-none
returns-in_err-end-clause-none c =
    let places = c.args.places.now in
    rw c.from_residual.ensures
    (λ rises. ap (list_any (λ (p : Place). eqb p.number c.args.number)) (nil_from_length places (omega (arith, c.in_err-end.ensures))))

pub returns-clause-none : goal.returns-clause-none
returns-clause-none c =
    let places = c.args.places.now in
    let end = c.in_ok-end.end in
    let none_there : Place = record { number = 0; position = 0 } in
    let inside : end < length places = omega (arith, c.in_ok-end.ensures) in
    searched (list_any (λ (p : Place). eqb p.number c.args.number) places ≡ false) c.place_among.result
    (within_bounds (λ (p : Place). p.number) c.args.number places (get_or places 0 none_there) (get_or places end none_there) end c.saturating_sub-low.result c.min-high.result
    (slice_get-get_or places 0 none_there (omega (arith, inside))) (slice_get-get_or places end none_there inside) (omega (arith, c.in_ok-end.ensures))
    (omega (arith, c.saturating_sub.ensures, c.saturating_sub-low.ensures)) (omega (arith, c.saturating_sub-2.ensures, c.min-high.ensures)))
    (rw c.saturating_sub-3.ensures at c.place_among.ensures.none)
