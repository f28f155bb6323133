use Rattle.std.proofs.Common.{◌+◌, ◌<◌, ◌/◌, length, get_or, arith}
use Rattle.std.proofs.lemmas.Option.{slice_get-get_or}
use Rattle.shared_core.specs.declared.place.Place.{Place}
use Rattle.shared_core.proofs.Rising.{upper_half, lower_half, absent_but_one, absent_from_none, not_read}
use Rattle.shared_core.proofs.place.place_among.Goals as goal
use Rattle.shared_core.proofs.place.place_among.Goals.{then-places-middle, else-places-middle}
use Rattle.shared_core.proofs.place.place_among.Goals.{else-size-gt0-via-then-size-gt0+else-places-base, else-size-gt0-via-else-size-gt0}

abbrev none_there : Place
none_there = record { number = 0; position = 0 }

pub returns-clause-none : goal.returns-clause-none
returns-clause-none c rises within =
    let places = c.args.places.now in
    let n = c.args.number in
    let base = c.loop-size.base in
    let size = c.loop-size.size in
    let left = c.loop-size.invariant.within rises within in
    elim c.else-size-gt0.branch [
      | else-size-gt0-via-then-size-gt0+else-places-base w ↦
          let inside : base < length places = omega (arith, w.if-size-gt0.true, c.loop-size.invariant.inside) in
          absent_but_one (λ (p : Place). p.number) n places base size c.loop-size-test.false left
          (not_read (λ (p : Place). p.number) n places base (get_or places base none_there) (slice_get-get_or places base none_there inside) w.if-places-base.false)
      | else-size-gt0-via-else-size-gt0 w ↦ absent_from_none (λ (p : Place). p.number) n places base size w.if-size-gt0.false left
    ]

pub loop-size-preserved : goal.loop-size-preserved
loop-size-preserved c =
    let places = c.args.places.now in
    let base = c.loop-size.base in
    let size = c.loop-size.size in
    let middle = base + size / 2 in
    let inside : middle < length places = omega (arith, c.loop-size-test.true, c.loop-size.invariant.inside) in
    let gets = slice_get-get_or places middle none_there inside in
    elim c.if-places-middle.branch [
      | then-places-middle w ↦ record {
        inside = omega (arith, w.base-is, c.loop-size.invariant.inside);
        within = λ rises within.
            upper_half (λ (p : Place). p.number) c.args.number places base size c.if-places-middle.base (get_or places middle none_there) rises gets w.if-places-middle.true w.base-is
            (c.loop-size.invariant.within rises within);
      }
      | else-places-middle w ↦ record {
        inside = omega (arith, w.base-is, c.loop-size.invariant.inside);
        within = λ rises within.
            lower_half (λ (p : Place). p.number) c.args.number places base size c.if-places-middle.base (get_or places middle none_there) rises gets w.if-places-middle.false w.base-is
            (c.loop-size.invariant.within rises within);
      }
    ]
