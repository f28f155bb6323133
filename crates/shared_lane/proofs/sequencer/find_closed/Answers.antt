use Rattle.std.proofs.Common.{arith, ◌≡◌, ◌≢◌, ℕ, ◌+◌, ◌<◌, List, [], ◌∷◌, ◌++◌, length, sym, ap, ◌∙◌, subst, ⊎_elim, length-append}
use Rattle.shared_lane.specs.Law.{closed}
use Rattle.shared_lane.specs.declared.view.Known.{Known}
use Rattle.shared_lane.specs.Steps.{Surveyed, known_of}
use Rattle.shared_lane.specs.Surveys.{Pass, FoundAt, may_be_open}
use Rattle.shared_lane.proofs.Lists.{which}
use Rattle.shared_lane.proofs.Passes.{visited, pass_more, pass_loses_none, all_more, shut_at}
use Rattle.shared_lane.proofs.sequencer.find_closed.Goals as goal

pub loop-place-preserved : goal.loop-place-preserved
loop-place-preserved g c = let before = c.loop-place.invariant.0 in let inv = c.loop-place.invariant.1 in let ns : List ℕ = inv.0 in let n : ℕ = c.load_cursor.result in let here = c.load_cursor.ensures in
    let long = inv.1 in let longer : length (ns ++ n ∷ []) ≡ length ns + 1 = length-append ns (n ∷ []) in let same = inv.2.only.count in let count = c.requires.sized.1 in let test = c.loop-place-test.true in
    let inside : length ns < length c.loop-place.seat.me.0.sequencing.places = omega arith in (
      (here.seat.0 ∙ before.0, here.seat.1 ∙ before.1, here.seat.2 ∙ before.2),
      (
        ns ++ n ∷ [],
        omega arith,
        pass_more FoundAt c.args.seat.now.me.0 c.loop-place.seat.me.0 c.load_cursor.new.seat.me.0 ns n inv.2
            (visited c.loop-place.seat.me.0 c.load_cursor.new.seat.me.0 (length ns) n inside (subst (λ (z : ℕ). Surveyed z c.loop-place.seat.me.0 n c.load_cursor.new.seat.me.0) (sym long) here.view)),
        all_more (λ z. z ≢ closed) ns n inv.3 c.if-load_cursor.false,
      ),
    )

pub returns-then-load_cursor-clause-some : goal.returns-then-load_cursor-clause-some
returns-then-load_cursor-clause-some g c = let inv = c.loop-place.invariant.1 in let ns : List ℕ = inv.0 in let n : ℕ = c.load_cursor.result in let here = c.load_cursor.ensures in let shut = c.if-load_cursor.true in
    let long = inv.1 in let same = inv.2.only.count in let count = c.requires.sized.1 in let test = c.loop-place-test.true in let inside : length ns < length c.loop-place.seat.me.0.sequencing.places = omega arith in
    let visit = visited c.loop-place.seat.me.0 c.load_cursor.new.seat.me.0 (length ns) n inside (subst (λ (z : ℕ). Surveyed z c.loop-place.seat.me.0 n c.load_cursor.new.seat.me.0) (sym long) here.view) in (
      test,
      (
        ns,
        long,
        subst (λ (z : ℕ). Pass FoundAt c.args.seat.now.me.0 (ns ++ z ∷ []) c.load_cursor.new.seat.me.0) shut (pass_more FoundAt c.args.seat.now.me.0 c.loop-place.seat.me.0 c.load_cursor.new.seat.me.0 ns n inv.2 visit),
        inv.3,
        ap (λ (z : ℕ). (known_of c.load_cursor.new.seat.me.0.sequencing z).is_open) (sym long) ∙ (ap (λ (k : Known). k.is_open) visit.here ∙ shut_at n (known_of c.loop-place.seat.me.0.sequencing (length ns)) shut),
        λ x before. ⊎_elim (λ o. o) (λ s. absurd (inv.3 x (omega arith) (inv.2.shut x (omega arith) s))) (which (may_be_open c.args.seat.now.me.0 x)),
      ),
    )

pub returns-then-load_cursor-clause-keeps : goal.returns-then-load_cursor-clause-keeps
returns-then-load_cursor-clause-keeps g c = let inv = c.loop-place.invariant.1 in let ns : List ℕ = inv.0 in let n : ℕ = c.load_cursor.result in let v = c.args.seat.now.me.0 in let w = c.load_cursor.new.seat.me.0 in
    let long = inv.1 in let same = inv.2.only.count in let count = c.requires.sized.1 in let test = c.loop-place-test.true in let inside : length ns < length c.loop-place.seat.me.0.sequencing.places = omega arith in
    let visit = visited c.loop-place.seat.me.0 w (length ns) n inside (subst (λ (z : ℕ). Surveyed z c.loop-place.seat.me.0 n w) (sym long) c.load_cursor.ensures.view) in
    pass_loses_none v w (ns ++ n ∷ []) (pass_more FoundAt v c.loop-place.seat.me.0 w ns n inv.2 visit)

pub returns-clause-keeps : goal.returns-clause-keeps
returns-clause-keeps g c = let inv = c.loop-place.invariant.1 in pass_loses_none c.args.seat.now.me.0 c.loop-place.seat.me.0 inv.0 inv.2
