use Rattle.std.proofs.Common.{arith, ◌≡◌, ℕ, ◌+◌, ◌-◌, ◌≤◌, ◌<◌, List, [], ◌∷◌, ◌++◌, length, cond, eqb, sym, ap, ◌∙◌, subst, length-append}
use Rattle.shared_lane.specs.Law.{closed}
use Rattle.shared_lane.specs.Steps.{Surveyed}
use Rattle.shared_lane.proofs.Passes.{visited, pass_more, behind_more, open_more, open_few}
use Rattle.shared_lane.specs.Surveys.{ShutFrom, FoundAt}
use Rattle.shared_lane.proofs.WholePasses.{all_of, all_long, found_still, found_shut, whole_of, found_loses_none, behind_all, open_all, ends_more, shut_after}
use Rattle.shared_lane.proofs.sequencer.load_cursors.Goals as goal

pub with-found-requires : goal.with-found-requires
with-found-requires g c = let inv = c.loop-place.invariant.1 in let few = open_few inv.0 in let long = inv.1 in let counted = inv.4 in let small = c.args.words.now.shaped.2.2 in let test = c.loop-place-test.true in omega arith

pub loop-place-preserved : goal.loop-place-preserved
loop-place-preserved g c = let before = c.loop-place.invariant.0 in let inv = c.loop-place.invariant.1 in let ns : List ℕ = inv.0 in let n : ℕ = c.load_cursor-at.result in let here = c.load_cursor-at.ensures in let with = c.with-found.ensures in
    let count = c.requires.sized.1 in let test = c.loop-place-test.true in let long = inv.1 in let longer : length (ns ++ n ∷ []) ≡ length ns + 1 = length-append ns (n ∷ []) in
    let same = inv.2.only.count in let inside : length ns < length c.loop-place.seat.me.0.sequencing.places = omega arith in (
      (here.seat.0 ∙ before.0, here.seat.1 ∙ before.1, here.seat.2 ∙ before.2),
      (
        ns ++ n ∷ [],
        omega arith,
        pass_more _ c.args.seat.now.me.0 c.loop-place.seat.me.0 c.load_cursor-at.new.seat.me.0 ns n inv.2 (visited c.loop-place.seat.me.0 c.load_cursor-at.new.seat.me.0 (length ns) n inside (subst (λ (z : ℕ). Surveyed z c.loop-place.seat.me.0 n c.load_cursor-at.new.seat.me.0) (sym long) here.view)),
        behind_more c.args.tail c.args.lag ns n c.loop-place.found.behind c.with-found.result.behind inv.3 with.behind with.kept.0 with.kept.1,
        with.open ∙ (ap (λ (z : ℕ). cond (eqb n closed) z (z + 1)) inv.4 ∙ sym (open_more ns n)),
        ends_more ns n c.loop-place.place c.loop-place.end c.end_with-end.result long inv.5 c.end_with-end.ensures,
      ),
    )

pub returns : goal.returns
returns g c = let inv = c.loop-place.invariant.1 in let ns : List ℕ = inv.0 in let v = c.args.seat.now.me.0 in let w = c.loop-place.seat.me.0 in let places : ℕ = c.args.words.now.shape.places in let more : ℕ = places - length ns in
    let long = inv.1 in let within = c.requires.beyond.0 in let past = c.loop-place-test.false in let up = c.loop-place.auto.place-end in let all = all_long ns more in
    let is : length ns ≡ c.args.open_end.now = omega arith in let shut = subst (ShutFrom v) (sym is) c.requires.beyond.1 in let ends = inv.5.within in
    let whole = whole_of FoundAt v w ns more found_still inv.2 shut in record {
      seat = c.loop-place.invariant.0;
      keeps = found_loses_none v w (all_of ns more) whole;
      found = (
        all_of ns more,
        omega arith,
        whole,
        behind_all c.args.tail c.args.lag ns more c.loop-place.found.behind inv.3,
        inv.4 ∙ sym (open_all ns more),
      );
      beyond = subst (λ (z : ℕ). (z ≤ c.args.open_end.now) × ShutFrom w z) (sym c.end_at.ensures) (omega arith, shut_after FoundAt v w ns c.loop-place.end found_shut inv.2 shut inv.5);
    }
