use Rattle.std.proofs.Common.{◌<◌, ℕ, sym, ap, ◌∙◌, subst}
use Rattle.shared_lane.specs.declared.view.Shape.{Shape}
use Rattle.shared_lane.specs.Places.{opening_of}
use Rattle.shared_lane.specs.Views.{ClosedSeen, ReaderSeen, SequencerSeen}
use Rattle.hot_callers.proofs.lane_calling.attempted_and_counted.Goals as goal

pub returns : goal.returns
returns g c = let one = c.in_ok-reader.ensures.ok in let told = c.told_end.ensures in let r = c.close-closed.result.reader in let q = c.told_end.new.self in let same = c.try_next-taken.ensures.same.1 in
    let is = ap (λ (z : ClosedSeen). z.reader) c.close-closed.ensures in let place = ap (λ (z : ReaderSeen). z.place) is ∙ same.1 in let opening = ap (λ (z : ReaderSeen). z.opening) is ∙ same.5 in
    let latest = told.opens r.place ∙ (ap (λ (z : ℕ). opening_of c.admit.new.self z) place ∙ (one.opened.1 ∙ sym opening)) in
    let fewer = (c.ended_reader_is_counted_no_more.ensures c.args.lane.now q r told.knows latest).0 c.live.result c.live.new.self c.live.ensures.count in
    subst (λ (k : Shape). c.live.result < k.places) (ap (λ (z : SequencerSeen). z.view.shape) told.heard ∙ (one.same_shape ∙ c.requires.1)) fewer
