use Rattle.std.proofs.Common.{ℕ, inr, subst, sym}
use Rattle.shared_lane.specs.Views.{SequencerSeen}
use Rattle.shared_rounds.specs.Waking.{AreOutBut}
use Rattle.shared_rounds.proofs.Staying.{who_waits}
use Rattle.shared_rounds.proofs.shared.Shared.wake_emissions.Goals as goal

pub returns-clause-emissions : goal.returns-clause-emissions
returns-clause-emissions c =
    let q : SequencerSeen = c.self.inside.sequencer in
    let t : SequencerSeen = c.finished_below-below.new.self in
    let below : ℕ = c.finished_below-below.result in
    let old = c.self.inside.emissions in
    let later = c.wake_done.new.self in
    let asleep = subst (AreOutBut c.args.taken) (sym c.self.view_is) c.requires in
    let woke = who_waits q t below c.first_unfinished-first.result c.gone-gone.result c.args.taken old later
    c.finished_below-below.ensures.only c.first_unfinished-first.ensures c.gone-gone.ensures.gone c.gone-gone.ensures.out asleep c.wake_done.ensures.done in
    rw (← c.self.view_is) (inr (below, c.finished_below-below.ensures.finished, woke))
