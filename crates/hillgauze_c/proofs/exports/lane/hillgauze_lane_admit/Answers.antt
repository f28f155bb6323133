use Rattle.std.proofs.Common.{refl, inr}
use Rattle.flow_terms.specs.declared.refusal.Refusal.TheVariants.{NoMemory}
use Rattle.hillgauze_c.specs.declared.object.Object.TheVariants.{Sequencer}
use Rattle.hillgauze_c.specs.Kinds.{sequencer_of}
use Rattle.hillgauze_c.specs.LaneCalls.{Admits}
use Rattle.hillgauze_c.proofs.Handled.{on_part}
use Rattle.hillgauze_c.proofs.exports.lane.hillgauze_lane_admit.Goals as goal

pub returns-then-not-make-clause-admitted : goal.returns-then-not-make-clause-admitted
returns-then-not-make-clause-admitted c _ =
    let q = c.in-Some-sequencer.sequencing.now in
    on_part sequencer_of Sequencer (Admits c.make.new.self.object) c.args.sequencer.now.object c.of_refusal.result _ c.in-Some.object.now c.in-Some.ensures.object q q
    c.in-Some-sequencer.ensures.kind refl (inr (NoMemory, c.of_refusal.ensures, inr (refl, refl)))
