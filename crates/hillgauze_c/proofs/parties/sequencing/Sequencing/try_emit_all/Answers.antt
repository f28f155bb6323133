use Rattle.std.proofs.Common.{subst}
use Rattle.std.specs.Prelude.{◌≢◌, [], IfOk, IfErr}
use Rattle.shared_lane.specs.Blocks.{TriedAllOn}
use Rattle.shared_lane.specs.Sequencers.{IsSameSequencer, RefusedTry, AfterScan}
use Rattle.hillgauze_c.proofs.parties.sequencing.Sequencing.try_emit_all.Goals as goal

pub returns-clause-refused : goal.returns-clause-refused
returns-clause-refused c = subst (λ q. IfErr c.try_emit_all.result (λ e. (c.args.words.now ≢ []) × AfterScan q (λ m. RefusedTry m e c.try_emit_all.new.self))) c.self.view_is c.try_emit_all.ensures.refused

pub returns-clause-tried : goal.returns-clause-tried
returns-clause-tried c =
    subst (λ q. IfOk c.try_emit_all.result (λ t. AfterScan q (λ m. TriedAllOn m c.args.emitter c.args.words.now t c.try_emit_all.new.self))) c.self.view_is c.try_emit_all.ensures.has

pub returns-clause-same : goal.returns-clause-same
returns-clause-same c = subst (λ q. IsSameSequencer q c.try_emit_all.new.self) c.self.view_is c.try_emit_all.ensures.same.1
