use Rattle.std.proofs.Common.{subst}
use Rattle.std.specs.Prelude.{IfOk, IfErr}
use Rattle.shared_lane.specs.Sequencers.{IsSameSequencer, HasNumber, TriedOn, RefusedTry, AfterScan}
use Rattle.hillgauze_c.proofs.parties.sequencing.Sequencing.try_emit.Goals as goal

pub returns-clause-refused : goal.returns-clause-refused
returns-clause-refused c = subst (λ q. IfErr c.try_emit.result (λ e. AfterScan q (λ m. RefusedTry m e c.try_emit.new.self))) c.self.view_is c.try_emit.ensures.refused

pub returns-clause-tried : goal.returns-clause-tried
returns-clause-tried c =
    subst (λ q. IfOk c.try_emit.result (λ t. AfterScan q (λ m. HasNumber m × TriedOn m (c.args.emitter, c.args.word) t c.try_emit.new.self))) c.self.view_is c.try_emit.ensures.has

pub returns-clause-same : goal.returns-clause-same
returns-clause-same c = subst (λ q. IsSameSequencer q c.try_emit.new.self) c.self.view_is c.try_emit.ensures.same.1
