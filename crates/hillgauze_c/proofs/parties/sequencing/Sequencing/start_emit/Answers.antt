use Rattle.std.proofs.Common.{subst}
use Rattle.std.specs.Prelude.{IfOk, IfErr}
use Rattle.shared_lane.specs.Sequencers.{IsSameSequencer, HasNumber, HasTicketNumber, BegunOn, RefusedStart, AfterScan}
use Rattle.hillgauze_c.proofs.parties.sequencing.Sequencing.start_emit.Goals as goal

pub returns-clause-refused : goal.returns-clause-refused
returns-clause-refused c = subst (λ q. IfErr c.start_emit.result (λ e. AfterScan q (λ m. RefusedStart m e c.start_emit.new.self))) c.self.view_is c.start_emit.ensures.refused

pub returns-clause-begun : goal.returns-clause-begun
returns-clause-begun c =
    subst (λ q. IfOk c.start_emit.result (λ b. AfterScan q (λ m. HasNumber m × HasTicketNumber m × BegunOn m (c.args.emitter, c.args.word) b c.start_emit.new.self))) c.self.view_is c.start_emit.ensures.has

pub returns-clause-same : goal.returns-clause-same
returns-clause-same c = subst (λ q. IsSameSequencer q c.start_emit.new.self) c.self.view_is c.start_emit.ensures.same.1
