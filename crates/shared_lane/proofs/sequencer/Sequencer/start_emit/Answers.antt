use Rattle.std.proofs.lemmas.Result.{IfOk-weaker, IfErr-weaker}
use Rattle.shared_lane.proofs.sequencer.Sequencer.start_emit.Goals as goal

pub returns-clause-refused : goal.returns-clause-refused
returns-clause-refused g c = IfErr-weaker c.start_after_scan.result _ _ (λ e p. (c.scan.new.self, c.scan.result, c.scan.ensures.same.1, c.scan.ensures.settled, c.scan.ensures.stuck, p)) c.start_after_scan.ensures.refused

pub returns-clause-has : goal.returns-clause-has
returns-clause-has g c = IfOk-weaker c.start_after_scan.result _ _ (λ x p. (c.scan.new.self, c.scan.result, c.scan.ensures.same.1, c.scan.ensures.settled, c.scan.ensures.stuck, p)) c.start_after_scan.ensures.begun
