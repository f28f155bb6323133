use Rattle.std.proofs.lemmas.Result.{IfErr-weaker}
use Rattle.shared_lane.proofs.sequencer.Sequencer.try_emit_all.Goals as goal

pub returns-clause-refused : goal.returns-clause-refused
returns-clause-refused g c = IfErr-weaker c.try_all_after_scan.result _ _ (λ e p. (p.0, (c.scan.new.self, c.scan.result, c.scan.ensures.same.1, c.scan.ensures.settled, c.scan.ensures.stuck, p.1))) c.try_all_after_scan.ensures.refused
