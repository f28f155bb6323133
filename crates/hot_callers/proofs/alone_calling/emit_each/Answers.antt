use Rattle.hot_callers.proofs.Keeping.{all_same}
use Rattle.hot_callers.proofs.alone_calling.emit_each.Goals as goal

pub returns-clause-same : goal.returns-clause-same
returns-clause-same g c = all_same c.args.emitter.now c.emit_all.new.self _ c.emit_all.result c.emit_all.ensures.emitted c.emit_all.ensures.cut
