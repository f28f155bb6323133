use Rattle.value_states.specs.Watching.{not_once, once_more}
use Rattle.value_states.proofs.watcher.Watcher.look_on.Goals as goal

pub loop-init : goal.loop-init
loop-init g c = not_once c.args.self.now

pub loop-preserved : goal.loop-preserved
loop-preserved g c = once_more c.args.self.now c.loop.self c.news.new.self c.loop.invariant c.in_default.ensures.missed
