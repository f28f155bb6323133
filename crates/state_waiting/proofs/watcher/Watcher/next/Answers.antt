use Rattle.state_waiting.specs.declared.collected.Collected.TheVariants.{Value}
use Rattle.state_waiting.proofs.Asking.{awaits, awaited}
use Rattle.state_waiting.proofs.watcher.Watcher.next.Goals as goal

pub returns-in-Some-clause-has : goal.returns-in-Some-clause-has
returns-in-Some-clause-has g c = awaited c.args.self.now.view c.look_on.new.self.view (Value c.in-Some.value) c.in-Some.ensures.given

pub returns-clause-has : goal.returns-clause-has
returns-clause-has g c =
    let before = c.args.self.now.view in
    let waited = c.wait-collected in
    awaited before waited.new.self.view waited.result (awaits before c.look_on.new.self.view waited.new.self.view waited.result c.in_default.ensures.missed waited.ensures.awaits)

pub returns-clause-awaits : goal.returns-clause-awaits
returns-clause-awaits g c = awaits c.args.self.now.view c.look_on.new.self.view c.wait-collected.new.self.view c.wait-collected.result c.in_default.ensures.missed c.wait-collected.ensures.awaits
