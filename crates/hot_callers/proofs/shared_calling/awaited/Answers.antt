use Rattle.hot_callers.proofs.Looks.{took_one, took_none}
use Rattle.hot_callers.proofs.shared_calling.awaited.Goals as goal

pub returns-clause-value : goal.returns-clause-value
returns-clause-value g c = took_one c.next.result c.args.subscription.now c.next.new.self c.next.ensures.value

pub returns-clause-nothing : goal.returns-clause-nothing
returns-clause-nothing g c = took_none c.next.result c.args.subscription.now c.next.new.self c.next.ensures.nothing
