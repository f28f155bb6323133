use Rattle.hot_callers.proofs.StateExchanging.{asks_none, asks_then}
use Rattle.hot_callers.proofs.state_exchange_calling.ask_each.Goals as goal

pub loop-init : goal.loop-init
loop-init c = (asks_none c.args.collector.now, c.requires.listed)

pub loop-preserved : goal.loop-preserved
loop-preserved c = (asks_then c.args.collector.now c.loop.collector c.ask_once.new.collector c.loop.invariant.0 c.ask_once.ensures.asks, c.ask_once.ensures.listed)

pub returns-in_err-ask_once-clause-asks : goal.returns-in_err-ask_once-clause-asks
returns-in_err-ask_once-clause-asks c = asks_then c.args.collector.now c.loop.collector c.ask_once.new.collector c.loop.invariant.0 c.ask_once.ensures.asks
