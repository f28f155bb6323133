use Rattle.std.proofs.Common.{arith}
use Rattle.log_callers.proofs.Logging.{logs_nothing, logs_more}
use Rattle.log_callers.proofs.event_log.log_events.Goals as goal

pub loop-turn-init : goal.loop-turn-init
loop-turn-init g c = (logs_nothing c.args.log.now.items c.args.reader.now, omega arith)

pub loop-turn-preserved : goal.loop-turn-preserved
loop-turn-preserved g c = (
  logs_more c.args.log.now.items c.loop-turn.log.items c.log_one.new.log.items c.args.reader.now c.loop-turn.reader c.log_one.new.reader c.loop-turn.invariant.0 c.log_one.ensures.logged,
  omega (arith, c.in_ok-log_one.ensures.one),
)

pub returns-in_err-log_one-clause-logged : goal.returns-in_err-log_one-clause-logged
returns-in_err-log_one-clause-logged g c =
    logs_more c.args.log.now.items c.loop-turn.log.items c.log_one.new.log.items c.args.reader.now c.loop-turn.reader c.log_one.new.reader c.loop-turn.invariant.0 c.log_one.ensures.logged
