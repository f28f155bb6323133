use Rattle.std.proofs.Common.{arith}
use Rattle.hot_callers.proofs.Exchanging.{takes_none, takes_on}
use Rattle.hot_callers.proofs.Keeping.{takes_only, takes_only_more}
use Rattle.hot_callers.proofs.alone_calling.take_waiting.Goals as goal

pub loop-turn-init : goal.loop-turn-init
loop-turn-init g c = record {
  has = takes_none c.args.received.now.items c.args.subscription.now;
  all = omega arith;
  only = takes_only c.args.subscription.now;
}

pub loop-turn-preserved : goal.loop-turn-preserved
loop-turn-preserved g c = record {
  has = takes_on c.args.received.now.items c.loop-turn.received.items c.take_next.new.received.items c.args.subscription.now c.loop-turn.subscription c.take_next.new.subscription
      c.loop-turn.invariant.has c.take_next.ensures.has;
  all = omega (arith, c.loop-turn.invariant.all, c.in_ok-take_next.ensures.one);
  only = takes_only_more c.args.subscription.now c.loop-turn.subscription c.take_next.new.subscription c.loop-turn.invariant.only c.take_next.ensures.only;
}

pub returns-in_err-take_next-clause-has : goal.returns-in_err-take_next-clause-has
returns-in_err-take_next-clause-has g c =
    takes_on c.args.received.now.items c.loop-turn.received.items c.take_next.new.received.items c.args.subscription.now c.loop-turn.subscription c.take_next.new.subscription
    c.loop-turn.invariant.has c.take_next.ensures.has

pub returns-in_err-take_next-clause-only : goal.returns-in_err-take_next-clause-only
returns-in_err-take_next-clause-only g c =
    takes_only_more c.args.subscription.now c.loop-turn.subscription c.take_next.new.subscription c.loop-turn.invariant.only c.take_next.ensures.only
