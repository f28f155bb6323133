use Rattle.hot_callers.proofs.Exchanging.{takes_none, takes_on, turns_none, turns_on}
use Rattle.hot_callers.proofs.exchange_calling.take_each.Goals as goal

pub loop-init : goal.loop-init
loop-init c =
    let received = c.args.received.now.items in
    let subscription = c.args.subscription.now in
    record { has = takes_none received subscription; turns = turns_none received subscription }

pub loop-preserved : goal.loop-preserved
loop-preserved c =
    let received = c.args.received.now.items in
    let subscription = c.args.subscription.now in
    record {
      has = takes_on received c.loop.received.items c.take_one.new.received.items subscription c.loop.subscription c.take_one.new.subscription c.loop.invariant.has
          c.take_one.ensures.has;
      turns = turns_on received c.loop.received.items c.take_one.new.received.items subscription c.loop.subscription c.take_one.new.subscription c.loop.invariant.turns
          c.take_one.ensures.turns;
    }

pub returns-in_err-take_one : goal.returns-in_err-take_one
returns-in_err-take_one c =
    let received = c.args.received.now.items in
    let subscription = c.args.subscription.now in
    record {
      has = takes_on received c.loop.received.items c.take_one.new.received.items subscription c.loop.subscription c.take_one.new.subscription c.loop.invariant.has
          c.take_one.ensures.has;
      turns = turns_on received c.loop.received.items c.take_one.new.received.items subscription c.loop.subscription c.take_one.new.subscription c.loop.invariant.turns
          c.take_one.ensures.turns;
    }
