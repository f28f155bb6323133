use Rattle.std.proofs.Common.{rules, ap}
use Rattle.flow_buffer.specs.Channel.{Agree}
use Rattle.flow_buffer.specs.Sides.{IsEndKnown}
use Rattle.flow_buffer.proofs.ChannelSteps.{merges, agrees}
use Rattle.flow_buffer.specs.Sides.{NothingAfter}
use Rattle.flow_buffer.proofs.Totals.{none_waits, totals, wholes}
use Rattle.flow_buffer.proofs.inlet.Inlet.meet.Goals as goal

pub absorb-requires-clause-rule : goal.absorb-requires-clause-rule
absorb-requires-clause-rule g c = merges _ _ _ _ (ap (λ s. s.feeds) c.self.invariant.2) (ap (λ s. s.drains) c.drain.invariant.1)

pub learn_as-requires-clause-rule : goal.learn_as-requires-clause-rule
learn_as-requires-clause-rule g c = agrees _ _ (ap (λ s. s.feeds) c.absorb.ensures.rule) (ap (λ s. s.drains) c.absorb.ensures.rule)

pub returns-clause-put : goal.returns-clause-put
returns-clause-put g c some =
    let agree : Agree c.args.self.produced c.args.self.sent c.args.drain.taken c.args.drain.end c.args.drain.history = search rules in
    let after : NothingAfter c.args.self.sent c.args.self.waiting = rw (← c.self.view_is) c.self.invariant.4 in
    none_waits _ _ _ after (agree.3 some).0 some

pub returns-clause-all : goal.returns-clause-all
returns-clause-all g c some =
    let agree : Agree c.args.self.produced c.args.self.sent c.args.drain.taken c.args.drain.end c.args.drain.history = search rules in
    let known : IsEndKnown c.args.drain.end c.args.drain.lossy c.args.drain.taken c.args.drain.history = rw (← c.drain.view_is) c.drain.invariant.4 in
    totals _ _ _ _ _ _ agree known some

pub returns-clause-whole : goal.returns-clause-whole
returns-clause-whole g c some free =
    let agree : Agree c.args.self.produced c.args.self.sent c.args.drain.taken c.args.drain.end c.args.drain.history = search rules in
    let known : IsEndKnown c.args.drain.end c.args.drain.lossy c.args.drain.taken c.args.drain.history = rw (← c.drain.view_is) c.drain.invariant.4 in
    wholes _ _ _ _ _ _ agree known some free
