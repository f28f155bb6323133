use Rattle.std.proofs.Common.{◌≡◌, None, rules}
use Rattle.crossbeam_channel.specs.Ends.{receives_on}
use Rattle.flow_buffer.proofs.Drains.{received, has_given}
use Rattle.flow_buffer.proofs.drain.Drain.try_next.Goals as goal

pub invariant_of-self : goal.invariant_of-self
invariant_of-self g c =
    let none : c.self.inside.end ≡ None = search rules in
    received (receives_on c.self.inside.receiver) c.self.inside.pass c.try_receive.new.pass _ _ _ _ (rw none at c.self.invariant) c.try_receive.ensures.channel c.in-Some-try_receive.ensures.taken c.taken_after-self-inside.ensures c.end_by-self-inside.ensures

pub returns-in-Some-try_receive : goal.returns-in-Some-try_receive
returns-in-Some-try_receive g c =
    let none : c.self.inside.end ≡ None = search rules in
    record { gave = rw (← c.self.view_is, none) (has_given (receives_on c.self.inside.receiver) c.self.inside.pass c.try_receive.new.pass _ _ c.in-Some-try_receive.ensures.taken c.end_by-self-inside.ensures) }
