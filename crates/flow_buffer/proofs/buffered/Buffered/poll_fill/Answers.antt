use Rattle.std.proofs.Common.{rules, refl}
use Rattle.flow_buffer.specs.declared.ending.Ending.TheVariants.{Kept}
use Rattle.flow_buffer.proofs.Polls.{fills_value}
use Rattle.flow_buffer.proofs.Narrowing.{puts_narrow, ends_narrow}
use Rattle.flow_buffer.proofs.buffered.Buffered.poll_fill.Goals as goal

pub returns-in-Ready-Value-clause-fills : goal.returns-in-Ready-Value-clause-fills
returns-in-Ready-Value-clause-fills g c =
    let gave = rw c.in-Ready-Value.field-0-is at c.in-Ready-Value.ensures.narrows in
    fills_value _ _ _ _ _ _ _ (search rules) c.args.self.now.places gave c.put.ensures

pub returns-in-Ready-Value-clause-narrows : goal.returns-in-Ready-Value-clause-narrows
returns-in-Ready-Value-clause-narrows g c =
    let gave = rw c.in-Ready-Value.field-0-is at c.in-Ready-Value.ensures.narrows in
    puts_narrow _ _ c.args.self.now.store c.put.new.self (search rules) _ _ c.args.self.now.places gave c.put.ensures

pub returns-in-Ready-End-clause-narrows : goal.returns-in-Ready-End-clause-narrows
returns-in-Ready-End-clause-narrows g c =
    let came = rw c.in-Ready-End.field-0-is at c.in-Ready-End.ensures.narrows in
    let old = c.args.self.now.store in
    ends_narrow _ (g.S.Run.may c.poll_next.new.self) old (record old { ending = Kept c.in-Ready-End.cause }) (search rules) c.in-Ready-End.cause (g.met.S.Run.begins c.args.self.now.source) came refl

-- A wrong body makes these false: so answered, it is refused at once.
pub put-requires-clause-free : goal.put-requires-clause-free
put-requires-clause-free g c = search rules

pub returns-in-Ready-End-clause-fills : goal.returns-in-Ready-End-clause-fills
returns-in-Ready-End-clause-fills g c = search rules

pub returns-in-Pending-clause-fills : goal.returns-in-Pending-clause-fills
returns-in-Pending-clause-fills g c = search rules

pub invariant_of-self-in-Ready-End : goal.invariant_of-self-in-Ready-End
invariant_of-self-in-Ready-End g c = search rules
