use Rattle.std.proofs.Common.{rules}
use Rattle.flow_buffer.proofs.Polls.{takes_oldest, takes_seen, takes_value, takes_end, narrows_oldest, narrows_seen, narrows_value, narrows_end}
use Rattle.flow_buffer.proofs.buffered.BufferedRun.poll_next.Goals as goal

pub returns-in-Some-clause-takes : goal.returns-in-Some-clause-takes
returns-in-Some-clause-takes g c = takes_oldest g.S.Run.may _ _ _ _ c.args.self.now.emptied c.in-Some.ensures

pub returns-in-Some-clause-narrows : goal.returns-in-Some-clause-narrows
returns-in-Some-clause-narrows g c = narrows_oldest _ _ _ _ c.args.self.now.emptied c.in-Some.ensures

pub returns-in-Some-give-clause-takes : goal.returns-in-Some-give-clause-takes
returns-in-Some-give-clause-takes g c = takes_seen g.S.Run.may _ _ _ _ (search rules) (search rules) (search rules)

pub returns-in-Some-give-clause-narrows : goal.returns-in-Some-give-clause-narrows
returns-in-Some-give-clause-narrows g c = narrows_seen _ c.args.self.now.store _ (search rules) (search rules)

pub returns-in-Ready-Value-clause-takes : goal.returns-in-Ready-Value-clause-takes
returns-in-Ready-Value-clause-takes g c =
    let gave = rw c.in-Ready-Value.field-0-is at c.in-Ready-Value.ensures.narrows in
    takes_value g.S.Run.may _ _ _ _ _ (search rules) c.args.self.now.places (search rules) gave (search rules)

pub returns-in-Ready-Value-clause-narrows : goal.returns-in-Ready-Value-clause-narrows
returns-in-Ready-Value-clause-narrows g c =
    let gave = rw c.in-Ready-Value.field-0-is at c.in-Ready-Value.ensures.narrows in
    narrows_value _ _ c.args.self.now.store c.count_taken.new.self _ (search rules) c.args.self.now.places (search rules) gave (search rules)

pub returns-in-Ready-End-clause-takes : goal.returns-in-Ready-End-clause-takes
returns-in-Ready-End-clause-takes g c =
    let gave = rw c.in-Ready-End.field-0-is at c.in-Ready-End.ensures.narrows in
    takes_end g.S.Run.may _ _ _ _ _ (search rules) (search rules) gave (search rules)

pub returns-in-Ready-End-clause-narrows : goal.returns-in-Ready-End-clause-narrows
returns-in-Ready-End-clause-narrows g c =
    let gave = rw c.in-Ready-End.field-0-is at c.in-Ready-End.ensures.narrows in
    narrows_end _ c.args.self.now.store _ (search rules) (search rules) gave
