use Rattle.more_merges.proofs.flows.merge_indexed.IndexedRunRun.poll_next.Goals as goal

pub returns-in-Ready-Value-clause-narrows : goal.returns-in-Ready-Value-clause-narrows
returns-in-Ready-Value-clause-narrows g c =
    let came = rw c.in-Ready-Value.field-0-is at c.in-Ready-Value.ensures.narrows in
    rw (c.in-Ready-Value.ensures.same, c.in_default.is) came

pub returns-in-Pending-clause-narrows : goal.returns-in-Pending-clause-narrows
returns-in-Pending-clause-narrows g c =
    rw (c.in-Pending.ensures.same, c.in_default.is) c.in-Pending.ensures.narrows
