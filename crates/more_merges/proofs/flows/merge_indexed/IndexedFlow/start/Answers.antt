use Rattle.more_merges.specs.JoinsLaws.{started_gives, started_lasts, started_prompt}
use Rattle.more_merges.proofs.flows.merge_indexed.IndexedFlow.start.Goals as goal

pub returns-clause-gives : goal.returns-clause-gives
returns-clause-gives g c =
    started_gives g.F.Flow.may g.F.Flow.polls g.F.Flow.prompt g.F.Running.Run.may g.F.Running.Run.polls g.F.Running.Run.prompt
    c.args.self.now.flows.items c.in_ok-start_sides.field-0.items (rw c.as_slice.ensures.value at c.in_ok-start_sides.ensures.began)

pub returns-clause-lasts : goal.returns-clause-lasts
returns-clause-lasts g c =
    started_lasts g.F.Flow.may g.F.Flow.polls g.F.Flow.prompt g.F.Running.Run.may g.F.Running.Run.polls g.F.Running.Run.prompt
    c.args.self.now.flows.items c.in_ok-start_sides.field-0.items (rw c.as_slice.ensures.value at c.in_ok-start_sides.ensures.began)

pub returns-clause-prompt : goal.returns-clause-prompt
returns-clause-prompt g c =
    started_prompt g.F.Flow.may g.F.Flow.polls g.F.Flow.prompt g.F.Running.Run.may g.F.Running.Run.polls g.F.Running.Run.prompt
    c.args.self.now.flows.items c.in_ok-start_sides.field-0.items (rw c.as_slice.ensures.value at c.in_ok-start_sides.ensures.began)
