use Rattle.std.proofs.Common.{rules, ◌≡◌}
use Rattle.cold_flow.proofs.builders.scripted.SteppedFlow.start.Goals as goal

pub returns-clause-gives : goal.returns-clause-gives
returns-clause-gives g c =
    let copied : c.new.result.source.steps.items ≡ c.args.self.now.steps.items = search rules in
    rw (c.new.ensures.fresh, copied, c.new.ensures.source) (λ t h. h)
