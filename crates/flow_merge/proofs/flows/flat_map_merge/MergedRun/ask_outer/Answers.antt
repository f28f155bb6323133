use Rattle.std.proofs.Common.{rules, ◌<◌, length, arith}
use Rattle.flow_merge.specs.MergeLaws.{merge_begins_before, merge_refused, merge_outer_fails}
use Rattle.flow_merge.proofs.flows.flat_map_merge.MergedRun.ask_outer.Goals as goal

pub returns-then-is_err-clause-asked : goal.returns-then-is_err-clause-asked
returns-then-is_err-clause-asked g c =
    let self = c.args.self.now in
    let after = rw c.in-Ready-Value.field-0-is at c.in-Ready-Value.ensures.narrows in
    let room : length self.runs.items < self.limit = omega (arith, self.runs.ok.0) in
    rw (c.requires.going, c.requires.unfinished) (merge_refused _ _ _ _ _ _ _ after (g.met.O.Run.begins _) room g.met.F.Running.Run.begins)

pub returns-in-Ok-clause-asked : goal.returns-in-Ok-clause-asked
returns-in-Ok-clause-asked g c =
    let self = c.args.self.now in
    let after = rw c.in-Ready-Value.field-0-is at c.in-Ready-Value.ensures.narrows in
    let gives = rw c.apply.ensures at c.in-Ok.ensures.gives in
    let room : length self.runs.items < self.limit = omega (arith, self.runs.ok.0) in
    let stands = rw c.reserve.ensures.items at c.stand_before-self.ensures.stands in
    rw (c.requires.going, c.requires.unfinished) (merge_begins_before _ _ _ _ _ _ _ _ _ _ _ stands after room gives)

pub returns-in-Ready-Value-clause-asked : goal.returns-in-Ready-Value-clause-asked
returns-in-Ready-Value-clause-asked g c =
    let self = c.args.self.now in
    let after = rw c.in-Ready-Value.field-0-is at c.in-Ready-Value.ensures.narrows in
    let room : length self.runs.items < self.limit = omega (arith, self.runs.ok.0) in
    rw (c.requires.going, c.requires.unfinished, c.in-Err.ensures.refused) (merge_refused _ _ _ _ _ _ _ after (g.met.O.Run.begins _) room g.met.F.Running.Run.begins)

pub returns-in-Ready-End : goal.returns-in-Ready-End
returns-in-Ready-End g c =
    let self = c.args.self.now in
    let came = rw c.in-Ready-End.field-0-is at c.in-Ready-End.ensures.narrows in
    let room : length self.runs.items < self.limit = omega (arith, self.runs.ok.0) in
    record {
      asked = rw (c.requires.going, c.requires.unfinished) (merge_outer_fails _ _ _ _ _ _ g.met.F.Running.Run.begins room came c.in_default.not-Finished);
      going = search rules;
      limit = search rules;
      standing = search rules;
      waits = tt;
      armed = tt;
      kept = search rules;
    }

-- A wrong body makes this false: so answered, it is refused at once.
pub returns-in-Finished-clause-asked : goal.returns-in-Finished-clause-asked
returns-in-Finished-clause-asked g c = search rules
