use Rattle.std.proofs.Common.{rules, refl}
use Rattle.flow_merge.specs.ConcatLaws.{concat_gives, concat_fails, concat_starts, concat_refused, concat_outer_ends}
use Rattle.flow_merge.specs.Counting.{start_approaches, wait_approaches, inner_approaches}
use Rattle.flow_merge.proofs.flows.flat_map_concat.ConcatenatedRun.ask.Goals as goal

pub returns-in-Ready-Value-clause-asked : goal.returns-in-Ready-Value-clause-asked
returns-in-Ready-Value-clause-asked g c =
    let after = rw c.in-Ready-Value.field-0-is at c.in-Ready-Value.ensures.narrows in
    rw (c.requires, c.in-Some.is) (concat_gives _ _ _ _ _ _ _ after)

pub returns-in-Ready-Value-clause-approaches : goal.returns-in-Ready-Value-clause-approaches
returns-in-Ready-Value-clause-approaches g c =
    let fewer = rw c.in-Ready-Value.field-0-is at c.in-Ready-Value.ensures.approaches in
    rw c.in-Some.is (λ h. inner_approaches _ _ _ fewer h)

pub returns-in-Ready-End : goal.returns-in-Ready-End
returns-in-Ready-End g c =
    let came = rw c.in-Ready-End.field-0-is at c.in-Ready-End.ensures.narrows in
    record {
      asked = rw (c.requires, c.in-Some.is) (concat_fails _ _ _ _ _ _ (g.met.O.Run.begins _) came c.in_default.not-Finished);
      approaches = tt;
      same = search rules;
      waits = tt;
      stops = (rw c.in-Ready-End.field-0-is at c.in-Ready-End.ensures.stops) refl;
      armed = search rules;
      kept = search rules;
    }

pub returns-in-Ok-clause-asked : goal.returns-in-Ok-clause-asked
returns-in-Ok-clause-asked g c =
    let after = rw c.in-Ready-Value-poll_next.field-0-is at c.in-Ready-Value-poll_next.ensures.narrows in
    let gives = rw c.apply.ensures at c.in-Ok.ensures.gives in
    rw (c.requires, c.in-None.is) (concat_starts _ _ _ _ _ _ _ after gives)

pub returns-in-Ready-Value-poll_next-clause-asked : goal.returns-in-Ready-Value-poll_next-clause-asked
returns-in-Ready-Value-poll_next-clause-asked g c =
    let after = rw c.in-Ready-Value-poll_next.field-0-is at c.in-Ready-Value-poll_next.ensures.narrows in
    let refused = rw c.apply.ensures at c.in-Err.ensures.starts in
    rw (c.requires, c.in-None.is, c.in-Err.ensures.refused) (concat_refused _ _ _ _ _ _ after (g.met.O.Run.begins _) refused)

pub returns-in-Ready-End-poll_next-clause-asked : goal.returns-in-Ready-End-poll_next-clause-asked
returns-in-Ready-End-poll_next-clause-asked g c =
    let came = rw c.in-Ready-End-poll_next.field-0-is at c.in-Ready-End-poll_next.ensures.narrows in
    rw (c.requires, c.in-None.is) (concat_outer_ends _ _ _ _ _ came)

pub returns-in-Ok-clause-approaches : goal.returns-in-Ok-clause-approaches
returns-in-Ok-clause-approaches g c =
    let fewer = rw c.in-Ready-Value-poll_next.field-0-is at c.in-Ready-Value-poll_next.ensures.approaches in
    let lasts = rw c.apply.ensures at c.in-Ok.ensures.lasts in
    rw c.in-None.is
    (λ h. start_approaches _ _ _ _ _ fewer (c.args.self.now.bounded c.in-Ready-Value-poll_next.value) lasts h)

pub returns-clause-approaches : goal.returns-clause-approaches
returns-clause-approaches g c =
    rw c.in-None.is (λ h. wait_approaches _ _ _ c.in-Pending-poll_next.ensures.approaches h)
