use Rattle.std.proofs.Common.{rules}
use Rattle.flow_merge.specs.Combine.{OrFinished}
use Rattle.flow_merge.specs.MergeLaws.{merge_gives, merge_leaves, merge_fails, outer_begins, unless-within, asks-within}
use Rattle.flow_merge.proofs.flows.flat_map_merge.MergedRun.ask_next.Goals as goal

pub returns-in-Ready-Value-clause-asked : goal.returns-in-Ready-Value-clause-asked
returns-in-Ready-Value-clause-asked g c =
    let answered = rw c.in-Ready-Value.field-0-is at c.in-Ready-Value.ensures.answered in
    rw c.requires.going (merge_gives _ _ _ _ _ _ _ _ answered)

pub returns-then-follows-clause-asked : goal.returns-then-follows-clause-asked
returns-then-follows-clause-asked g c =
    let answered = rw c.in-Ready-End.field-0-is at c.in-Ready-End.ensures.answered in
    let finished = rw c.in-Finished.is at answered in
    asks-within _ _ _ _ c.ask_follower.ensures.asked (unless-within _ _ _ c.requires.going (merge_leaves _ _ _ _ _ _ _ finished))

pub returns-in-Finished-clause-asked : goal.returns-in-Finished-clause-asked
returns-in-Finished-clause-asked g c =
    let answered = rw c.in-Ready-End.field-0-is at c.in-Ready-End.ensures.answered in
    let finished = rw c.in-Finished.is at answered in
    rw (c.requires.going, c.leave-self.ensures.left) (merge_leaves _ _ _ _ _ _ _ finished)

pub returns-in_default : goal.returns-in_default
returns-in_default g c =
    let self = c.args.self.now in
    let answered = rw c.in-Ready-End.field-0-is at c.in-Ready-End.ensures.answered in
    record {
      asked =
          rw c.requires.going (merge_fails _ _ _ _ _ (OrFinished self.outer_finished (g.O.Run.may self.outer)) _ _ g.met.F.Running.Run.begins
          (outer_begins self.outer_finished (g.O.Run.may self.outer) (g.met.O.Run.begins _)) answered c.in_default.not-Finished);
      going = search rules;
      limit = search rules;
      standing = tt;
      armed = tt;
      kept = search rules;
    }
