use Rattle.std.proofs.Common.{rules, true, [], Some, sym, subst}
use Rattle.futures.specs.declared.task.Poll.TheVariants.{Ready}
use Rattle.cold_flow.specs.declared.cause.Cause.TheVariants.{Finished}
use Rattle.cold_flow.specs.Poll.{Within, Unless}
use Rattle.cold_flow.specs.Trace.{ended_by}
use Rattle.flow_merge.specs.Combine.{OrFinished}
use Rattle.flow_merge.specs.Concat.{MayStand}
use Rattle.flow_merge.specs.MergeLaws.{outer_begins}
use Rattle.more_merges.specs.Latest.{MaySwitch}
use Rattle.more_merges.specs.LatestLaws.{latest_asks, latest_outer_waits, latest_outer_ends, latest_starts, latest_refused}
use Rattle.more_merges.specs.StandingLaws.{standing_begins, asks-within, asks-going}
use Rattle.more_merges.proofs.flows.flat_map_latest.SwitchedRun.ask.Goals as goal

pub returns-in-Ok-clause-asked : goal.returns-in-Ok-clause-asked
returns-in-Ok-clause-asked g c =
    let after = rw c.in-Ready-Value.field-0-is at c.in-Ready-Value.ensures.narrows in
    let gives = rw c.apply-flow.ensures at c.in-Ok.ensures.gives in
    rw (c.requires, c.if-self.false)
    (latest_starts _ _ _ _ _ _ c.in-Ready-Value.value (standing_begins g.F.Running.Run.may g.met.F.Running.Run.begins c.args.self.now.inner) after gives)

pub returns-in-Ready-Value-clause-asked : goal.returns-in-Ready-Value-clause-asked
returns-in-Ready-Value-clause-asked g c =
    let after = rw c.in-Ready-Value.field-0-is at c.in-Ready-Value.ensures.narrows in
    let refused = rw c.apply-flow.ensures at c.in-Err.ensures.starts in
    rw (c.requires, c.if-self.false, c.in-Err.ensures.refused)
    (latest_refused _ _ _ _ _ c.in-Ready-Value.value (standing_begins g.F.Running.Run.may g.met.F.Running.Run.begins c.args.self.now.inner) after
    (g.met.O.Run.begins _) refused)

pub returns-in-Finished-clause-asked : goal.returns-in-Finished-clause-asked
returns-in-Finished-clause-asked g c =
    let was = c.args.self.now in
    let old = MayStand g.F.Running.Run.may was.inner in
    let before = OrFinished was.outer_finished (g.O.Run.may was.outer) in
    let outer = OrFinished true (g.O.Run.may c.poll_next.new.self) in
    let came : g.O.Run.may was.outer (ended_by [] Finished) =
    rw (c.in-Ready-End.field-0-is, c.in-Finished.is) at c.in-Ready-End.ensures.narrows in
    let finished : Within before outer = rw c.if-self.false (λ t h. subst (g.O.Run.may was.outer) (sym h) came) in
    asks-within (Unless was.ended (MaySwitch (λ x. g.F.Flow.starts (g.G.Apply.gives was.function x)) (λ x. g.F.Flow.may (g.G.Apply.gives was.function x)) old before)) (Unless was.ended (MaySwitch (λ x. g.F.Flow.starts (g.G.Apply.gives was.function x)) (λ x. g.F.Flow.may (g.G.Apply.gives was.function x)) old outer)) _
    c.ask_last-in-Finished.result
    (rw c.requires (latest_outer_waits (λ x. g.F.Flow.starts (g.G.Apply.gives was.function x)) (λ x. g.F.Flow.may (g.G.Apply.gives was.function x)) old before outer finished)) c.ask_last-in-Finished.ensures.asked

pub returns-in-Ready-End : goal.returns-in-Ready-End
returns-in-Ready-End g c =
    let came = rw c.in-Ready-End.field-0-is at c.in-Ready-End.ensures.narrows in
    record {
      asked =
          rw (c.requires, c.if-self.false)
          (latest_outer_ends _ _ _ _ _ (standing_begins g.F.Running.Run.may g.met.F.Running.Run.begins c.args.self.now.inner) came c.in_default.not-Finished);
      same = search rules;
      fate = tt;
      fewer = tt;
      waits = tt;
      armed = search rules;
      kept = search rules;
    }

pub returns-in-Ready-Some-clause-asked : goal.returns-in-Ready-Some-clause-asked
returns-in-Ready-Some-clause-asked g c =
    let asked = rw c.in-Ready-Some.field-0-is at c.in-Ready-Some.ensures.asked in
    let fails = rw c.in-Ready-Some.field-0-is at c.in-Ready-Some.ensures.fails in
    let was = c.args.self.now in
    let old = MayStand g.F.Running.Run.may was.inner in
    let new = MayStand g.F.Running.Run.may c.ask_standing.new.standing in
    let before = OrFinished was.outer_finished (g.O.Run.may was.outer) in
    let outer = OrFinished was.outer_finished (g.O.Run.may c.poll_next.new.self) in
    let answer = Ready (Some c.in-Ready-Some.event) in
    let waits : Within before outer = rw c.if-self.false c.in-Pending.ensures.narrows in
    asks-going was.ended (MaySwitch (λ x. g.F.Flow.starts (g.G.Apply.gives was.function x)) (λ x. g.F.Flow.may (g.G.Apply.gives was.function x)) old before) (MaySwitch (λ x. g.F.Flow.starts (g.G.Apply.gives was.function x)) (λ x. g.F.Flow.may (g.G.Apply.gives was.function x)) new outer) answer c.requires
    (asks-within (MaySwitch (λ x. g.F.Flow.starts (g.G.Apply.gives was.function x)) (λ x. g.F.Flow.may (g.G.Apply.gives was.function x)) old before) (MaySwitch (λ x. g.F.Flow.starts (g.G.Apply.gives was.function x)) (λ x. g.F.Flow.may (g.G.Apply.gives was.function x)) old outer) (MaySwitch (λ x. g.F.Flow.starts (g.G.Apply.gives was.function x)) (λ x. g.F.Flow.may (g.G.Apply.gives was.function x)) new outer) answer
    (latest_outer_waits (λ x. g.F.Flow.starts (g.G.Apply.gives was.function x)) (λ x. g.F.Flow.may (g.G.Apply.gives was.function x)) old before outer waits)
    (latest_asks (λ x. g.F.Flow.starts (g.G.Apply.gives was.function x)) (λ x. g.F.Flow.may (g.G.Apply.gives was.function x)) old new outer (outer_begins was.outer_finished (g.O.Run.may c.poll_next.new.self) (g.met.O.Run.begins _)) answer fails asked))
