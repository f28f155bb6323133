use Rattle.std.proofs.Common.{[], Some, refl}
use Rattle.futures.specs.declared.task.Poll.TheVariants.{Ready}
use Rattle.cold_flow.specs.declared.cause.Cause.TheVariants.{Finished}
use Rattle.cold_flow.specs.Trace.{ended_by}
use Rattle.flow_merge.specs.Concat.{MayStand}
use Rattle.flow_merge.specs.Combine.{OrFinished}
use Rattle.flow_merge.specs.MergeLaws.{outer_begins}
use Rattle.more_merges.specs.Latest.{MaySwitch}
use Rattle.more_merges.specs.LatestLaws.{latest_asks, latest_finishes}
use Rattle.more_merges.specs.StandingLaws.{asks-going}
use Rattle.more_merges.proofs.flows.flat_map_latest.SwitchedRun.ask_last.Goals as goal

pub returns-in-Ready-Some-clause-asked : goal.returns-in-Ready-Some-clause-asked
returns-in-Ready-Some-clause-asked g c =
    let was = c.args.self.now in
    let asked = rw c.in-Ready-Some.field-0-is at c.in-Ready-Some.ensures.asked in
    let fails = rw c.in-Ready-Some.field-0-is at c.in-Ready-Some.ensures.fails in
    let old = MayStand g.F.Running.Run.may was.inner in
    let new = MayStand g.F.Running.Run.may c.ask_standing.new.standing in
    let outer = OrFinished was.outer_finished (g.O.Run.may was.outer) in
    let answer = Ready (Some c.in-Ready-Some.event) in
    asks-going was.ended (MaySwitch (λ x. g.F.Flow.starts (g.G.Apply.gives was.function x)) (λ x. g.F.Flow.may (g.G.Apply.gives was.function x)) old outer) (MaySwitch (λ x. g.F.Flow.starts (g.G.Apply.gives was.function x)) (λ x. g.F.Flow.may (g.G.Apply.gives was.function x)) new outer) answer c.requires.going
    (latest_asks (λ x. g.F.Flow.starts (g.G.Apply.gives was.function x)) (λ x. g.F.Flow.may (g.G.Apply.gives was.function x)) old new outer (outer_begins was.outer_finished (g.O.Run.may was.outer) (g.met.O.Run.begins was.outer)) answer fails asked)

pub returns-in-Ready-None-clause-asked : goal.returns-in-Ready-None-clause-asked
returns-in-Ready-None-clause-asked g c =
    let asked = rw c.in-Ready-None.field-0-is at c.in-Ready-None.ensures.asked in
    let none = rw c.in-Ready-None.field-0-is at c.in-Ready-None.ensures.nothing in
    let came : MayStand g.F.Running.Run.may c.ask_standing.new.standing (ended_by [] Finished) = rw none refl in
    rw (c.requires.going, c.requires.finished) (latest_finishes _ _ _ _ (asked (ended_by [] Finished) came) refl)
