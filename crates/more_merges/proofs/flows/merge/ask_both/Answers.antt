use Rattle.std.proofs.Common.{[], Some, refl}
use Rattle.futures.specs.declared.task.Poll.TheVariants.{Ready}
use Rattle.cold_flow.specs.declared.cause.Cause.TheVariants.{Finished}
use Rattle.cold_flow.specs.Trace.{ended_by}
use Rattle.flow_merge.specs.Concat.{MayStand}
use Rattle.more_merges.specs.Interleave.{MayInterleave}
use Rattle.more_merges.specs.InterleaveLaws.{first_asks, second_asks, interleave_finishes}
use Rattle.more_merges.specs.StandingLaws.{standing_begins, asks-narrows}
use Rattle.more_merges.proofs.flows.merge.ask_both.Goals as goal

pub returns-in-Ready-Some-clause-narrows : goal.returns-in-Ready-Some-clause-narrows
returns-in-Ready-Some-clause-narrows g c =
    let asked = rw c.in-Ready-Some.field-0-is at c.in-Ready-Some.ensures.asked in
    let fails = rw c.in-Ready-Some.field-0-is at c.in-Ready-Some.ensures.fails in
    let old = MayStand g.A.Run.may c.args.first.now in
    let new = MayStand g.A.Run.may c.ask_standing.new.standing in
    let other = MayStand g.B.Run.may c.args.second.now in
    asks-narrows (MayInterleave old other) (MayInterleave new other) c.in-Ready-Some.event
    (first_asks old new other (standing_begins g.B.Run.may g.met.B.Run.begins c.args.second.now) (Ready (Some c.in-Ready-Some.event)) fails asked)

pub returns-in-Ready-Some-ask_standing-clause-narrows :
    goal.returns-in-Ready-Some-ask_standing-clause-narrows
returns-in-Ready-Some-ask_standing-clause-narrows g c =
    let first = rw c.in-Ready-None.field-0-is at c.in-Ready-None.ensures.asked in
    let asked = rw c.in-Ready-Some-ask_standing.field-0-is at c.in-Ready-Some-ask_standing.ensures.asked in
    let fails = rw c.in-Ready-Some-ask_standing.field-0-is at c.in-Ready-Some-ask_standing.ensures.fails in
    let before = MayStand g.A.Run.may c.args.first.now in
    let after = MayStand g.A.Run.may c.ask_standing.new.standing in
    let old = MayStand g.B.Run.may c.args.second.now in
    let new = MayStand g.B.Run.may c.ask_standing-in-Ready-None.new.standing in
    asks-narrows (MayInterleave before old) (MayInterleave after new) c.in-Ready-Some-ask_standing.event
    (second_asks before after old new (standing_begins g.A.Run.may g.met.A.Run.begins c.args.first.now) first
    (Ready (Some c.in-Ready-Some-ask_standing.event)) fails asked)

pub returns-in-Ready-None-ask_standing-clause-narrows :
    goal.returns-in-Ready-None-ask_standing-clause-narrows
returns-in-Ready-None-ask_standing-clause-narrows g c =
    let first = rw c.in-Ready-None.field-0-is at c.in-Ready-None.ensures.asked in
    let no_first = rw c.in-Ready-None.field-0-is at c.in-Ready-None.ensures.nothing in
    let second = rw c.in-Ready-None-ask_standing.field-0-is at c.in-Ready-None-ask_standing.ensures.asked in
    let no_second = rw c.in-Ready-None-ask_standing.field-0-is at c.in-Ready-None-ask_standing.ensures.nothing in
    let one : MayStand g.A.Run.may c.ask_standing.new.standing (ended_by [] Finished) = rw no_first refl in
    let other : MayStand g.B.Run.may c.ask_standing-in-Ready-None.new.standing (ended_by [] Finished) = rw no_second refl in
    interleave_finishes _ _ (first (ended_by [] Finished) one) (second (ended_by [] Finished) other)

pub returns-in-Ready-Some-ask_standing-2-clause-narrows :
    goal.returns-in-Ready-Some-ask_standing-2-clause-narrows
returns-in-Ready-Some-ask_standing-2-clause-narrows g c =
    let asked = rw c.in-Ready-Some-ask_standing-2.field-0-is at c.in-Ready-Some-ask_standing-2.ensures.asked in
    let fails = rw c.in-Ready-Some-ask_standing-2.field-0-is at c.in-Ready-Some-ask_standing-2.ensures.fails in
    let before = MayStand g.A.Run.may c.args.first.now in
    let after = MayStand g.A.Run.may c.ask_standing.new.standing in
    let old = MayStand g.B.Run.may c.args.second.now in
    let new = MayStand g.B.Run.may c.ask_standing-in-Pending.new.standing in
    asks-narrows (MayInterleave before old) (MayInterleave after new) c.in-Ready-Some-ask_standing-2.event
    (second_asks before after old new (standing_begins g.A.Run.may g.met.A.Run.begins c.args.first.now) c.in-Pending.ensures.asked
    (Ready (Some c.in-Ready-Some-ask_standing-2.event)) fails asked)
