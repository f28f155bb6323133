use Rattle.std.proofs.Common.{rules, refl, ◌≡◌, ◌<◌, ◌∷◌, ◌++◌, [], length, arith}
use Rattle.sharing_upstream.proofs.Courses.{goes_on_none, goes_on_value}
use Rattle.sharing_upstream.proofs.Sharings.{takes_all, takes_end, takes_pending, takes_refused, takes_waiting, over_unarmed, one_more, accepts_more}
use Rattle.sharing_upstream.proofs.upstream.Upstream.take_events.Goals as goal

pub loop-event-init : goal.loop-event-init
loop-event-init g c = record {
  free = c.requires.free;
  goes = ([], omega arith, goes_on_none (λ live. g.F.Running.Run.may live.run) (λ live. g.F.Running.Run.ended live.run) c.args.self.now.course, refl);
  flow = refl;
  kept = refl;
  wakes = search rules;
}

pub returns-in-Ready-None-clause-takes : goal.returns-in-Ready-None-clause-takes
returns-in-Ready-None-clause-takes g c =
    let so_far = c.loop-event.invariant.goes in
    let count : length so_far.0 ≡ c.loop-event._event = so_far.1 in
    let few : length so_far.0 < 32 = omega arith in
    let asked = rw c.in-Ready-None.field-0-is at c.in-Ready-None.ensures.asked in
    takes_end _ _ _ _ _ _ so_far.0 _ _ _ few so_far.2 so_far.3 asked

pub returns-in-Ready-None-clause-armed : goal.returns-in-Ready-None-clause-armed
returns-in-Ready-None-clause-armed g c =
    let asked = rw c.in-Ready-None.field-0-is at c.in-Ready-None.ensures.asked in
    over_unarmed (λ live. g.F.Running.Run.may live.run) (λ live. g.F.Running.Run.ended live.run) _ _ _ asked

pub returns-in-Pending-clause-takes : goal.returns-in-Pending-clause-takes
returns-in-Pending-clause-takes g c =
    let so_far = c.loop-event.invariant.goes in
    let count : length so_far.0 ≡ c.loop-event._event = so_far.1 in
    let few : length so_far.0 < 32 = omega arith in
    takes_pending _ _ _ _ _ _ so_far.0 _ _ _ few so_far.2 so_far.3 c.in-Pending.ensures.asked c.in-Pending.ensures.polled

pub returns-in-Waiting-clause-takes : goal.returns-in-Waiting-clause-takes
returns-in-Waiting-clause-takes g c =
    let so_far = c.loop-event.invariant.goes in
    let count : length so_far.0 ≡ c.loop-event._event = so_far.1 in
    let few : length so_far.0 < 32 = omega arith in
    let asked = rw c.in-Ready-Some.field-0-is at c.in-Ready-Some.ensures.asked in
    let delays = rw c.loop-event.invariant.kept at c.in-Waiting.ensures.offered in
    takes_waiting _ _ _ _ _ _ so_far.0 _ _ _ _ _ few so_far.2 so_far.3 asked delays

pub returns-in-Refused-clause-takes : goal.returns-in-Refused-clause-takes
returns-in-Refused-clause-takes g c =
    let so_far = c.loop-event.invariant.goes in
    let count : length so_far.0 ≡ c.loop-event._event = so_far.1 in
    let few : length so_far.0 < 32 = omega arith in
    let asked = rw c.in-Ready-Some.field-0-is at c.in-Ready-Some.ensures.asked in
    let refuses = rw c.loop-event.invariant.kept at c.in-Refused.ensures.offered in
    takes_refused _ _ _ _ (λ live. g.met.F.Running.Run.begins live.run) _ _ so_far.0 _ _ _ _ _ _ _ few so_far.2 so_far.3 asked refuses c.break_off.ensures.course

pub loop-event-preserved : goal.loop-event-preserved
loop-event-preserved g c =
    let so_far = c.loop-event.invariant.goes in
    let asked = rw c.in-Ready-Some.field-0-is at c.in-Ready-Some.ensures.asked in
    let accepts = rw c.loop-event.invariant.kept at c.in-Accepted.ensures.offered in
    let steps = g.D.Destination.steps (g.D.Destination.kept c.args.destination.now) in
    record {
      free = c.in-Accepted.ensures.free refl;
      goes = (so_far.0 ++ c.in-Ready-Some.value ∷ [], one_more so_far.0 _ _ so_far.1, goes_on_value _ _ _ so_far.0 _ _ _ so_far.2 asked, accepts_more steps _ so_far.0 _ _ _ so_far.3 accepts);
      flow = cc;
      kept = cc;
      wakes = search rules;
    }

pub returns-clause-takes : goal.returns-clause-takes
returns-clause-takes g c =
    let so_far = c.loop-event.invariant.goes in
    let count : length so_far.0 ≡ c.loop-event._event = so_far.1 in
    let all : length so_far.0 ≡ 32 = omega arith in
    takes_all _ _ _ _ _ _ so_far.0 _ _ all so_far.2 so_far.3
