use Rattle.std.proofs.Common.{◌≡◌, Some, None, rules, ◌∙◌, refl, inl, inr}
use Rattle.futures.specs.declared.task.Poll.TheVariants.{Ready}
use Rattle.cold_flow.specs.declared.event.Event.TheVariants.{End}
use Rattle.cold_flow.specs.LoopLaws.{going_no_end, going_rests, asked_more, asked_all}
use Rattle.more_merges.specs.StandingLaws.{let_go_later}
use Rattle.more_merges.proofs.flows.flat_map_latest.SwitchedRunRun.poll_next.Goals as goal

pub returns-clause-stays : goal.returns-clause-stays
returns-clause-stays g c k e = absurd (going_no_end _ k c.loop-asked.invariant.begun e)

pub returns-in-Some-End-clause-narrows : goal.returns-in-Some-End-clause-narrows
returns-in-Some-End-clause-narrows g c =
    let over : c.ask.result ≡ Ready (Some (End c.in-Some-End.cause)) = search rules in
    c.loop-asked.invariant.within _ (rw over at c.ask.ensures.asked)

pub loop-asked-preserved : goal.loop-asked-preserved
loop-asked-preserved g c =
    let more : c.ask.result ≡ Ready None = search rules in
    let asked = rw more at c.ask.ensures.asked in
    let fate = rw more at c.ask.ensures.fate in
    let fewer = rw more at c.ask.ensures.fewer in
    record {
      begun = c.loop-asked.invariant.begun;
      going = c.ask.ensures.same.0 ∙ c.loop-asked.invariant.going;
      within = λ t h. c.loop-asked.invariant.within t (asked t h);
      stood = inr (let_go_later _ _ _ _ c.loop-asked.invariant.stood fate);
      nearer = asked_more _ _ _ _ c.loop-asked.invariant.nearer fewer;
      kept = search rules;
    }

pub returns-clause-narrows : goal.returns-clause-narrows
returns-clause-narrows g c =
    rw c.yield_now.ensures.pending c.loop-asked.invariant.within

pub returns-clause-polled : goal.returns-clause-polled
returns-clause-polled g c =
    rw c.yield_now.ensures.pending (
      inr (asked_all _ _ _ c.loop-asked.invariant.nearer c.loop-asked-test.false),
      λ going none. record { mid = c.loop-asked.self.inner; stood = c.loop-asked.invariant.stood; asked = inl refl },
      going_rests _ _ _ c.loop-asked.invariant.begun,
      going_rests _ _ _ c.loop-asked.invariant.begun,
    )
