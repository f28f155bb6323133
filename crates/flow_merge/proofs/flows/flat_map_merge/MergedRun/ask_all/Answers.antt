use Rattle.std.proofs.Common.{rules, ◌≡◌, true, length, vec_len, refl, arith}
use Rattle.flow_merge.specs.declared.flows.inner_answer.InnerAnswer.TheVariants.{Gave}
use Rattle.flow_merge.specs.MergeLaws.{merge_finishes, asks-within}
use Rattle.flow_merge.proofs.flows.flat_map_merge.MergedRun.ask_all.Goals as goal

pub questions-preserved-in-Ready-None : goal.questions-preserved-in-Ready-None
questions-preserved-in-Ready-None g c =
    let asked = rw c.in-Ready-None.field-0-is at c.in-Ready-None.ensures.asked in
    record {
      going = c.in-Ready-None.ensures.going;
      within = λ t h. c.questions.invariant.within t (asked t h);
      asked = omega (arith, c.in-Ready-None.ensures.standing.0, c.questions.invariant.asked);
      heard = λ h. c.in-Ready-None.ensures.kept _ (c.questions.invariant.heard h);
      outer_heard = λ h. c.in-Ready-None.ensures.kept _ (c.questions.invariant.outer_heard h);
      kept = search rules;
    }

pub returns-in-Ready-Some-clause-narrows : goal.returns-in-Ready-Some-clause-narrows
returns-in-Ready-Some-clause-narrows g c =
    let asked = rw c.in-Ready-Some.field-0-is at c.in-Ready-Some.ensures.asked in
    c.questions.invariant.within _ asked

pub questions-preserved-in-Pending : goal.questions-preserved-in-Pending
questions-preserved-in-Pending g c =
    record {
      going = c.in-Pending.ensures.going;
      within = λ t h. c.questions.invariant.within t (c.in-Pending.ensures.asked t h);
      asked = omega (arith, c.in-Pending.ensures.standing.0, c.questions.invariant.asked);
      heard = λ h. c.in-Pending.ensures.armed;
      outer_heard = λ h. c.in-Pending.ensures.armed;
      kept = search rules;
    }

pub questions-preserved-in-Left : goal.questions-preserved-in-Left
questions-preserved-in-Left g c =
    record {
      going = c.in-Left.ensures.going;
      within = λ t h. c.questions.invariant.within t (c.in-Left.ensures.asked t h);
      asked = omega (arith, c.in-Left.ensures.standing, c.len.ensures, c.if-asked-len.true);
      heard = λ h. c.in-Left.ensures.kept _ (c.questions.invariant.heard h);
      outer_heard = λ h. c.in-Left.ensures.kept _ (c.questions.invariant.outer_heard h);
      kept = search rules;
    }

pub questions-preserved-in-Followed : goal.questions-preserved-in-Followed
questions-preserved-in-Followed g c =
    record {
      going = c.in-Followed.ensures.going;
      within = λ t h. c.questions.invariant.within t (c.in-Followed.ensures.asked t h);
      asked = omega (arith, c.in-Followed.ensures.standing, c.len.ensures, c.if-asked-len.true);
      heard = λ h. c.in-Followed.ensures.kept _ (c.questions.invariant.heard h);
      outer_heard = λ h. c.in-Followed.ensures.kept _ (c.questions.invariant.outer_heard h);
      kept = search rules;
    }

pub questions-preserved-in-OuterWaits : goal.questions-preserved-in-OuterWaits
questions-preserved-in-OuterWaits g c =
    record {
      going = c.in-OuterWaits.ensures.going;
      within = λ t h. c.questions.invariant.within t (c.in-OuterWaits.ensures.asked t h);
      asked = omega (arith, c.in-OuterWaits.ensures.standing, c.len.ensures, c.if-asked-len.true);
      heard = λ h. c.in-OuterWaits.ensures.armed;
      outer_heard = λ h. c.in-OuterWaits.ensures.armed;
      kept = search rules;
    }

pub questions-preserved : goal.questions-preserved
questions-preserved g c =
    record {
      going = c.in-Waits.ensures.going;
      within = λ t h. c.questions.invariant.within t (c.in-Waits.ensures.asked t h);
      asked = omega (arith, c.in-Waits.ensures.standing, c.len.ensures, c.if-asked-len.true);
      heard = λ h. c.in-Waits.ensures.armed;
      outer_heard = λ h. c.in-Waits.ensures.armed;
      kept = search rules;
    }

pub returns-in-Gave-clause-narrows : goal.returns-in-Gave-clause-narrows
returns-in-Gave-clause-narrows g c = asks-within _ _ _ (Gave c.in-Gave.event) c.in-Gave.ensures.asked c.questions.invariant.within

pub returns-else-outer_waits-clause-narrows : goal.returns-else-outer_waits-clause-narrows
returns-else-outer_waits-clause-narrows g c =
    let self = c.questions.self in
    let none : vec_len self.runs ≡ 0 = omega (arith, c.if-asked-len.false, c.len.ensures, c.if-asked-gt0.false) in
    let empty : length self.runs.items ≡ 0 = omega (arith, self.runs.ok.0) in
    let finished : self.outer_finished ≡ true = c.if-wants_outer.ensures.otherwise refl none c.if-outer_waits.false in
    c.questions.invariant.within _ (rw c.questions.invariant.going (merge_finishes _ _ _ _ self.outer_finished (g.O.Run.may self.outer) empty finished))
