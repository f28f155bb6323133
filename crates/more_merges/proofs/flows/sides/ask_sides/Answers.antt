use Rattle.std.proofs.Common.{rules, ◌≡◌, ◌∙◌, None, length, sym, subst, arith}
use Rattle.more_merges.specs.JoinsLaws.{asked_none, asked_one, asked_all, fewer_fewer, fewer_then, fewer_within, within_within, join_finishes}
use Rattle.more_merges.specs.Standing.{HasStandingWaited}
use Rattle.more_merges.proofs.flows.sides.ask_sides.Goals as goal
use Rattle.more_merges.proofs.flows.sides.ask_sides.Goals.{in-Ready-None, in-Pending}

pub places-init : goal.places-init
places-init g c = record {
  many = sym c.len-count.ensures;
  within = λ t h. h;
  lasts = λ h. (h, omega arith);
  fewer = λ h. absurd (cc);
  prompt = λ h. (h, search rules);
  waited = asked_none _ _ _ _;
  finished = λ quiet. asked_none _ _ _ _;
  armed = λ h. absurd (cc);
  kept = λ fact h. h;
}

pub places-preserved : goal.places-preserved
places-preserved g c =
    let many : length c.places.sides.items ≡ c.len-count.result = omega (arith, c.places.sides.ok.0, c.places.invariant.many) in
    elim c.match-ask_at.branch [
      | in-Ready-None w ↦
          let asked = rw w.in-Ready-None.field-0-is at w.in-Ready-None.ensures.asked in
          let approaches = rw w.in-Ready-None.field-0-is at w.in-Ready-None.ensures.approaches in
          let stands = rw w.in-Ready-None.field-0-is at w.in-Ready-None.ensures.stands in
          record {
            many = w.in-Ready-None.ensures.len ∙ c.places.invariant.many;
            within = λ t h. c.places.invariant.within t (asked t h);
            lasts = within_within _ _ _ c.places.invariant.lasts approaches;
            fewer = λ h. fewer_then _ _ _ (c.places.invariant.fewer (sym w.waits-is ∙ h)) approaches;
            prompt = λ h. let was = c.places.invariant.prompt h in ((w.in-Ready-None.ensures.prompt was.0).1, w.waits-is ∙ was.1);
            waited = rw stands.1
                (asked_one (HasStandingWaited g.R.Run.polled) _ _ _ _ _ stands.0 many c.place_after-place.ensures.within
                c.place_after-place.ensures.place (subst (HasStandingWaited g.R.Run.polled) (sym stands.3) tt) c.places.invariant.waited);
            finished = λ quiet. rw stands.1
                (asked_one (λ side. side ≡ None) _ _ _ _ _ stands.0 many c.place_after-place.ensures.within c.place_after-place.ensures.place
                stands.3 (c.places.invariant.finished (sym w.waits-is ∙ quiet)));
            armed = λ h. w.in-Ready-None.ensures.kept _ (c.places.invariant.armed (sym w.waits-is ∙ h));
            kept = search rules;
          }
      | in-Pending w ↦
          let approaches = w.in-Pending.ensures.approaches in
          let stands = w.in-Pending.ensures.stands in
          record {
            many = w.in-Pending.ensures.len ∙ c.places.invariant.many;
            within = λ t h. c.places.invariant.within t (w.in-Pending.ensures.asked t h);
            lasts = within_within _ _ _ c.places.invariant.lasts (fewer_within _ _ approaches);
            fewer = λ h. fewer_fewer _ _ _ c.places.invariant.lasts approaches;
            prompt = λ h. let was = c.places.invariant.prompt h in absurd (w.in-Pending.ensures.prompt was.0).0;
            waited = rw stands.1
                (asked_one (HasStandingWaited g.R.Run.polled) _ _ _ _ _ stands.0 many c.place_after-place.ensures.within
                c.place_after-place.ensures.place stands.2 c.places.invariant.waited);
            finished = λ quiet. let wrong = sym w.waits-is ∙ quiet in absurd (cc);
            armed = λ h. w.in-Pending.ensures.armed;
            kept = search rules;
          }
    ]

pub returns-in-Ready-Some-Value-clause-narrows : goal.returns-in-Ready-Some-Value-clause-narrows
returns-in-Ready-Some-Value-clause-narrows g c =
    let asked = rw (c.in-Ready-Some-Value.field-0-is, c.in-Ready-Some-Value.field-0-0-is) at c.in-Ready-Some-Value.ensures.asked in
    λ t h. c.places.invariant.within _ (asked t h)

pub returns-in-Ready-Some-Value-clause-approaches : goal.returns-in-Ready-Some-Value-clause-approaches
returns-in-Ready-Some-Value-clause-approaches g c =
    let approaches = rw (c.in-Ready-Some-Value.field-0-is, c.in-Ready-Some-Value.field-0-0-is) at c.in-Ready-Some-Value.ensures.approaches in
    fewer_fewer _ _ _ c.places.invariant.lasts approaches

pub returns-in-Ready-Some-Value-clause-prompt : goal.returns-in-Ready-Some-Value-clause-prompt
returns-in-Ready-Some-Value-clause-prompt g c = λ h. (tt, (c.in-Ready-Some-Value.ensures.prompt (c.places.invariant.prompt h).0).1)

pub returns-in-Ready-Some-End-clause-narrows : goal.returns-in-Ready-Some-End-clause-narrows
returns-in-Ready-Some-End-clause-narrows g c =
    let asked = rw (c.in-Ready-Some-End.field-0-is, c.in-Ready-Some-End.field-0-0-is) at c.in-Ready-Some-End.ensures.asked in
    c.places.invariant.within _ asked

pub returns-in-Ready-Some-End-clause-prompt : goal.returns-in-Ready-Some-End-clause-prompt
returns-in-Ready-Some-End-clause-prompt g c = λ h. (tt, (c.in-Ready-Some-End.ensures.prompt (c.places.invariant.prompt h).0).1)

pub returns-then-waits-clause-narrows : goal.returns-then-waits-clause-narrows
returns-then-waits-clause-narrows g c = c.places.invariant.within

pub returns-then-waits-clause-approaches : goal.returns-then-waits-clause-approaches
returns-then-waits-clause-approaches g c = c.places.invariant.fewer c.if-waits.true

pub returns-then-waits-clause-prompt : goal.returns-then-waits-clause-prompt
returns-then-waits-clause-prompt g c = λ h. let quiet = (c.places.invariant.prompt h).1 in let waits = c.if-waits.true in absurd (cc)

pub returns-then-waits-clause-waits : goal.returns-then-waits-clause-waits
returns-then-waits-clause-waits g c =
    let many : length c.places.sides.items ≡ c.len-count.result = omega (arith, c.places.sides.ok.0, c.places.invariant.many) in
    asked_all (HasStandingWaited g.R.Run.polled) c.len-count.result c.args.first c.places.asked c.places.sides.items many (omega arith) c.places-test.false c.places.invariant.waited

pub returns-clause-narrows : goal.returns-clause-narrows
returns-clause-narrows g c =
    let many : length c.places.sides.items ≡ c.len-count.result = omega (arith, c.places.sides.ok.0, c.places.invariant.many) in
    c.places.invariant.within _
    (join_finishes g.R.Run.may g.met.R.Run.begins c.places.sides.items
    (asked_all (λ side. side ≡ None) c.len-count.result c.args.first c.places.asked c.places.sides.items many (omega arith) c.places-test.false (c.places.invariant.finished c.if-waits.false)))

pub returns-clause-prompt : goal.returns-clause-prompt
returns-clause-prompt g c = λ h. (tt, (c.places.invariant.prompt h).0)
