use Rattle.cold_flow.specs.Laws.{ended-begins}
use Rattle.cold_flow.specs.GatherLaws.{gathers_end}
use Rattle.cold_flow.proofs.ends.to_list.to_list.Goals as goal
use Rattle.std.proofs.Common.{rules, ◌≡◌, ◌++◌, ◌∷◌, []}
use Rattle.cold_flow.specs.Polled.Gave.{nothing, one_more, waited}
use Rattle.cold_flow.specs.GatherLaws.{gathers_none, gathers_value, gathers_within}

pub returns-in-Ready-End-clause-exact : goal.returns-in-Ready-End-clause-exact
returns-in-Ready-End-clause-exact g c whole fixed =
    let came = rw c.in-Ready-End.field-0-is at c.in-Ready-End.ensures.narrows in
    ended-begins _ _ whole (fixed _ (c.polls.invariant.within _ (gathers_end _ _ _ came)))

-- A wrong body makes this false: so answered, it is refused at once.
pub returns-in-Ready-End-clause-gave : goal.returns-in-Ready-End-clause-gave
returns-in-Ready-End-clause-gave g c = search rules

pub polls-init : goal.polls-init
polls-init g c = record {
  within = rw c.new-values.ensures.items (gathers_none _);
  gave = rw c.new-values.ensures.items nothing;
  kept = search rules;
}

pub polls-preserved-else-is_err : goal.polls-preserved-else-is_err
polls-preserved-else-is_err g c =
    let after = rw c.in-Ready-Value.field-0-is at c.in-Ready-Value.ensures.narrows in
    let more : c.push.new.self.items ≡ c.polls.values.items ++ c.in-Ready-Value.value ∷ [] = rw (c.push.ensures.items, c.is_err.ensures.negation, c.if-is_err.false) in
    record {
      within = λ t h. c.polls.invariant.within t (gathers_value _ _ _ _ _ after more t h);
      gave = one_more c.in-Ready-Value.value c.polls.invariant.gave (rw c.in-Ready-Value.field-0-is at c.in-Ready-Value.ensures.polled) more;
      kept = search rules;
    }

pub polls-preserved : goal.polls-preserved
polls-preserved g c = record {
  within = λ t h. c.polls.invariant.within t (gathers_within _ _ _ c.in-Pending.ensures.narrows t h);
  gave = waited c.polls.invariant.gave c.in-Pending.ensures.polled;
  kept = search rules;
}
