use Rattle.std.proofs.Common.{◌≡◌, ℕ, List, [], ◌∷◌, ◌++◌, Option, sym, ap, ◌∙◌, append_assoc}
use Rattle.shared_lane.specs.Headline.{Lived, given, gave}
use Rattle.shared_lane.specs.Readers.{TookNext, IsSameReader}
use Rattle.shared_lane.specs.Views.{ReaderSeen}
use Rattle.shared_lane.specs.declared.reader.Taken.{Taken}
use Rattle.shared_lane.proofs.Lives.{took_went, lived_more, given_one}
use Rattle.hot_callers.proofs.lane_calling.drained.Goals as goal

-- one call more, and what it gave is in the list
one_more : (r m t : ReaderSeen) (taken : Taken ℕ) (before after all : List ℕ) → (calls : List (Option ℕ)) × Lived r calls m × (after ≡ before ++ given calls) → TookNext m taken t → IsSameReader m t
    → all ≡ after ++ given (gave taken ∷ []) → (calls : List (Option ℕ)) × Lived r calls t × (all ≡ before ++ given calls)
one_more r m t taken before after all was took same kept = let calls = was.0 in (
  calls ++ gave taken ∷ [],
  lived_more r m t calls (gave taken) was.1 (took_went m t taken took) same,
  kept ∙ (ap (λ l. l ++ given (gave taken ∷ [])) was.2 ∙ (append_assoc before (given calls) (given (gave taken ∷ [])) ∙ ap (λ l. before ++ l) (sym (given_one calls (gave taken))))),
)

pub returns-in-Nothing-clause-lived : goal.returns-in-Nothing-clause-lived
returns-in-Nothing-clause-lived g c = let took = c.try_next-taken.ensures in one_more _ _ _ c.try_next-taken.result _ _ _ c.loop-turn.invariant.1 took.has took.same.1 c.in_ok-keep.ensures

pub loop-turn-preserved : goal.loop-turn-preserved
loop-turn-preserved g c = let took = c.try_next-taken.ensures in (took.same.0, one_more _ _ _ c.try_next-taken.result _ _ _ c.loop-turn.invariant.1 took.has took.same.1 c.in_ok-keep.ensures)
