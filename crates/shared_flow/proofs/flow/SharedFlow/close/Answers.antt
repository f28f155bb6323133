use Rattle.std.proofs.Common.{rules}
use Rattle.shared_flow.proofs.flow.SharedFlow.close.Goals as goal

pub returns-clause-ended : goal.returns-clause-ended
returns-clause-ended g c =
    let did = c.cancel_emit-withdrawn.ensures in (
      c.cancel_emit-withdrawn.new.self,
      did.left,
      did.removed,
      λ none. (did.idle none).1,
      search rules,
    )

pub returns-clause-has : goal.returns-clause-has
returns-clause-has g c =
    let did = c.cancel_emit-withdrawn.ensures in (
      c.cancel_emit-withdrawn.new.self,
      (did.ends.0, λ none. (did.idle none).1, did.left, did.removed),
      did.has,
    )
