use Rattle.flow_sharing.proofs.Shared.{waits_last}
use Rattle.flow_sharing.proofs.flow_destination.Outlet.offer.Goals as goal

pub invariant_of-self-in-Ok-Waiting-clause-waits_last : goal.invariant_of-self-in-Ok-Waiting-clause-waits_last
invariant_of-self-in-Ok-Waiting-clause-waits_last g c = λ x is. waits_last g.T.Word.word _ _ c.args.value x (rw c.in-Ok-Waiting.field-0-is at c.in-Ok-Waiting.ensures.has) is
