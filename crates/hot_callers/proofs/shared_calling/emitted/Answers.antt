use Rattle.std.proofs.Common.{subst}
use Rattle.std.specs.Prelude.{IfSome}
use Rattle.shared_flow.specs.Parties.{IsOwnReceipt}
use Rattle.hot_callers.proofs.shared_calling.emitted.Goals as goal

pub returns-in-Ok-Waiting-clause-receipt : goal.returns-in-Ok-Waiting-clause-receipt
returns-in-Ok-Waiting-clause-receipt g c =
    subst (λ e. IfSome c.finished.result (IsOwnReceipt e.party e.id)) c.start_emit.ensures.round.2 c.finished.ensures.receipt
