use Rattle.std.proofs.Common.{rules, ◌≡◌, ℕ, Option, Some, None, IfSome, subst}
use Rattle.shared_lane.specs.Views.{ReceiptSeen}
use Rattle.shared_rounds.specs.Names.{FlowName}
use Rattle.shared_rounds.specs.Reach.{Party}
use Rattle.shared_rounds.specs.Rounds.{IsReceiptOfOne}
use Rattle.shared_flow.specs.Parties.{IsOwnReceipt}
use Rattle.hot_callers.proofs.shared_calling.passed_on.Goals as goal

-- a receipt of one party's flow is one of another party's at that flow
of_same_flow : (p q : Party) (id : ℕ) (r : Option ReceiptSeen) → p.flow ≡ q.flow → IfSome r (IsOwnReceipt p id) → IfSome r (IsOwnReceipt q id)
of_same_flow p q id None same own = own
of_same_flow p q id (Some r) same own = (own.0, subst (λ known. (name : FlowName) → known ≡ Some name → IsReceiptOfOne name.lane id r) same own.1)

pub returns-clause-receipt : goal.returns-clause-receipt
returns-clause-receipt g c = of_same_flow c.in-Ok.emitter.party c.args.flow.now.party 1 c.join-passed.result.0 (search rules) (search rules)
