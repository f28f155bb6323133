use Rattle.std.proofs.Common.{◌≡◌, ◌-◌, List, ◌++◌, length, vec_capacity}
use Rattle.shared_core.proofs.rest.Rest.give_into.Given as goal

abbrev pub invariant-loop-self : goal.invariant-loop-self
invariant-loop-self g l = (vec_capacity l.out ≡ vec_capacity l.initial.out)
    × ((values : List _) × (l.out.items ≡ l.initial.out.items ++ values) × (l.count ≡ length values) × (l.initial.self.left ≡ values ++ l.self.left) × (l.self.given ≡ l.initial.self.given ++ values))

abbrev pub decreases-loop-self : goal.decreases-loop-self
decreases-loop-self g l = vec_capacity l.out - length l.out.items
