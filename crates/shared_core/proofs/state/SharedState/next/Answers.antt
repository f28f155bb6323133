use Rattle.std.proofs.Common.{slice_get, ap, sym, subst, ◌∙◌}
use Rattle.shared_core.specs.Calls.{next_value}
use Rattle.shared_core.specs.Preludes.{Greets, left_at, IsWithout}
use Rattle.shared_core.specs.Shown.{Seen, Follows}
use Rattle.shared_core.proofs.Bodies.{next_follows-greeting}
use Rattle.shared_core.proofs.state.SharedState.next.Goals as goal

-- a value of the prelude
pub returns-in-Some : goal.returns-in-Some
returns-in-Some g c =
    let now = c.args.self.now in
    let n = c.args.id.0 in
    let left = c.greet.new.self.values in
    let greeted = subst (λ answer. Greets n c.self.inside.greetings.values answer left) c.in-Some.is c.greet.ensures.greeted in
    next_follows-greeting now greeted.0 n c.in-Some.value greeted.1 _
    (ap (λ (seen : Seen _). slice_get seen.rests greeted.0) (sym c.self.view_is) ∙ greeted.2)
    (ap (λ (seen : Seen _). record seen { rests = left }) c.self.view_is
    ∙ ap (λ rests. record now { rests = rests }) greeted.3
    ∙ ap (λ (seen : Seen _). record now { rests = left_at greeted.0 n greeted.1 seen.rests }) c.self.view_is)

pub returns : goal.returns
returns g c =
    let now = c.args.self.now in
    let n = c.args.id.0 in
    let left = c.greet.new.self.values in
    let none = c.in_default.ensures.greeted in
    subst (λ (seen : Seen _). Follows (next_value n) seen c.next_accepted.result c.next_accepted.new.self)
    (ap (λ (seen : Seen _). record seen { rests = left }) c.self.view_is
    ∙ ap (λ rests. record now { rests = rests }) (none.1 ∙ ap (λ (seen : Seen _). seen.rests) c.self.view_is))
    (c.next_accepted.ensures (subst (IsWithout n) (sym none.1) none.0))
