use Rattle.std.proofs.Common.{◌+◌, [], ◌∷◌, ◌++◌, refl, sym, ap, ◌∙◌}
use Rattle.shared_core.specs.Preludes.{prelude_values, RestSeen}
use Rattle.shared_core.proofs.Handed.{dropped_some, taken_next}
use Rattle.shared_core.proofs.rest.Rest.give.Goals as goal

pub returns-clause-left : goal.returns-clause-left
returns-clause-left g c =
    let inside = c.self.inside in
    ap (λ (r : RestSeen _). r.left) (sym c.self.view_is) ∙ dropped_some inside.given (inside.given + 1) (prelude_values inside.prelude) c.at-value.result c.at-value.ensures refl

pub returns-clause-given : goal.returns-clause-given
returns-clause-given g c =
    let inside = c.self.inside in
    taken_next inside.given (inside.given + 1) (prelude_values inside.prelude) c.at-value.result c.at-value.ensures refl ∙ ap (λ (r : RestSeen _). r.given ++ c.at-value.result ∷ []) c.self.view_is
