use Rattle.std.proofs.Common.{◌∙◌, sym, ap, length, arith}
use Rattle.std.proofs.lemmas.Bool.{eqb-true, eq-eqb}
use Rattle.std.proofs.lemmas.List.{drop_all, length-drop}
use Rattle.shared_core.specs.Preludes.{prelude_values, RestSeen}
use Rattle.shared_core.proofs.rest.Rest.is_empty.Goals as goal

pub returns : goal.returns
returns g c =
    let inside = c.self.inside in
    let all = prelude_values inside.prelude in
    let counted = c.self.invariant in (
      λ e. let end = eqb-true inside.given inside.count e in let few = counted.0 in ap (λ (r : RestSeen _). r.left) (sym c.self.view_is) ∙ drop_all inside.given all (omega arith),
      λ empty. let none = ap length (ap (λ (r : RestSeen _). r.left) c.self.view_is ∙ empty) in let left = length-drop inside.given all in let few = counted.0 in let given = counted.1 in eq-eqb inside.given inside.count (omega arith),
    )
