use Rattle.std.proofs.Common.{◌∷◌, [], ◌++◌, ◌∙◌, ap, arith}
use Rattle.std.proofs.lemmas.List.{map-append}
use Rattle.std.proofs.lemmas.List.Elements.{All-push, All-same}
use Rattle.shared_core.specs.declared.greetings.Greeting.{Greeting}
use Rattle.shared_core.specs.Greetings.{shown_greeting, IsLeft}
use Rattle.shared_core.specs.Preludes.{prelude_values, begun_with, RestSeen}
use Rattle.shared_core.specs.Queues.{Queued}
use Rattle.shared_core.proofs.Handed.{shown, some_left, begun_some}
use Rattle.shared_core.proofs.greetings.Greetings.begin.Goals as goal

pub invariant_of-self : goal.invariant_of-self
invariant_of-self g c =
    let items = c.self.inside.items.items in
    let greeting : Greeting _ = record { number = c.args.number; rest = c.of-rest.result } in (
      All-same IsLeft c.push_reserved.new.self.items (items ++ greeting ∷ []) c.push_reserved.ensures.items
          (All-push IsLeft items greeting c.self.invariant.0 (some_left c.of-rest.result.left c.is_empty.result c.is_empty.ensures.1 c.if-is_empty.false)),
      omega (arith, c.self.invariant.1, c.push_reserved.ensures.capacity),
    )

pub returns-clause-begun : goal.returns-clause-begun
returns-clause-begun g c =
    let number = c.args.number in
    let rest = c.of-rest.result in
    let items = c.self.inside.items.items in
    let greeting : Greeting _ = record { number = number; rest = rest } in
    λ room. ap shown c.push_reserved.ensures.items
    ∙ map-append shown_greeting items (greeting ∷ [])
    ∙ begun_some number rest.left (shown items) (some_left rest.left c.is_empty.result c.is_empty.ensures.1 c.if-is_empty.false)
    ∙ ap (λ (seen : RestSeen _). begun_with number seen.left (shown items)) c.of-rest.ensures
    ∙ ap (λ (q : Queued _). begun_with number (prelude_values c.args.prelude) q.values) c.self.view_is
