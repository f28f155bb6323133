use Rattle.std.proofs.Common.{length, eqb, ap, sym, refl, ◌∙◌}
use Rattle.std.proofs.lemmas.List.{take_all}
use Rattle.std.proofs.lemmas.Option.{slice_get_read}
use Rattle.std.specs.List.{list_any}
use Rattle.shared_core.specs.declared.greetings.Greeting.{Greeting}
use Rattle.shared_core.proofs.greetings.greeting_of.Goals as goal

pub returns-then-greeting-number-clause-found : goal.returns-then-greeting-number-clause-found
returns-then-greeting-number-clause-found g c =
    let greetings = c.args.greetings.now in
    let greeting = c.index-greetings-i.result in (
      greeting,
      slice_get_read greetings (length greetings) c.loop-i.i greeting refl c.loop-i-test.true c.index-greetings-i.is,
      c.if-greeting-number.true,
      c.loop-i.invariant,
    )

pub returns-clause-none : goal.returns-clause-none
returns-clause-none g c =
    ap (list_any (λ (x : Greeting _). eqb x.number c.args.number)) (sym (take_all c.loop-i.i c.args.greetings.now c.loop-i-test.false)) ∙ c.loop-i.invariant
