use Rattle.std.proofs.Common.{◌++◌, ◌∷◌, [], ap, ◌∙◌, refl, arith}
use Rattle.cold_flow.specs.Polled.Gave.{nothing}
use Rattle.hot_sources.specs.WaitingLaws.{took_none, took_one, took_pending}
use Rattle.hot_sources.proofs.waiting.take_ready.Goals as goal

pub values-init : goal.values-init
values-init g c = (took_none _ _ _ _, refl)

pub values-preserved : goal.values-preserved
values-preserved g c =
    let polled = rw c.in-Ready-Value.field-0-is at c.in-Ready-Value.ensures.polled in
    let narrows = rw c.in-Ready-Value.field-0-is at c.in-Ready-Value.ensures.narrows in (
      took_one g.S.Run.polled g.S.Run.may _ _ _ _ _ _ _ c.in-Ready-Value.value c.values.invariant.0 (c.values.chain, nothing, polled) narrows
          (c.push_reserved.ensures.items ∙ ap (λ l. l ++ c.in-Ready-Value.value ∷ []) c.reserve.ensures.items),
      c.values.invariant.1,
    )

pub returns-in-Pending-clause-took : goal.returns-in-Pending-clause-took
returns-in-Pending-clause-took g c = (
  c.values.taken,
  rw c.reserve.ensures.items (took_pending g.S.Run.polled g.S.Run.may _ _ _ _ _ _ c.values.invariant.0 c.in-Pending.ensures.polled c.in-Pending.ensures.narrows),
  omega (arith, c.values.invariant.1),
)
