use Rattle.std.proofs.Common.{◌++◌, ◌∷◌, [], sym, ap, ◌∙◌, refl, inl, inr, append_assoc}
use Rattle.std.proofs.lemmas.List.{append-nil}
use Rattle.cold_flow.specs.Polled.Gave.{nothing, one_more}
use Rattle.cold_flow.specs.PassingLaws.{gave_still}
use Rattle.hot_sources.proofs.ringing.take_all.Goals as goal

pub values-init : goal.values-init
values-init g c = record { took = ([], sym (append-nil _), nothing); kept = λ fact h. h }

pub values-preserved : goal.values-preserved
values-preserved g c =
    let it = c.values.invariant in
    let came = rw c.in-Some-Value.field-0-is at c.in-Some-Value.ensures.came in
    let value = c.in-Some-Value.value in
    record {
      took = (
        it.took.0 ++ value ∷ [],
        c.push_reserved.ensures.items ∙ ap (λ l. l ++ value ∷ []) (c.reserve.ensures.items ∙ it.took.1) ∙ append_assoc _ it.took.0 (value ∷ []),
        one_more value (gave_still g.S.Run.polled _ _ came.0 it.took.0 it.took.2 came.1) came.2 refl,
      );
      kept = λ fact h. c.in-Some-Value.ensures.kept fact (it.kept fact h);
    }

pub returns-in-Some-End-clause-took : goal.returns-in-Some-End-clause-took
returns-in-Some-End-clause-took g c =
    let took = c.values.invariant.took in
    let came = rw c.in-Some-End.field-0-is at c.in-Some-End.ensures.came in (
      took.0,
      c.reserve.ensures.items ∙ took.1,
      inr (c.in-Some-End._cause, (came.0, gave_still g.S.Run.polled _ _ came.0 took.0 took.2 came.1, came.2)),
    )

pub returns-in-None-next_rung-clause-took : goal.returns-in-None-next_rung-clause-took
returns-in-None-next_rung-clause-took g c =
    let took = c.values.invariant.took in
    (took.0, c.reserve.ensures.items ∙ took.1, inl (gave_still g.S.Run.polled _ _ _ took.0 took.2 c.in-None-next_rung.ensures.came))
