use Rattle.script_calls.specs.Views.{receipts_of}
use Rattle.script_engines.specs.declared.one_thread.OneThread.{OneThread}
use Rattle.script_engines.specs.Subscribing.{subscribing_of, subscribing}
use Rattle.script_model.proofs.Known.{asks_known, joins_known}
use Rattle.script_model.proofs.Modelled.{runs_as_model}
use Rattle.script_model.proofs.run_script.Goals as goal

pub returns-clause-runs : goal.returns-clause-runs
returns-clause-runs g c = runs_as_model _ _ _ _ _ _ _ c.run_script.result c.run_script.ensures.runs (λ (it : OneThread). it.state) (λ it. it.object) _ _ _ _ _ _
    (λ made reply h. h) (λ part request old new answer h. asks_known (λ (it : OneThread). it.state) (receipts_of subscribing_of subscribing) _ _ part request old.object new.object answer h)
    (λ part joiner old new joined h. joins_known (λ (it : OneThread). it.state) (receipts_of subscribing_of subscribing) part joiner old.object new.object joined h)
