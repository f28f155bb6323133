-- What a program's calls on a new flow made of it is an execution of the model.
use Rattle.std.proofs.Common.{◌≡◌, List, [], map, ap, ◌∙◌}
use Rattle.shared_core.specs.declared.call.Call.{Call}
use Rattle.shared_core.specs.declared.call.Reply.{Reply}
use Rattle.shared_core.specs.Flow.{Parameters, empty}
use Rattle.shared_core.specs.Shown.{Seen, Shows}
use Rattle.shared_core.specs.Runs.{Runs, call_of}
use Rattle.shared_core.specs.Headline.{Execution, execution_of}
use Rattle.shared_core.specs.Made.{execution_made}

pub made_is : {T : Type 0} (p : Parameters) (calls : List (Call T)) (replied : List (Reply T)) (old new : Seen T) → Shows old (empty p) → Runs calls old [] replied new → execution_made calls replied new ≡ execution_of p (map call_of calls)
made_is {T = T} p calls replied old new shows runs =
    let so = runs (empty p) shows in
    let made : Execution T = execution_made calls replied new in
    ap (λ rs. record made { replies = rs }) so.0 ∙ ap (λ seen. record (execution_of p (map call_of calls)) { seen = seen }) so.1.same
