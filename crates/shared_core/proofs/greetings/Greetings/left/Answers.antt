use Rattle.std.proofs.Common.{Some, length, ap, sym, ◌∙◌}
use Rattle.shared_core.specs.declared.greetings.Greeting.{Greeting}
use Rattle.shared_core.specs.Queues.{Queued}
use Rattle.shared_core.specs.Shown.{rest_of}
use Rattle.shared_core.proofs.Handed.{shown, without_shown, read_there, rest_none, rest_found}
use Rattle.shared_core.proofs.greetings.Greetings.left.Goals as goal

pub returns-in-None-clause-count : goal.returns-in-None-clause-count
returns-in-None-clause-count g c =
    let n = c.args.number in
    let items = c.self.inside.items.items in
    ap length (sym (rest_none n (shown items) (without_shown n items (rw c.deref.ensures.value at c.in-None.ensures.none))))
    ∙ ap (λ (q : Queued _). length (rest_of n q.values)) c.self.view_is

pub returns-in-Some-clause-count : goal.returns-in-Some-clause-count
returns-in-Some-clause-count g c =
    let n = c.args.number in
    let at = c.in-Some.at in
    let items = c.self.inside.items.items in
    let read = c.index.result.now in
    let found = rw c.deref.ensures.value at c.in-Some.ensures.found in
    let same = read_there items at read found.0 c.index.ensures found.1 in
    c.len.ensures.count
    ∙ ap length (sym (rest_found n at items read (found.1 ∙ ap Some (sym same)) (ap (λ (x : Greeting _). x.number) same ∙ found.2) found.3))
    ∙ ap (λ (q : Queued _). length (rest_of n q.values)) c.self.view_is
