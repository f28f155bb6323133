use Rattle.std.proofs.Common.{◌∷◌, ◌∙◌, ap}
use Rattle.sharing_upstream.specs.Strategies.{Look, resets}
use Rattle.sharing_upstream.proofs.Commands.{resets-command}
use Rattle.sharing_upstream.proofs.polling.Decision.of.Goals as goal

pub returns-clause-polled : goal.returns-clause-polled
returns-clause-polled c history shows =
    let look : Look = record { moment = c.args.now; count = c.args.count } in
    let after = c.after-command.ensures.shows history shows in
    let reset = c.resets.ensures ∙ ap resets (c.after-command.ensures.commands history shows) ∙ resets-command c.args.strategy.now.started (look ∷ history) in
    let latest = after.latest_is in
    let on = after.on_is in
    cc
