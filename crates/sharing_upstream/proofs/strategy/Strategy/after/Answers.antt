use Rattle.std.proofs.Common.{◌≡◌, ◌∷◌, ◌∙◌}
use Rattle.sharing_upstream.specs.Strategies.{Look, latest, is_on, is_reset, is_first_due}
use Rattle.sharing_upstream.specs.Shown.{audience_of, progress_of}
use Rattle.sharing_upstream.proofs.Stepping.{met, audience-more, due-more, on-more}
use Rattle.sharing_upstream.proofs.strategy.Strategy.after.Goals as goal

pub returns-clause-commands : goal.returns-clause-commands
returns-clause-commands c history shows =
    let started = c.args.self.now.started in
    let look : Look = record { moment = c.args.now; count = c.args.count } in
    let at : c.max-latest.result ≡ latest (look ∷ history) = rw shows.latest_is at c.max-latest.ensures in
    let heard : c.counted-counted.result ≡ met started look history = rw (shows.audience_is, at) at c.counted-counted.ensures in
    let kept : c.expired-audience.result.0 ≡ audience_of started (look ∷ history) =
    (rw (heard, at) at c.expired-audience.ensures.kept) ∙ audience-more started look history in
    let due : c.expired-audience.result.1 ≡ is_first_due started (look ∷ history) =
    (rw (heard, at) at c.expired-audience.ensures.falls) ∙ due-more started look history in
    let done : c.after-progress.result ≡ progress_of started (look ∷ history) = rw (shows.progress_is, at) at c.after-progress.ensures in
    let on : c.is_on-on.result ≡ is_on started (look ∷ history) = (rw (kept, done, at) at c.is_on-on.ensures) ∙ on-more started look history in
    let reset : c.is_reset-reset.result ≡ is_reset started (look ∷ history) = rw (due, done, shows.progress_is) at c.is_reset-reset.ensures in
    rw (shows.on_is, on, reset) at c.commanded.ensures

pub returns-clause-shows : goal.returns-clause-shows
returns-clause-shows c history shows =
    let started = c.args.self.now.started in
    let look : Look = record { moment = c.args.now; count = c.args.count } in
    let at : c.max-latest.result ≡ latest (look ∷ history) = rw shows.latest_is at c.max-latest.ensures in
    let heard : c.counted-counted.result ≡ met started look history = rw (shows.audience_is, at) at c.counted-counted.ensures in
    let kept : c.expired-audience.result.0 ≡ audience_of started (look ∷ history) =
    (rw (heard, at) at c.expired-audience.ensures.kept) ∙ audience-more started look history in
    let done : c.after-progress.result ≡ progress_of started (look ∷ history) = rw (shows.progress_is, at) at c.after-progress.ensures in
    let on : c.is_on-on.result ≡ is_on started (look ∷ history) = (rw (kept, done, at) at c.is_on-on.ensures) ∙ on-more started look history in
    record { latest_is = at; audience_is = kept; progress_is = done; on_is = on }
