use Rattle.std.proofs.Common.{◌∙◌, ap, length}
use Rattle.shared_core.specs.Shown.{Seen}
use Rattle.shared_core.proofs.Bodies.{cache_shown}
use Rattle.shared_core.proofs.state.SharedState.replay_len.Goals as goal

pub returns-clause-shows : goal.returns-clause-shows
returns-clause-shows g c = λ M shows. c.replay_len.ensures ∙ ap (λ (seen : Seen _). length seen.cache) c.self.view_is ∙ ap length (cache_shown c.args.self.now M shows)
