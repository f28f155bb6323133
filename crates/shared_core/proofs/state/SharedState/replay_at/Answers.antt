use Rattle.std.proofs.Common.{◌∙◌, ap, sym, slice_get}
use Rattle.shared_core.specs.Shown.{Seen}
use Rattle.shared_core.proofs.Bodies.{cache_shown}
use Rattle.shared_core.proofs.state.SharedState.replay_at.Goals as goal

pub returns-clause-value : goal.returns-clause-value
returns-clause-value g c = ap (λ (seen : Seen _). slice_get seen.cache c.args.index) (sym c.self.view_is) ∙ c.replay_at.ensures

pub returns-clause-shows : goal.returns-clause-shows
returns-clause-shows g c = λ M shows.
    sym c.replay_at.ensures ∙ ap (λ (seen : Seen _). slice_get seen.cache c.args.index) c.self.view_is ∙ ap (λ xs. slice_get xs c.args.index) (cache_shown c.args.self.now M shows)
