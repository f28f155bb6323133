use Rattle.std.proofs.Common.{◌≡◌, ◌∙◌, ap, sym, subst, length}
use Rattle.shared_core.specs.Flow.{live_count}
use Rattle.shared_core.specs.Shown.{Seen, Reads}
use Rattle.shared_core.proofs.Bodies.{count_reads}
use Rattle.shared_core.proofs.state.SharedState.subscription_count.Goals as goal

pub returns-clause-count : goal.returns-clause-count
returns-clause-count g c = c.live_len.ensures.count ∙ ap (λ (seen : Seen _). length seen.live) c.self.view_is

pub returns-clause-shows : goal.returns-clause-shows
returns-clause-shows g c =
    let count : length c.args.self.now.live ≡ c.live_len.result = ap (λ (seen : Seen _). length seen.live) (sym c.self.view_is) ∙ sym c.live_len.ensures.count in
    subst (Reads live_count c.args.self.now) count (count_reads c.args.self.now)
