use Rattle.std.proofs.Common.{◌≡◌, None, ap, ◌∙◌, rules}
use Rattle.cold_flow.specs.Poll.{end_of}
use Rattle.hot_sources.specs.BothLaws.{join_narrows}
use Rattle.hot_sources.proofs.sources.both.BothRunRun.poll_next.Goals as goal

pub returns-in_default-clause-narrows : goal.returns-in_default-clause-narrows
returns-in_default-clause-narrows g c =
    let going : c.args.self.now.ended.cause ≡ None = search rules in
    let left = c.poll_next-left.ensures in
    let right = c.poll_next-right.ensures in
    rw (going, c.joined-answer.ensures)
    (join_narrows _ (g.L.Run.may c.poll_next-left.new.self) _ (g.R.Run.may c.poll_next-right.new.self) c.poll_next-left.result c.poll_next-right.result
    left.narrows (g.met.L.Run.begins _) (λ k e t h. g.met.L.Run.over _ k (left.ends ∙ ap end_of e) t h)
    right.narrows (g.met.R.Run.begins _) (λ k e t h. g.met.R.Run.over _ k (right.ends ∙ ap end_of e) t h))
