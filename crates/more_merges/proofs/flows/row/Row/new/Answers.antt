use Rattle.std.proofs.Common.{◌≡◌, ◌∙◌, None, refl, replicate}
use Rattle.more_merges.specs.RowLaws.{fills}
use Rattle.more_merges.proofs.flows.row.Row.new.Goals as goal

pub returns-clause-fresh : goal.returns-clause-fresh
returns-clause-fresh g c =
    let grown = c.in_ok-resize.ensures.items in
    let latest : c.resize.new.self.items ≡ replicate c.args.count None = (rw (c.new-latest.ensures.items, c.new-latest.ensures.len) at grown) ∙ fills _ _ in
    rw latest refl
