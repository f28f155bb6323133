use Rattle.std.proofs.Common.{sym, subst}
use Rattle.shared_rounds.specs.declared.round.Round.TheVariants as round
use Rattle.shared_flow.specs.Owners.{Owning, KeepsLock}
use Rattle.shared_flow.proofs.Making.{made_of}
use Rattle.shared_flow.proofs.flow.held.Held+T.release.Goals as goal

-- what is given back is what the round has made of what was found
pub returns-clause-made : goal.returns-clause-made
returns-clause-made g c =
    let owner = c.flow.inside.access in
    let kept = (subst (λ (o : Owning). KeepsLock o c.args.self.kept) (sym c.flow.view_is) c.requires.held).1 in
    rw (← c.flow.view_is, ← c.kept.view_is) (made_of (round.Hold c.kept.inside.count) owner c.leave.new.self kept.0 kept.1 kept.5 c.leave.ensures.left)
