use Rattle.std.proofs.Common.{refl, sym, subst}
use Rattle.shared_core.specs.Calls.{reset}
use Rattle.shared_core.specs.Shown.{Leaves}
use Rattle.shared_core.proofs.Bodies.{reset_leaves}
use Rattle.shared_core.proofs.Rings.{cache_step}
use Rattle.shared_core.proofs.state.SharedState.reset_replay.Goals as goal

pub returns : goal.returns
returns g c =
    subst (Leaves reset c.args.self.now)
    (sym (cache_step _ c.args.self.now c.self.inside.ring c.reset.new.self c.self.view_is refl c.reset.ensures)) (reset_leaves c.args.self.now)
