use Rattle.std.proofs.Common.{◌+◌, ◌-◌, length, slice_get, ap, sym, ◌∙◌, arith}
use Rattle.std.specs.Option.{option_copied}
use Rattle.shared_core.specs.Ringed.{Ringed}
use Rattle.shared_core.proofs.Latest.{length-kept, got_dropped}
use Rattle.shared_core.proofs.ring.Ring.replay_at.Goals as goal

pub overflow_sub-oldest : goal.overflow_sub-oldest
overflow_sub-oldest g c = omega (arith, c.self.invariant.cache.2, c.len.ensures.len)

pub overflow_add-oldest : goal.overflow_add-oldest
overflow_add-oldest g c =
    let ring = c.self.inside in
    let kept = c.self.invariant in
    omega (arith, c.requires, ap (λ (r : Ringed _). length r.cache) c.self.view_is, length-kept ring.cached ring.values.items kept.cache.2, c.len.ensures.len, kept.kept.0, kept.capacity.1)

pub returns : goal.returns
returns g c =
    let ring = c.self.inside in
    ap (λ (r : Ringed _). slice_get r.cache c.args.index) (sym c.self.view_is)
    ∙ got_dropped (length ring.values.items - ring.cached) c.args.index ring.values.items
    ∙ ap (λ n. slice_get ring.values.items ((n - ring.cached) + c.args.index)) (sym c.len.ensures.len)
    ∙ sym c.get.ensures
    ∙ ap option_copied c.unwrap.ensures
