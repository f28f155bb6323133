use Rattle.std.proofs.Common.{refl}
use Rattle.script_commands.specs.Piping.{made_by, inner_of}
use Rattle.script_commands.specs.Stages.{concat}
use Rattle.script_commands.proofs.Gathering.{ended_after, inner_fixed}
use Rattle.script_commands.proofs.stage.concatenated.Goals as goal

-- no start of an inner flow is refused
pub of-requires : goal.of-requires
of-requires g c =
    let t = c.requires.0 in (
      made_by (concat c.args.fault) t,
      λ u h. c.flat_map_concat.ensures.fixed t (inner_of c.args.fault) (λ x. refl) c.requires.1 (inner_fixed c.args.fault) u (c.within-joined.ensures.gives u h),
      ended_after (concat c.args.fault) t c.requires.2,
    )

pub returns : goal.returns
returns g c = λ t fixed.
    c.of.ensures (made_by (concat c.args.fault) t)
    (λ u h. c.flat_map_concat.ensures.fixed t (inner_of c.args.fault) (λ x. refl) fixed (inner_fixed c.args.fault) u (c.within-joined.ensures.gives u h))
