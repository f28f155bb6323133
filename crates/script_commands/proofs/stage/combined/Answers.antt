use Rattle.flow_merge.specs.Combine.{combine_trace}
use Rattle.script_commands.specs.Piping.{sum}
use Rattle.script_commands.proofs.Gathering.{combined_ends}
use Rattle.script_commands.proofs.stage.combined.Goals as goal

pub of-requires : goal.of-requires
of-requires g c =
    let t = c.requires.left.0 in
    let u = c.requires.right.0 in
    (combine_trace sum t u, c.combine.ensures.exact t u c.requires.prompt.0 c.requires.prompt.1 c.requires.left.1 c.requires.right.1, combined_ends t u c.requires.left.2 c.requires.right.2)

pub returns : goal.returns
returns g c = λ t u left right. c.of.ensures (combine_trace sum t u) (c.combine.ensures.exact t u c.requires.prompt.0 c.requires.prompt.1 left right)
