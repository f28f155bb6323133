use Rattle.flow_merge.specs.Zip.{zip_trace}
use Rattle.script_commands.specs.Piping.{sum}
use Rattle.script_commands.proofs.Gathering.{zipped_ends}
use Rattle.script_commands.proofs.stage.zipped.Goals as goal

pub of-requires : goal.of-requires
of-requires g c =
    let t = c.requires.left.0 in
    let u = c.requires.right.0 in
    (zip_trace sum t u, c.zip.ensures.exact t u c.requires.left.1 c.requires.right.1, zipped_ends t u c.requires.left.2 c.requires.right.2)

pub returns : goal.returns
returns g c = λ t u left right. c.of.ensures (zip_trace sum t u) (c.zip.ensures.exact t u left right)
