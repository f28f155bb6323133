use Rattle.flow_merge.specs.Concat.{MayStand}
use Rattle.more_merges.specs.InterleaveLaws.{narrows-swap}
use Rattle.more_merges.proofs.flows.merge.InterleavedRun.ask.Goals as goal

pub returns-in-Right-clause-narrows : goal.returns-in-Right-clause-narrows
returns-in-Right-clause-narrows g c =
    narrows-swap (MayStand g.B.Run.may c.args.self.now.right) (MayStand g.A.Run.may c.args.self.now.left)
    (MayStand g.B.Run.may c.ask_both-in-Right.new.first) (MayStand g.A.Run.may c.ask_both-in-Right.new.second) c.ask_both-in-Right.result
    c.ask_both-in-Right.ensures.narrows
