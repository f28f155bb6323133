use Rattle.flow_merge.specs.Combine.{OrFinished}
use Rattle.flow_merge.specs.CombineLaws.{asks_left, asks_right}
use Rattle.flow_merge.proofs.flows.combine.CombinedRun.ask.Goals as goal

pub returns-in-Left-clause-asked : goal.returns-in-Left-clause-asked
returns-in-Left-clause-asked g c =
    let was = c.args.self.now in
    let now = c.ask-arrival.new.self in
    let side = c.ask-arrival.ensures in
    rw (c.requires, c.in-Left.is, c.answer.ensures, c.unless-self.ensures, side.finished)
    (asks_left (g.G.Apply.gives was.function) (g.A.Run.prompt was.left.run) (g.B.Run.prompt was.right.run) (g.A.Run.prompt now.run)
    was.left.latest now.latest was.right.latest was.right.finished
    (OrFinished was.left.finished (g.A.Run.may was.left.run)) (g.A.Run.may now.run) (g.B.Run.may was.right.run) c.ask-arrival.result
    (g.met.B.Run.begins was.right.run) side.prompt (rw side.finished at side.brings))

pub returns-in-Right-clause-asked : goal.returns-in-Right-clause-asked
returns-in-Right-clause-asked g c =
    let was = c.args.self.now in
    let now = c.ask-arrival-in-Right.new.self in
    let side = c.ask-arrival-in-Right.ensures in
    rw (c.requires, c.in-Right.is, c.answer-in-Right.ensures, c.unless-self-in-Right.ensures, side.finished)
    (asks_right (g.G.Apply.gives was.function) (g.A.Run.prompt was.left.run) (g.B.Run.prompt was.right.run) (g.B.Run.prompt now.run)
    was.left.latest was.right.latest now.latest was.left.finished
    (g.A.Run.may was.left.run) (OrFinished was.right.finished (g.B.Run.may was.right.run)) (g.B.Run.may now.run) c.ask-arrival-in-Right.result
    (g.met.A.Run.begins was.left.run) side.prompt (rw side.finished at side.brings))
