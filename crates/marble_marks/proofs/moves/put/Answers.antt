use Rattle.marble_marks.proofs.Placing.{put_one}
use Rattle.marble_marks.proofs.moves.put.Goals as goal

pub returns-clause-put : goal.returns-clause-put
returns-clause-put c = λ other within.
    let found = c.in-Some.ensures.item in
    put_one c.args.by_row.now.items c.args.row c.in-Some.moves.now c.push.new.self c.args.it found.1 found.3.0 c.in_ok-push.ensures.items other
