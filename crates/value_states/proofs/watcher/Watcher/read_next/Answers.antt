use Rattle.value_states.proofs.watcher.Watcher.read_next.Goals as goal

pub give-requires : goal.give-requires
give-requires g c = (c.in-News.ensures.0, c.in-News.ensures.2)

pub returns-in-News : goal.returns-in-News
returns-in-News g c =
    let came = c.in-News.ensures in (c.in-News.guarded.state.value, (came.0, came.1, c.give.ensures came.0 came.2), c.shown-answer.ensures)
