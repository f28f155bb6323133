use Rattle.value_states.proofs.Calling.{held_is}
use Rattle.value_states.proofs.Given.{keeps_read, keeps_taken, known_of, misses, takes}
use Rattle.value_states.proofs.watcher.find.Goals as goal

pub leave-requires : goal.leave-requires
leave-requires g c = held_is c.args.lock.now c.enter-guarded.result.state c.enter-guarded.new.lock c.enter-guarded.ensures

pub returns-then-is_new-clause-taken : goal.returns-then-is_new-clause-taken
returns-then-is_new-clause-taken g c =
    takes c.args.lock.now c.enter-guarded.new.lock c.enter-guarded.result.state c.args.latest c.requires c.enter-guarded.ensures
    (c.is_newer-is_new.ensures.0 c.if-is_new.true)

pub returns-then-is_new-clause-keeps : goal.returns-then-is_new-clause-keeps
returns-then-is_new-clause-keeps g c = keeps_taken c.args.lock.now c.enter-guarded.new.lock c.enter-guarded.result.state c.args.latest c.requires c.enter-guarded.ensures

pub returns-clause-missed : goal.returns-clause-missed
returns-clause-missed g c =
    let state = c.enter-guarded.result.state in
    let known = known_of c.args.latest state.version c.is_newer-is_new.result c.is_newer-is_new.ensures.1 c.if-is_new.false in
    misses c.args.lock.now state c.enter-guarded.new.lock c.leave.new.lock c.args.latest c.requires c.enter-guarded.ensures known c.leave.ensures

pub returns-clause-keeps : goal.returns-clause-keeps
returns-clause-keeps g c =
    keeps_read c.enter-guarded.new.lock c.leave.new.lock c.enter-guarded.result.state c.args.latest
    (keeps_taken c.args.lock.now c.enter-guarded.new.lock c.enter-guarded.result.state c.args.latest c.requires c.enter-guarded.ensures)
    c.leave.ensures
