use Rattle.script_run.proofs.names.Names.reserve.Goals as goal
use Rattle.std.proofs.Common.{rules}

pub returns-clause-kept : goal.returns-clause-kept
returns-clause-kept c = λ name. c.reserve.ensures.entries.2 (record { ref_ptr = (0, 0); now = name })

-- A wrong body makes this false: so answered, it is refused at once.
pub returns-clause-room : goal.returns-clause-room
returns-clause-room c = search rules
