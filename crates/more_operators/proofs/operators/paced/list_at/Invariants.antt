use Rattle.std.proofs.Common.{drop, IsTrue}
use Rattle.cold_flow.specs.Poll.{Fixes, Unless}
use Rattle.more_operators.specs.Paced.{paced}
use Rattle.more_operators.specs.PacedLaws.{Left}
use Rattle.more_operators.proofs.operators.paced.list_at.Given as goal

-- what is given so far, and what comes of the moments that are left
abbrev pub invariant-loop-moment : goal.invariant-loop-moment
invariant-loop-moment g l =
    (whole : _) → Fixes whole (Unless (g.S.Run.ended l.initial.run.source) (g.S.Run.may l.initial.run.source))
    → IsTrue (g.S.Run.prompt l.initial.run.source)
    → Left (g.S.Run.may l.run.source) (g.S.Run.ended l.run.source) (g.S.Run.prompt l.run.source) (g.P.Pace.due l.run.pace) (g.P.Pace.gives_last l.run.pace) l.run.held
    (drop l.moment-index l.moments) l.given.items (paced (g.P.Pace.due l.initial.run.pace) (g.P.Pace.gives_last l.initial.run.pace) l.initial.run.held whole l.moments)
