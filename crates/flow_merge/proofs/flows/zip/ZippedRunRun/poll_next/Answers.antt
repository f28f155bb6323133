use Rattle.std.proofs.Common.{rules, ◌≡◌, None, arith}
use Rattle.flow_merge.specs.ZipLaws.{zip_holds, zip_pairs, zip_left_ends, zip_right_ends, zip_left_waits, zip_right_waits}
use Rattle.flow_merge.proofs.flows.zip.ZippedRunRun.poll_next.Goals as goal
use Rattle.flow_merge.proofs.flows.zip.ZippedRunRun.poll_next.Goals.{in-Some-held, in-None+in-Ready-Value}

pub returns-in-Ready-End-poll_next-clause-narrows :
    goal.returns-in-Ready-End-poll_next-clause-narrows
returns-in-Ready-End-poll_next-clause-narrows g c =
    let begun = g.met.A.Run.begins in
    let came = rw c.in-Ready-End-poll_next.field-0-is at c.in-Ready-End-poll_next.ensures.narrows in
    let none : c.args.self.now.ended ≡ None = search rules in
    rw none
    (elim c.match-self-2.branch [
      | in-Some-held w ↦
          let right = rw w.self-is at came in
          rw (w.in-Some-held.is) (zip_right_ends _ _ _ _ _ (begun _) right)
      | in-None+in-Ready-Value w ↦
          let right = rw w.self-is at came in
          let after = rw w.in-Ready-Value.field-0-is at w.in-Ready-Value.ensures.narrows in
          rw (w.in-None.is) (zip_holds _ _ _ _ _ after _ (zip_right_ends _ _ _ _ _ (begun _) right))
    ])

pub returns-in-Ready-End-clause-narrows : goal.returns-in-Ready-End-clause-narrows
returns-in-Ready-End-clause-narrows g c =
    let came = rw c.in-Ready-End.field-0-is at c.in-Ready-End.ensures.narrows in
    rw (c.in_default.is, c.in-None.is) (zip_left_ends _ _ _ _ came (g.met.B.Run.begins _))

pub returns-in-Pending-clause-narrows : goal.returns-in-Pending-clause-narrows
returns-in-Pending-clause-narrows g c = rw c.in_default.is (zip_left_waits _ _ _ _ _ c.in-Pending.ensures.narrows)

pub returns-in-Ready-Value-poll_next-clause-narrows : goal.returns-in-Ready-Value-poll_next-clause-narrows
returns-in-Ready-Value-poll_next-clause-narrows g c = grind (arith, zip_holds, zip_pairs)

pub returns-in-Pending-poll_next-clause-narrows : goal.returns-in-Pending-poll_next-clause-narrows
returns-in-Pending-poll_next-clause-narrows g c =
    elim c.match-self-2.branch [
      | in-Some-held w ↦
          let within = rw w.self-is at c.in-Pending-poll_next.ensures.narrows in
          rw (w.self-is, c.in_default.is) (zip_right_waits _ _ _ _ _ within)
      | in-None+in-Ready-Value w ↦
          let within = rw w.self-is at c.in-Pending-poll_next.ensures.narrows in
          let after = rw w.in-Ready-Value.field-0-is at w.in-Ready-Value.ensures.narrows in
          rw (w.self-is, c.in_default.is, w.in-None.is) (λ t h. zip_holds _ _ _ _ _ after _ (zip_right_waits _ _ _ _ _ within t h))
    ]

-- A wrong body makes this false: so answered, it is refused at once.
pub invariant_of-self-in-Ready-End : goal.invariant_of-self-in-Ready-End
invariant_of-self-in-Ready-End g c = search rules
