use Rattle.std.proofs.Common.{◌≡◌, refl, rules}
use Rattle.futures.specs.declared.task.Poll.TheVariants.{Pending}
use Rattle.hot_sources.proofs.Rounds.{rounds_given, rounds_looked}
use Rattle.hot_sources.proofs.sources.receiving.ReceivingRunRun.poll_next.Goals as goal

-- nothing is there
pub returns-clause-polled : goal.returns-clause-polled
returns-clause-polled g c =
    let none : c.poll_next.result ≡ Pending = search rules in
    let looked = c.poll_next.ensures in
    (refl, record { number = looked.same; rounds = rounds_looked _ _ _ (rw none at looked.round); none_there = rw none at looked.pending })

-- a value
pub returns-2-clause-polled : goal.returns-2-clause-polled
returns-2-clause-polled g c =
    let gave = c.in-Ready-ready.ensures in
    (refl, record { number = gave.same; rounds = rounds_given _ _ _ gave.rounds; given = gave.ready; room = gave.room })
