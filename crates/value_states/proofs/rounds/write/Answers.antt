use Rattle.std.proofs.Common.{◌≡◌, subst}
use Rattle.value_states.specs.declared.round.Round.TheVariants as round
use Rattle.value_states.specs.Calls.{giving}
use Rattle.value_states.proofs.rounds.write.Goals as goal

pub put-requires : goal.put-requires
put-requires g c = record { call = (c.args.guarded.state, c.requires, c.next_version-version.ensures) }

pub returns-clause-written : goal.returns-clause-written
returns-clause-written g c =
    subst (λ n. c.put.new.self ≡ giving round.Write (record { value = c.args.value; version = n }) c.args.lock.now) c.next_version-version.ensures c.put.ensures.given
