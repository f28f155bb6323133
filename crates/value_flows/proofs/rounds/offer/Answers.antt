use Rattle.std.proofs.Common.{◌≡◌, refl, subst, sym}
use Rattle.flow_terms.specs.declared.policy.Policy.TheVariants as policy
use Rattle.value_flows.specs.declared.round.Round.TheVariants as round
use Rattle.value_flows.specs.Calls.{Accepts, giving}
use Rattle.value_flows.proofs.Calling.{accepts, held_is, refuses}
use Rattle.value_flows.proofs.rounds.offer.Goals as goal

pub put-requires : goal.put-requires
put-requires g c = record {
  call = (
    c.enter-guarded.result.state,
    held_is c.args.lock.now c.enter-guarded.result.state c.enter-guarded.new.lock c.enter-guarded.ensures.holds,
    (c.args.value, c.accept-old.ensures, c.in-Open.ensures),
  );
}

pub leave-requires : goal.leave-requires
leave-requires g c = held_is c.args.lock.now c.enter-guarded.result.state c.enter-guarded.new.lock c.enter-guarded.ensures.holds

pub leave-requires-in-Full : goal.leave-requires-in-Full
leave-requires-in-Full g c = held_is c.args.lock.now c.enter-guarded.result.state c.enter-guarded.new.lock c.enter-guarded.ensures.holds

pub returns-in-Open : goal.returns-in-Open
returns-in-Open g c =
    let given = subst (λ ring. c.put.new.self ≡ giving round.Emit ring c.enter-guarded.new.lock) c.accept-old.ensures c.put.ensures.given in
    subst (λ number. Accepts c.args.lock.now number c.args.value c.put.new.self) (sym c.next-number.ensures)
    (accepts c.args.lock.now c.enter-guarded.result.state c.enter-guarded.new.lock c.put.new.self c.args.value c.in-Open.ensures c.enter-guarded.ensures.holds given)

pub returns-in-Dropped : goal.returns-in-Dropped
returns-in-Dropped g c = (
  refl,
  refuses c.args.lock.now c.enter-guarded.result.state c.enter-guarded.new.lock c.leave.new.lock policy.DropLatest c.in-Dropped.ensures.0 c.in-Dropped.ensures.1 c.enter-guarded.ensures.holds c.leave.ensures,
)

pub returns-in-Full : goal.returns-in-Full
returns-in-Full g c = (
  refl,
  refuses c.args.lock.now c.enter-guarded.result.state c.enter-guarded.new.lock c.leave-in-Full.new.lock policy.Suspend c.in-Full.ensures.0 c.in-Full.ensures.1 c.enter-guarded.ensures.holds c.leave-in-Full.ensures,
)
