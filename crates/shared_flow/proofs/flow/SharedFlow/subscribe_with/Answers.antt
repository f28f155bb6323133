use Rattle.std.proofs.Common.{rules, map, Ok, IfOk, refl, inr, ap, subst, Err, IfErr}
use Rattle.shared_rounds.specs.declared.round.Round.TheVariants as round
use Rattle.shared_rounds.specs.Names.{SharedSeen}
use Rattle.shared_rounds.specs.Reach.{Reach, party_of}
use Rattle.shared_rounds.specs.Rounds.{Comes, IsAdmitted, IsAtLimit}
use Rattle.shared_rounds.specs.Waking.{SleepOn}
use Rattle.shared_rounds.proofs.Doing.{is_called}
use Rattle.shared_flow.specs.Looks.{WasAdmittedBy}
use Rattle.shared_flow.proofs.Making.{was_admitted}
use Rattle.shared_flow.proofs.Received.{knows_at_start}
use Rattle.shared_flow.proofs.Shares.{are_halves, made_and_took_back}
use Rattle.shared_flow.proofs.flow.SharedFlow.subscribe_with.Goals as goal

-- the owner that took the lock is the one that another was made of
pub returns-in-Ok-clause-begins : goal.returns-in-Ok-clause-begins
returns-in-Ok-clause-begins g c =
    let owner : Reach = c.another.new.self in
    let after : SharedSeen = c.subscribe-number.new.self in
    let number = c.subscribe-number.result.number in
    let did = subst (λ (s : SharedSeen). IfOk c.subscribe-number.result.reader (λ reader. Comes s (round.Subscribe (Ok number)) after × IsAdmitted s number reader after)) c.deref_mut.ensures.value c.subscribe-number.ensures.ok in
    let admission = subst (λ r. IfOk r (λ reader. Comes c.enter-inside.result.shared.value (round.Subscribe (Ok number)) after × IsAdmitted c.enter-inside.result.shared.value number reader after)) c.in-Ok.is did in
    rw (← c.self.view_is, c.new.ensures)
    (subst (λ (r : Reach). WasAdmittedBy number c.in-Ok.reader (party_of r) (party_of c.leave.new.self)) c.in_ok-access.ensures.half
    (was_admitted number owner c.enter-inside.new.self c.leave.new.self c.enter-inside.result.shared.value after c.in-Ok.reader
    c.enter-inside.ensures.taken c.enter-inside.ensures.found c.enter-inside.ensures.named c.leave.ensures.left admission.1))

pub leave-requires : goal.leave-requires
leave-requires g c =
    let found : SharedSeen = c.enter-inside.result.shared.value in
    let after : SharedSeen = c.subscribe-number.new.self in
    let number = c.subscribe-number.result.number in
    let did = subst (λ (s : SharedSeen). IfOk c.subscribe-number.result.reader (λ reader. Comes s (round.Subscribe (Ok number)) after × IsAdmitted s number reader after)) c.deref_mut.ensures.value c.subscribe-number.ensures.ok in
    let admission = subst (λ r. IfOk r (λ reader. Comes found (round.Subscribe (Ok number)) after × IsAdmitted found number reader after)) c.in-Ok.is did in
    record {
      round = is_called c.enter-inside.new.self found found after c.enter-inside.result.before (round.Subscribe (Ok number)) (ap (λ (r : Reach). r.held) c.enter-inside.ensures.taken)
          c.enter-inside.ensures.before refl admission.0 (subst (λ (s : SharedSeen). SleepOn s after) c.deref_mut.ensures.value c.subscribe-number.ensures.asleep);
    }

pub leave-requires-in-Err : goal.leave-requires-in-Err
leave-requires-in-Err g c =
    let found : SharedSeen = c.enter-inside.result.shared.value in
    let after : SharedSeen = c.subscribe-number.new.self in
    let did = subst (λ (s : SharedSeen). IfErr c.subscribe-number.result.reader (λ refusal. Comes s (round.Subscribe (Err refusal)) after × IsAtLimit refusal)) c.deref_mut.ensures.value c.subscribe-number.ensures.err in
    let left_out = subst (λ r. IfErr r (λ refusal. Comes found (round.Subscribe (Err refusal)) after × IsAtLimit refusal)) c.in-Err.is did in
    record {
      round = is_called c.enter-inside.new.self found found after c.enter-inside.result.before (round.Subscribe (Err c.in-Err.refusal)) (ap (λ (r : Reach). r.held) c.enter-inside.ensures.taken)
          c.enter-inside.ensures.before refl left_out.0 (subst (λ (s : SharedSeen). SleepOn s after) c.deref_mut.ensures.value c.subscribe-number.ensures.asleep);
    }

-- who was admitted would have half the share of the lock: refused, it gives that back
pub take_back-requires : goal.take_back-requires
take_back-requires g c =
    let halves = are_halves (round.Subscribe (Err c.in-Err.refusal)) c.self.inside.access c.another.new.self c.enter-inside.new.self c.leave-in-Err.new.self c.in_ok-access.access
    c.enter-inside.result.shared.value c.in_ok-access.ensures.other c.in_ok-access.ensures.half c.enter-inside.ensures.taken c.leave-in-Err.ensures.left in
    record { lock = halves.lock; half = halves.half; idle = halves.idle }

pub returns-in-Err-clause-kept : goal.returns-in-Err-clause-kept
returns-in-Err-clause-kept g c =
    inr (
      search rules,
      search rules,
      rw (← c.self.view_is)
          (made_and_took_back (round.Subscribe (Err c.in-Err.refusal)) c.self.inside.access c.another.new.self c.enter-inside.new.self c.leave-in-Err.new.self c.take_back.new.self
          c.enter-inside.result.shared.value c.in_ok-access.ensures.half c.enter-inside.ensures.taken c.enter-inside.ensures.found c.leave-in-Err.ensures.left c.take_back.ensures.whole),
    )

pub returns-in-Ok-clause-has : goal.returns-in-Ok-clause-has
returns-in-Ok-clause-has g c =
    let after : SharedSeen = c.subscribe-number.new.self in
    let number = c.subscribe-number.result.number in
    let did = subst (λ (s : SharedSeen). IfOk c.subscribe-number.result.reader (λ reader. Comes s (round.Subscribe (Ok number)) after × IsAdmitted s number reader after)) c.deref_mut.ensures.value c.subscribe-number.ensures.ok in
    let admission = subst (λ r. IfOk r (λ reader. Comes c.enter-inside.result.shared.value (round.Subscribe (Ok number)) after × IsAdmitted c.enter-inside.result.shared.value number reader after)) c.in-Ok.is did in
    let nothing = knows_at_start _ c.in-Ok.reader admission.1.5.1.begins in
    rw c.new.ensures ((ap (map g.T.Word.read_as) nothing.1), refl)
