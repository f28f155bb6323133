use Rattle.std.proofs.Common.{◌≡◌, ◌∙◌, Some, sym, subst}
use Rattle.value_flows.specs.declared.round.Round.TheVariants as round
use Rattle.value_flows.specs.Calls.{giving}
use Rattle.value_flows.specs.Does.{moved}
use Rattle.value_flows.proofs.Calling.{held_is}
use Rattle.value_flows.proofs.Passing.{finds_none, keeps_looked, keeps_taken, keeps_told, takes, tells}
use Rattle.value_flows.proofs.subscription.find.Goals as goal

pub put-requires : goal.put-requires
put-requires g c =
    let ring = c.enter-guarded.result.state in
    let at = c.oldest-oldest.ensures ∙ sym c.in-Behind.ensures.0 in record {
      call = (
        ring,
        held_is c.args.lock.now ring c.enter-guarded.new.lock c.enter-guarded.ensures.holds,
        (subst (λ n. c.move_to.new.self ≡ moved c.args.place (Some n) ring) at c.move_to.ensures, c.in-Behind.ensures.0, c.in-Behind.ensures.1),
      );
    }

pub leave-requires : goal.leave-requires
leave-requires g c = held_is c.args.lock.now c.enter-guarded.result.state c.enter-guarded.new.lock c.enter-guarded.ensures.holds

pub returns-in-There-clause-looks : goal.returns-in-There-clause-looks
returns-in-There-clause-looks g c = takes c.args.lock.now c.enter-guarded.new.lock c.enter-guarded.result.state c.args.place c.args.next.now c.requires c.enter-guarded.ensures.holds c.in-There.ensures

pub returns-in-There-clause-keeps : goal.returns-in-There-clause-keeps
returns-in-There-clause-keeps g c = keeps_taken c.args.lock.now c.enter-guarded.new.lock c.enter-guarded.result.state c.args.place c.args.next.now c.requires c.enter-guarded.ensures.holds

pub returns-in-Behind-clause-looks : goal.returns-in-Behind-clause-looks
returns-in-Behind-clause-looks g c =
    let ring = c.enter-guarded.result.state in
    let at = c.oldest-oldest.ensures ∙ sym c.in-Behind.ensures.0 in
    let left = subst (λ n. c.move_to.new.self ≡ moved c.args.place (Some n) ring) at c.move_to.ensures in
    let given = subst (λ r. c.put.new.self ≡ giving (round.Miss c.args.place c.args.next.now c.in-Behind.count) r c.enter-guarded.new.lock) left c.put.ensures.given in
    tells c.args.lock.now c.enter-guarded.new.lock c.put.new.self ring c.args.place c.args.next.now c.in-Behind.count c.requires c.enter-guarded.ensures.holds c.in-Behind.ensures.0 c.in-Behind.ensures.1 given

pub returns-in-Behind-clause-keeps : goal.returns-in-Behind-clause-keeps
returns-in-Behind-clause-keeps g c =
    let ring = c.enter-guarded.result.state in
    let at = c.oldest-oldest.ensures ∙ sym c.in-Behind.ensures.0 in
    let left = subst (λ n. c.move_to.new.self ≡ moved c.args.place (Some n) ring) at c.move_to.ensures in
    let given = subst (λ r. c.put.new.self ≡ giving (round.Miss c.args.place c.args.next.now c.in-Behind.count) r c.enter-guarded.new.lock) left c.put.ensures.given in
    keeps_told c.args.lock.now c.enter-guarded.new.lock c.put.new.self ring c.args.place c.args.next.now c.in-Behind.count c.oldest-oldest.result c.requires c.enter-guarded.ensures.holds c.in-Behind.ensures.0 c.oldest-oldest.ensures given

pub returns-in-Nothing-clause-looks : goal.returns-in-Nothing-clause-looks
returns-in-Nothing-clause-looks g c =
    finds_none c.args.lock.now c.enter-guarded.new.lock c.leave.new.lock c.enter-guarded.result.state c.args.place c.args.next.now c.requires c.enter-guarded.ensures.holds c.in-Nothing.ensures c.leave.ensures

pub returns-in-Nothing-clause-keeps : goal.returns-in-Nothing-clause-keeps
returns-in-Nothing-clause-keeps g c =
    keeps_looked c.enter-guarded.new.lock c.leave.new.lock c.enter-guarded.result.state c.args.place c.args.next.now
    (keeps_taken c.args.lock.now c.enter-guarded.new.lock c.enter-guarded.result.state c.args.place c.args.next.now c.requires c.enter-guarded.ensures.holds)
    c.leave.ensures
