use Rattle.std.proofs.Common.{◌≡◌, ◌<◌, Some, subst, sym}
use Rattle.value_flows.specs.declared.round.Round.TheVariants as round
use Rattle.value_flows.specs.Calls.{giving}
use Rattle.value_flows.specs.Does.{moved}
use Rattle.value_flows.specs.Receiving.{Takes, Keeps}
use Rattle.value_flows.proofs.Calling.{held_is}
use Rattle.value_flows.proofs.Passing.{gives, keeps_gave, kept_is}
use Rattle.value_flows.proofs.subscription.Subscription.give.Goals as goal

pub number_within-next-requires : goal.number_within-next-requires
number_within-next-requires g c =
    let before = c.requires.0 in
    let took = subst (λ o. Takes before c.args.guarded.state c.requires.1 o) (sym c.self.view_is) c.requires.2 in
    let kept = kept_is before c.self.inside.lock c.args.guarded.state c.requires.1 c.self.inside.place c.self.inside.next c.self.invariant took in
    subst (λ end. c.self.inside.next < end) (sym c.next-end.ensures) kept.1

pub put-requires : goal.put-requires
put-requires g c =
    let before = c.requires.0 in
    let ring = c.args.guarded.state in
    let took = subst (λ o. Takes before ring c.requires.1 o) (sym c.self.view_is) c.requires.2 in record {
      call = (
        ring,
        held_is before ring c.self.inside.lock took.holds,
        (
          subst (λ n. c.move_to.new.self ≡ moved c.self.inside.place (Some n) ring) c.number_within-next.ensures c.move_to.ensures,
          kept_is before c.self.inside.lock ring c.requires.1 c.self.inside.place c.self.inside.next c.self.invariant took,
        ),
      );
    }

pub returns : goal.returns
returns g c = λ before value takes.
    let ring = c.args.guarded.state in
    let took = subst (λ o. Takes before ring value o) (sym c.self.view_is) takes in
    let left = subst (λ n. c.move_to.new.self ≡ moved c.self.inside.place (Some n) ring) c.number_within-next.ensures c.move_to.ensures in
    let given = subst (λ r. c.put.new.self ≡ giving (round.Give c.self.inside.place c.self.inside.next) r c.self.inside.lock) left c.put.ensures.given in
    gives before c.self.inside.lock c.put.new.self ring value c.self.inside.place c.self.inside.next c.self.invariant took given

pub invariant_of-self : goal.invariant_of-self
invariant_of-self g c =
    let before = c.requires.0 in
    let ring = c.args.guarded.state in
    let took = subst (λ o. Takes before ring c.requires.1 o) (sym c.self.view_is) c.requires.2 in
    let left = subst (λ n. c.move_to.new.self ≡ moved c.self.inside.place (Some n) ring) c.number_within-next.ensures c.move_to.ensures in
    let given = subst (λ r. c.put.new.self ≡ giving (round.Give c.self.inside.place c.self.inside.next) r c.self.inside.lock) left c.put.ensures.given in
    subst (Keeps c.put.new.self c.self.inside.place) (sym c.number_within-next.ensures)
    (keeps_gave before c.self.inside.lock c.put.new.self ring c.requires.1 c.self.inside.place c.self.inside.next c.self.invariant took given)
