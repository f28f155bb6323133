use Rattle.std.proofs.Common.{rules, ◌≢◌, ap, eqb, not, subst}
use Rattle.std.specs.BinaryHeap.{heap_items}
use Rattle.std.proofs.lemmas.Bool.{ne_eqb}
use Rattle.std.proofs.lemmas.Fn.{filter_same}
use Rattle.shared_rounds.specs.Sleeping.{OnlyThese}
use Rattle.shared_rounds.proofs.Parked.{still_there}
use Rattle.shared_rounds.proofs.wait_list.SleepingEmissions.wake.Goals as goal

pub invariant_of-self : goal.invariant_of-self
invariant_of-self c =
    let left = c.retain.ensures.filtered in
    let is = filter_same _ (λ lain. not (eqb lain.0.0 c.args.ticket)) _ (λ x r f' k. search rules) _ _ left.1 in (
      still_there (λ x. not (eqb x.0 c.args.ticket)) c.args.ticket (λ x other. ap not (ne_eqb x.0 c.args.ticket other)) (λ lain. lain.0) (heap_items c.self.inside.tickets) left.0 (heap_items c.retain.new.self)
          c.self.inside.sleepers.sleeping c.wake.new.self.sleeping c.self.invariant.0 c.wake.ensures.others is left.2,
      c.retain.ensures.heap_order,
    )

pub returns-clause-others : goal.returns-clause-others
returns-clause-others c = subst (λ s. OnlyThese (λ other. other ≢ c.args.ticket) s c.wake.new.self.sleeping) c.self.view_is c.wake.ensures.others
